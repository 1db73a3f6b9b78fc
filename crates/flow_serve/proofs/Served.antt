-- What serving has done, from batch to batch and over the boards in between.
use Rattle.std.proofs.Common.{◌≡◌, inl, inr, ℕ, suc, ◌+◌, true, false, List, [], ◌∷◌, ◌++◌, length, map, refl, sym, ap, ◌∙◌, subst, arith, append-nil, append_assoc, length-append}
use Rattle.std.specs.Prelude.{All}
use Rattle.std.proofs.lemmas.Bool.{cases_Bool}
use Rattle.std.proofs.lemmas.List.Elements.{All-nil, All-cons, All-append}
use Rattle.sqlite_trees.specs.declared.store.Store.{Ghosts}
use Rattle.flow_base.specs.declared.code.Code.TheVariants as code
use Rattle.flow_base.specs.declared.command.Command.{Command}
use Rattle.flow_base.specs.declared.fault.Fault.{Fault}
use Rattle.flow_model.specs.Book.{Book}
use Rattle.flow_base.specs.declared.submission.Taken.{Taken}
use Rattle.flow_queues.specs.declared.refused.Refused.{Refused}
use Rattle.flow_queues.specs.Refusing.{refused_by}
use Rattle.flow_tables.specs.Faults.{Since}
use Rattle.flow_tables.specs.Owned.{state_of}
use Rattle.flow_tables.proofs.Stopping.{hindering_after, since_self, since_then}
use Rattle.flow_commit.specs.Keeping.{Keeping, IsFit, IsUp, KeepsBook, kept_book}
use Rattle.flow_commit.proofs.Following.{up_before}
use Rattle.flow_commit.proofs.Sealing.{down_on, shut_on}
use Rattle.flow_engine.specs.declared.done.Done.{Done}
use Rattle.flow_engine.specs.Boarding.{IsStill, PassesBoarded}
use Rattle.flow_engine.specs.Driving.{NotesAll, all_halted, has_unknown, receipts_in, receipts_told}
use Rattle.flow_engine.specs.Counting.{IsCounted}
use Rattle.flow_engine.specs.GivingUp.{AreGivenUp, WasRefused}
use Rattle.flow_base.specs.declared.task.Task.{Task}
use Rattle.flow_serve.specs.Posting.{HasTurn, HasTurns}
use Rattle.flow_serve.specs.Serving.{HasAnswered, HasServed, IsBatch, ServesBoarded, TurnsAway, codes_in, codes_told}
use Rattle.flow_serve.proofs.Posted.{answered_later}
use Rattle.flow_serve.proofs.Turning.{no_turns, turns_more, turns_on}
use Rattle.flow_engine.proofs.Boarding.{one_passed, serves_by, stands_on, still_behind, still_self}
use Rattle.flow_engine.proofs.Gathering.{off, gathered_more, all_halted_more}
use Rattle.flow_engine.proofs.Counting.{counted_still, counted_then, none_counted}
use Rattle.flow_engine.proofs.GivingUp.{all_given_up_on, given_up_then}
use Rattle.flow_engine.proofs.OneMore.{Stands, WasOwn, book_left, nothing_yet, one_more, one_noted, own_more}

-- The batches that were taken so far, so many, have these answers, and this has answered by a code.
pub record Served {S : Type 0} (g : Ghosts S) (old now : Keeping S) (was told : List Refused) (n : ℕ) : Type 0 where
  pub batches : List (List Taken)
  pub many : length batches ≡ n
  pub dones : List Done
  pub sizes : All IsBatch batches
  pub opened : now.stored.opened ≡ old.stored.opened
  pub fit : IsFit g now → IsFit g old
  pub stands : IsFit g now → (b : Book) → KeepsBook g old b → old.halted ≡ false → Stands g old b now batches dones
  pub passes : IsFit g now → (b : Book) → KeepsBook g old b → old.halted ≡ false → PassesBoarded g old now b batches dones
  pub halted : old.halted ≡ true → now ≡ old
  pub later : old.halted ≡ true → dones ≡ all_halted batches
  pub count : length dones ≡ length batches
  pub noted : old.halted ≡ false → NotesAll old now batches dones
  pub up : IsFit g now → IsUp g now → IsUp g old
  pub own : IsFit g now → IsUp g old → WasOwn g old now
  pub since : IsFit g now → Since (state_of g old.stored) (state_of g now.stored)
  pub given : IsFit g now → AreGivenUp (WasRefused g old now) (kept_book g old) batches dones
  pub counted : IsFit g now → IsCounted g old now (kept_book g old) batches dones
  pub log : now.log ≡ old.log ++ receipts_told batches dones
  pub codes : told ≡ was ++ codes_told batches dones

pub none_served : {S : Type 0} (g : Ghosts S) (old : Keeping S) (was : List Refused) → Served g old old was was 0
none_served g old was = record {
  batches = [];
  many = refl;
  dones = [];
  sizes = All-nil IsBatch;
  opened = refl;
  fit = λ h. h;
  stands = λ h b keeps goes. nothing_yet g old b keeps goes;
  passes = λ h b keeps goes. still_self g old;
  halted = λ _. refl;
  later = λ _. refl;
  count = refl;
  noted = λ goes. record { answers = tt; halted = goes; counts = omega arith };
  up = λ _ up. up;
  own = λ _ _. inl refl;
  since = λ _. since_self (state_of g old.stored);
  given = λ _. tt;
  counted = λ _. none_counted g old (kept_book g old) [];
  log = sym (append-nil old.log);
  codes = sym (append-nil was);
}

module _ {S : Type 0} (g : Ghosts S) (old mid new : Keeping S) where
  -- a cause of what came behind
  refused_after : Since (state_of g old.stored) (state_of g mid.stored) → (k : Book) (cs : List Command) → WasRefused g mid new k cs → WasRefused g old new k cs
  refused_after since k cs (inl many) = inl many
  refused_after since k cs (inr (inl cant)) = inr (inl cant)
  refused_after since k cs (inr (inr (inl shut))) = inr (inr (inl shut))
  refused_after since k cs (inr (inr (inr hindered))) = inr (inr (inr (hindering_after g (state_of g old.stored) (state_of g mid.stored) (state_of g new.stored) since hindered)))

  -- a cause that was there before a board is there behind it
  refused_on : IsStill g mid new → IsFit g new → (k : Book) (cs : List Command) → WasRefused g old mid k cs → WasRefused g old new k cs
  refused_on still fit k cs (inl many) = let kept : new.kept ≡ mid.kept = still.kept in inl (omega (arith, many, kept))
  refused_on still fit k cs (inr (inl cant)) = inr (inl cant)
  refused_on still fit k cs (inr (inr down)) = inr (inr (down_on g old.stored mid.stored new.stored still.stored fit down))

  module _ (was told now : List Refused) (n : ℕ) (served : Served g old mid was told n) where
    goes_still : IsStill g mid new → now ≡ told → mid.halted ≡ false → Served g old new was now n
    goes_still still same goes = record {
      batches = served.batches;
      many = served.many;
      dones = served.dones;
      sizes = served.sizes;
      opened = still.follows.0 ∙ served.opened;
      fit = λ h. served.fit (still.follows.1 h);
      stands = λ h b keeps on. stands_on g old mid new b served.batches served.dones still goes h (served.stands (still.follows.1 h) b keeps on);
      passes = λ h b keeps on. still_behind g old mid new b served.batches served.dones (served.passes (still.follows.1 h) b keeps on) still;
      halted = λ h. off (sym (ap (λ (k : Keeping S). k.halted) (served.halted h) ∙ h) ∙ goes);
      later = served.later;
      count = served.count;
      noted = λ on. (let n = served.noted on in record { answers = n.answers; halted = still.halted ∙ n.halted; counts = still.kept ∙ n.counts });
      up = λ h above. served.up (still.follows.1 h) (up_before g mid.stored new.stored still.stored h above);
      own = λ h above. own_more g old mid new above (served.own (still.follows.1 h) above) (still.own h);
      since = λ h. since_then (state_of g old.stored) (state_of g mid.stored) (state_of g new.stored) (served.since (still.follows.1 h)) (still.stored.3 h.0 h.1);
      given = λ h. all_given_up_on (WasRefused g old mid) (WasRefused g old new) (λ k cs w. refused_on still h k cs w) (kept_book g old) served.batches served.dones (served.given (still.follows.1 h));
      counted = λ h. (let kept : new.kept ≡ mid.kept = still.kept in
          counted_still g old mid new (kept_book g old) served.batches served.dones (still.stored.3 h.0 h.1).0 (omega (arith, kept))
          (shut_on (state_of g mid.stored).is_open (state_of g new.stored).is_open (up_before g mid.stored new.stored still.stored h))
          (served.counted (still.follows.1 h)));
      log = still.log ∙ served.log;
      codes = same ∙ served.codes;
    }

    -- a board in between changes nothing of it
    pub served_still : IsStill g mid new → now ≡ told → Served g old new was now n
    served_still still same = elim (cases_Bool mid.halted) [
      | inl stopped ↦ subst (λ k. Served g old k was now n) (sym (still.nothing stopped))
          (subst (λ l. Served g old mid was l n) (sym same) served)
      | inr goes ↦ goes_still still same goes
    ]

    -- one batch more
    pub served_more : (batch : List Taken) → IsBatch batch → HasAnswered g mid new told now batch → Served g old new was now (suc n)
    served_more batch size one =
        let bs = served.batches in
        let ds = served.dones in
        let before : old.halted ≡ true → mid.halted ≡ true = λ h. ap (λ (k : Keeping S). k.halted) (served.halted h) ∙ h in
        record {
          batches = bs ++ batch ∷ [];
          many = (let long : length (bs ++ batch ∷ []) ≡ length bs + 1 = length-append bs (batch ∷ []) in let before : length bs ≡ n =
              served.many in omega (arith, long, before));
          dones = ds ++ one.ended ∷ [];
          sizes = All-append IsBatch bs (batch ∷ []) served.sizes (All-cons IsBatch batch [] size (All-nil IsBatch));
          opened = one.opened ∙ served.opened;
          fit = λ h. served.fit (one.fit h);
          stands = λ h b keeps goes. one_more g old b mid new bs ds batch (served.stands (one.fit h) b keeps goes) one.ended (one.does h) one.halted one.later (has_unknown ds) refl;
          passes = λ h b keeps goes. one_passed g old mid new b bs ds batch (served.stands (one.fit h) b keeps goes) (served.passes (one.fit h) b keeps goes) one.ended (one.does h) (one.cause h) one.halted one.later (has_unknown ds) refl;
          halted = λ h. one.halted (before h) ∙ served.halted h;
          later = λ h. ap (λ x. ds ++ x ∷ []) (one.later (before h)) ∙ all_halted_more bs ds batch (served.later h);
          count = length-append ds (one.ended ∷ []) ∙ ap (λ n. n + 1) served.count ∙ sym (length-append bs (batch ∷ []));
          noted = λ goes. one_noted old mid new bs ds batch served.count (served.noted goes) one.ended one.noted one.halted one.later (has_unknown ds) refl;
          up = λ h above. served.up (one.fit h) (one.up h above);
          own = λ h above. own_more g old mid new above (served.own (one.fit h) above) (one.own h);
          since = λ h. since_then (state_of g old.stored) (state_of g mid.stored) (state_of g new.stored) (served.since (one.fit h)) (one.on h).since;
          given = λ h. given_up_then g old mid new (kept_book g old) bs ds batch one.ended served.count (λ k cs w. refused_after (served.since (one.fit h)) k cs w) (one.on h) one.later
              (book_left g old mid bs ds served.halted served.noted (served.up (one.fit h)) (served.own (one.fit h)) (served.stands (one.fit h))) (served.given (one.fit h)) (one.why h);
          counted = λ h. counted_then g old mid new (kept_book g old) bs ds batch one.ended served.count (served.since (one.fit h))
              (one.on h) one.later
              (book_left g old mid bs ds served.halted served.noted (served.up (one.fit h)) (served.own (one.fit h))
              (served.stands (one.fit h))) (served.counted (one.fit h)) (one.why h);
          log = one.log ∙ ap (λ l. l ++ receipts_in batch one.ended) served.log ∙ append_assoc old.log (receipts_told bs ds) (receipts_in batch one.ended)
              ∙ ap (λ l. old.log ++ l) (sym (gathered_more receipts_in bs ds batch one.ended (sym served.count)));
          codes = one.codes ∙ ap (λ l. l ++ codes_in batch one.ended) served.codes ∙ append_assoc was (codes_told bs ds) (codes_in batch one.ended)
              ∙ ap (λ l. was ++ l) (sym (gathered_more codes_in bs ds batch one.ended (sym served.count)));
        }

---- At the end

module _ {S : Type 0} (g : Ghosts S) (old now : Keeping S) (was told : List Refused) where
  pub has_served : (n : ℕ) → Served g old now was told n → HasServed g old now was told []
  has_served n served =
      let bs = served.batches in
      let ds = served.dones in
      record {
        batches = bs;
        dones = ds;
        sizes = served.sizes;
        runs = record {
          opened = served.opened;
          fit = served.fit;
          serves = λ fit b keeps goes. serves_by g old now b bs ds (served.stands fit b keeps goes) (served.passes fit b keeps goes);
          still = λ h. (served.halted h, served.later h);
        };
        noted = served.noted;
        log = served.log;
        codes = served.codes ∙ sym (append-nil (was ++ codes_told bs ds));
        given_up = served.given;
        counted = served.counted;
      }

  -- and what waited was turned away
  pub served_behind : (last : List Refused) (waiting : List Taken) → HasServed g old now was told [] → TurnsAway told last waiting → HasServed g old now was last waiting
  served_behind last waiting served turns =
      let front = was ++ codes_told served.batches served.dones in
      record {
        batches = served.batches;
        dones = served.dones;
        sizes = served.sizes;
        runs = served.runs;
        noted = served.noted;
        log = served.log;
        codes = turns ∙ ap (λ l. l ++ map (refused_by code.Halted) waiting) (served.codes ∙ append-nil front);
        given_up = served.given_up;
        counted = served.counted;
      }

-- nothing was taken, and all was turned away
pub unserved : {S : Type 0} (g : Ghosts S) (old : Keeping S) (was last : List Refused) (waiting : List Taken) → TurnsAway was last waiting → HasServed g old old was last waiting
unserved g old was last waiting turns = served_behind g old old was was last waiting
    (has_served g old old was was 0 (none_served g old was)) turns

---- Boards

-- The batches so far, and the boards that were asked for: one more, if it is sure that what is gone is over.
pub record Turned {S : Type 0} (g : Ghosts S) (sure : Type 0) (tells : ℕ → Type 0) (old now : Keeping S) (was told : List Refused)
    (first posted : List Task) (left missed : List Fault) : Type 0 where
  pub count : ℕ
  pub served : Served g old now was told count
  pub turns : sure → HasTurns g tells old now first posted left missed (suc count)

module _ {S : Type 0} (g : Ghosts S) (tells : ℕ → Type 0) (old : Keeping S) (was : List Refused) (first : List Task) (left : List Fault) where
  -- the first board
  pub boarded_first : (sure : Type 0) (new : Keeping S) (told : List Refused) (posted : List Task) (missed : List Fault) → IsStill g old new → told ≡ was
      → (sure → HasTurn g tells old new first posted left missed) → Turned g sure tells old new was told first posted left missed
  boarded_first sure new told posted missed still same turn = record {
    count = 0;
    served = served_still g old old new was was told 0 (none_served g old was) still same;
    turns = λ over. turns_more g tells old old new first first posted left left missed 0 (no_turns g tells old first left) refl still
        (λ _. since_self (state_of g old.stored)) (turn over);
  }

  module _ (sure : Type 0) (mid kept new : Keeping S) (then told now : List Refused) (posted : List Task) (since : List Fault) (batch : List Taken) (size : IsBatch batch)
      (b : Turned g sure tells old mid was then first posted left since) (one : HasAnswered g mid kept then told batch) (found : kept.found ≡ mid.found)
    where
      behind : Served g old kept was told (suc b.count)
      behind = served_more g old mid kept was then told b.count b.served batch size one

      committed : (posted' : List Task) (missed : List Fault) → posted' ≡ posted → missed ≡ since → sure
          → HasTurns g tells old kept first posted' left missed (suc b.count)
      committed posted' missed same none over = turns_on g tells old mid kept first posted posted' left since missed (suc b.count)
          (answered_later g mid kept then told batch one found) same none one.on (b.turns over)

      -- one batch more, and a board behind it
      pub boarded_more : (posted' after' : List Task) (missed behind' : List Fault) → posted' ≡ posted → missed ≡ since
          → kept.halted ≡ old.halted → IsStill g kept new → now ≡ told
          → (sure → HasTurn g tells kept new posted' after' missed behind') → Turned g sure tells old new was now first after' left behind'
      boarded_more posted' after' missed behind' same none halted still told_on turn = record {
        count = suc b.count;
        served = served_still g old kept new was told now (suc b.count) behind still told_on;
        turns = λ over. turns_more g tells old kept new first posted' after' left missed behind' (suc b.count) (committed posted' missed same none over) halted still
            behind.since (turn over);
      }

      -- one batch more, and nothing behind it
      pub boarded_last : (posted' : List Task) (missed : List Fault) → posted' ≡ posted → missed ≡ since → sure
          → ServesBoarded g tells old kept was told [] first posted' left missed 0
      unfolding has_served behind
      boarded_last posted' missed same none over =
          let served = behind in
          let many : length served.batches ≡ suc b.count = served.many in
          let count : suc b.count ≡ 0 + length served.batches = omega (arith, many) in
          record {
            served = has_served g old kept was told (suc b.count) served;
            turns = subst (λ (n : ℕ). HasTurns g tells old kept first posted' left missed n) count (committed posted' missed same none over);
          }

  -- the hub is closed, and nothing more is taken
  pub boarded_done : (sure : Type 0) (mid : Keeping S) (then told : List Refused) (posted posted' : List Task) (since missed : List Fault) → told ≡ then
      → posted' ≡ posted → missed ≡ since → Turned g sure tells old mid was then first posted left since → sure
      → ServesBoarded g tells old mid was told [] first posted' left missed 1
  unfolding has_served
  boarded_done sure mid then told posted posted' since missed same none skips b over =
      let served = subst (λ (rs : List Refused). Served g old mid was rs b.count) (sym same) b.served in
      let turns = subst (λ (fs : List Fault). HasTurns g tells old mid first posted' left fs (suc b.count)) (sym skips)
      (subst (λ (ts : List Task). HasTurns g tells old mid first ts left since (suc b.count)) (sym none) (b.turns over)) in
      let many : length served.batches ≡ b.count = served.many in
      let count : suc b.count ≡ 1 + length served.batches = omega (arith, many) in
      record {
        served = has_served g old mid was told b.count served;
        turns = subst (λ (n : ℕ). HasTurns g tells old mid first posted' left missed n) count turns;
      }

  -- and what waited was turned away, behind which there is no board
  pub boarded_behind : (now : Keeping S) (told last : List Refused) (posted posted' : List Task) (missed : List Fault) (waiting : List Taken)
      → TurnsAway told last waiting → posted' ≡ posted → ServesBoarded g tells old now was told [] first posted left missed 0
      → ServesBoarded g tells old now was last waiting first posted' left missed 0
  unfolding served_behind
  boarded_behind now told last posted posted' missed waiting turns same b = record {
    served = served_behind g old now was told last waiting b.served turns;
    turns = subst (λ (ts : List Task). HasTurns g tells old now first ts left missed (0 + length b.served.batches)) (sym same) b.turns;
  }

  -- nothing was taken
  pub unboarded : (last : List Refused) (posted : List Task) (waiting : List Taken) → TurnsAway was last waiting → posted ≡ first
      → ServesBoarded g tells old old was last waiting first posted left left 0
  unfolding unserved served_behind has_served none_served
  unboarded last posted waiting turns same = record {
    served = unserved g old was last waiting turns;
    turns = subst (λ (ts : List Task). HasTurns g tells old old first ts left left 0) (sym same) (no_turns g tells old first left);
  }
