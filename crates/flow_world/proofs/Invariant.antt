-- Whatever happens, a stop leaves the log, or the log and the whole batch.
use Rattle.std.proofs.Common.{◌≡◌, ℕ, zero, suc, ◌+◌, ◌-◌, ◌≤◌, List, [], ◌∷◌, ◌++◌, length, take, drop, refl, sym, ◌∙◌, subst, arith, append_assoc, Option, Some, None, Bool, true, false, ⊎_elim, inl, inr}
use Rattle.std.specs.Prelude.{◌⊎◌, slice_get, nat_eq, nat_le, ◌&&◌, Contains, if◌then◌else◌}
use Rattle.std.specs.List.{AllByRecursion}
use Rattle.std.proofs.lemmas.List.{take-append-drop, length-take, append-nil, length-append, length-map, map-append}
use Rattle.std.proofs.lemmas.List.Elements.{Contains-append_cases, Contains-append_left}
use Rattle.flow_base.specs.declared.command.Command.{Command}
use Rattle.flow_base.specs.declared.command.Reply.{Reply}
use Rattle.flow_model.specs.Book.{Book, nth}
use Rattle.flow_model.specs.Apply.{Rules}
use Rattle.flow_model.specs.Logs.{Entry, limited, entered, its_command, commands_in, after_entry, after_log, log_replies}
use Rattle.flow_model.specs.Sound.{IsSound}
use Rattle.flow_model.specs.World.{Attempt, is_open_task, Receipt, Stage, Idle, Writing, Committing, Halted, Stopped, World, first, Step, Submit, Report, Failure, Take, Write, WriteFails, CommitBegins, CommitDone, CommitFails, RefusedRollback, Publish, Dispatch, Crash, Reopen, Migrate, submitted, reported, completion, failure, batch_limit, taken, rolled_back, not_rolled_back, commit_begun, commit_done, commit_failed, receipts_from, published_in, dispatched_in, stopped, opened, migrated, Opens, Goes, Comes, IsIn, HoldsAcknowledged, IsSafe, TakesOver, WorldIsSafe, WorldOpensWell}
use Rattle.flow_model.proofs.Logs.{log_replies_cut, length-log_replies, nth_next}
use Rattle.flow_machine.specs.Soundness.{ReadsWellFormed}
use Rattle.flow_machine.proofs.Keeps.{step_keeps}
use Rattle.flow_machine.proofs.Places.{nth_kept}

-- Lists.

all_into : {A : Type 0} (P Q : A → Type 0) → ((x : A) → P x → Q x) → (xs : List A) → AllByRecursion P xs → AllByRecursion Q xs
all_into P Q f [] a = tt
all_into P Q f (x ∷ xs) a = (f x a.0, all_into P Q f xs a.1)

all_joined : {A : Type 0} (P : A → Type 0) (xs ys : List A) → AllByRecursion P xs → AllByRecursion P ys → AllByRecursion P (xs ++ ys)
all_joined P [] ys a b = b
all_joined P (x ∷ xs) ys a b = (a.0, all_joined P xs ys a.1 b)

of_one : {A : Type 0} (x y : A) → Contains (x ∷ []) y → y ≡ x
of_one x y (zero, k, e) = sym e
of_one x y (suc n, k, e) = absurd (omega (arith, k))

in_one : {A : Type 0} (x : A) → Contains (x ∷ []) x
in_one x = (0, omega arith, refl)

-- Soundness doesn't ask for the limit, so a log keeps it under any.

sound_limited : (u : Rules) (n : ℕ) (b : Book) → IsSound u b → IsSound (limited u n) b
sound_limited u n b s =
    record {
      runs = λ i r k. (
          let h = s.runs i r k in
          record { program = h.program; its_text = h.its_text; place = h.place; stands = h.stands; activities = h.activities; attempts = h.attempts });
      one_open = s.one_open;
    }

log_keeps : (u : Rules) (b : Book) (es : List Entry) → ReadsWellFormed u → IsSound u b → IsSound u (after_log u b es)
log_keeps u b [] f s = s
log_keeps u b (e ∷ es) f s =
    let under = limited u e.limit in
    let next : IsSound under (after_entry u b e) = step_keeps under b e.command f (sound_limited u e.limit b s) in
    log_keeps u (after_entry u b e) es f (sound_limited under u.limit (after_entry u b e) next)

-- Receipts.

-- a longer log has what a shorter one had
in_more : (u : Rules) (base : Book) (b more : List Entry) (r : Receipt) → IsIn u base b r → IsIn u base (b ++ more) r
in_more u base b more r i =
    record {
      command = subst (λ cs. nth cs (r.opening + r.place) ≡ Some r.command) (sym (map-append its_command b more)) (nth_kept (commands_in b) (commands_in more) (r.opening + r.place) r.command i.command);
      reply = subst (λ rs. nth rs (r.opening + r.place) ≡ Some r.reply) (sym (log_replies_cut u base b more)) (nth_kept (log_replies u base b) (log_replies u (after_log u base b) more) (r.opening + r.place) r.reply i.reply);
    }

held_in_more : (u : Rules) (base : Book) (b more : List Entry) (rs : List Receipt) → AllByRecursion (IsIn u base b) rs → AllByRecursion (IsIn u base (b ++ more)) rs
held_in_more u base b more rs a = all_into (IsIn u base b) (IsIn u base (b ++ more)) (in_more u base b more) rs a

-- receipts that are made of lists stand in them, where these lists begin behind as many others as the place says
abbrev IsAt : List Command → List Reply → Receipt → Type 0
IsAt b replies r = (nth b (r.opening + r.place) ≡ Some r.command) × (nth replies (r.opening + r.place) ≡ Some r.reply)

receipts_at : (opening place : ℕ) (pre cs : List Command) (done rs : List Reply) → opening + place ≡ suc (length pre) → length done ≡ length pre → AllByRecursion (IsAt (pre ++ cs) (done ++ rs)) (receipts_from opening place cs rs)
receipts_at opening place pre [] done rs p q = tt
receipts_at opening place pre (c ∷ cs) done [] p q = tt
receipts_at opening place pre (c ∷ cs) done (r ∷ rs) p q =
    let later = receipts_at opening (suc place) (pre ++ c ∷ []) cs (done ++ r ∷ []) rs (omega (arith, p, length-append pre (c ∷ []))) (omega (arith, q, length-append pre (c ∷ []), length-append done (r ∷ []))) in
    let later1 = subst (λ l. AllByRecursion (IsAt l ((done ++ r ∷ []) ++ rs)) (receipts_from opening (suc place) cs rs)) (append_assoc pre (c ∷ []) cs) later in
    let later2 = subst (λ l. AllByRecursion (IsAt (pre ++ c ∷ cs) l) (receipts_from opening (suc place) cs rs)) (append_assoc done (r ∷ []) rs) later1 in
    ((nth_next pre c cs (opening + place) p, nth_next done r rs (opening + place) (omega (arith, p, q))), later2)

-- What a stop may leave.

-- the log, or the log and the whole batch
abbrev IsEither : Rules → World → Book → Type 0
IsEither u w x = (x ≡ after_log u w.base w.log) ⊎ (x ≡ after_log u w.base (w.log ++ w.batch))

-- the batch is there only once its commit has begun
abbrev LeftAt : Rules → World → Stage → Book → Type 0
LeftAt u w Idle x = x ≡ after_log u w.base w.log
LeftAt u w Writing x = x ≡ after_log u w.base w.log
LeftAt u w st x = IsEither u w x

-- after a crash one book is on the disk
abbrev AloneAt : List Book → Stage → Type 0
AloneAt may Stopped = (x y : Book) → Contains may x → Contains may y → x ≡ y
AloneAt may st = Unit {0}

record Invariant (u : Rules) (base : Book) (w : World) : Type 0 where
  based : w.base ≡ base
  there : (x : Book) × Contains w.may x
  left : (x : Book) → Contains w.may x → LeftAt u w w.stage x
  order : (w.opening ≤ w.published) × (w.published ≤ length w.log)
  told : HoldsAcknowledged u w w.log
  alone : AloneAt w.may w.stage

left_is : (u : Rules) (w : World) (st : Stage) (x : Book) → LeftAt u w st x → IsEither u w x
left_is u w Idle x l = inl l
left_is u w Writing x l = inl l
left_is u w Committing x l = l
left_is u w Halted x l = l
left_is u w Stopped x l = l

at_first : (u : Rules) (limit : ℕ) (base : Book) → Invariant u base (first limit base)
at_first u limit base =
    record { based = refl; there = (base, in_one base); left = λ x h. of_one base x h; order = (omega arith, omega arith); told = tt; alone = tt }

is_safe : (u : Rules) (base : Book) → ReadsWellFormed u → (w : World) → IsSound u base → Invariant u base w → (w.base ≡ base) × IsSafe u w
is_safe u base f w s i =
    let sound = subst (IsSound u) (sym i.based) s in (
      i.based,
      record {
        some = i.there;
        each = λ x h.
            ⊎_elim (λ (e : x ≡ after_log u w.base w.log).
            record {
              sound = subst (IsSound u) (sym e) (log_keeps u w.base w.log f sound);
              kept = w.log;
              book_is = e;
              whole = inl refl;
              beginning = (w.batch, refl);
              acknowledged = i.told;
            })
            (λ (e : x ≡ after_log u w.base (w.log ++ w.batch)).
            record {
              sound = subst (IsSound u) (sym e) (log_keeps u w.base (w.log ++ w.batch) f sound);
              kept = w.log ++ w.batch;
              book_is = e;
              whole = inr refl;
              beginning = ([], sym (append-nil (w.log ++ w.batch)));
              acknowledged = held_in_more u w.base w.log w.batch w.receipts i.told;
            })
            (left_is u w w.stage x (i.left x h));
      },
    )

-- Each step keeps it.

-- a world that differs in what the invariant doesn't speak of
submits : (u : Rules) (base : Book) (w : World) (st : Stage) (c : Command) → Invariant u base w → Invariant u base (submitted w st c)
submits u base w Stopped c i = i
submits u base w Idle c i = record { based = i.based; there = i.there; left = i.left; order = i.order; told = i.told; alone = i.alone }
submits u base w Writing c i = record { based = i.based; there = i.there; left = i.left; order = i.order; told = i.told; alone = i.alone }
submits u base w Committing c i = record { based = i.based; there = i.there; left = i.left; order = i.order; told = i.told; alone = i.alone }
submits u base w Halted c i = record { based = i.based; there = i.there; left = i.left; order = i.order; told = i.told; alone = i.alone }

reports : (u : Rules) (base : Book) (w : World) (st : Stage) (o : Option Attempt) (report : Attempt → Command) → Invariant u base w → Invariant u base (reported w st o report)
reports u base w st None report i = i
reports u base w st (Some a) report i = submits u base w st (report a) i

either : (u : Rules) (base : Book) (b : Bool) (new old : World) → Invariant u base new → Invariant u base old → Invariant u base (if b then new else old)
either u base true new old i j = i
either u base false new old i j = j

takes : (u : Rules) (base : Book) (w : World) (st : Stage) (k : ℕ) → w.stage ≡ st → Invariant u base w → Invariant u base (taken w st k)
takes u base w Idle k e i =
    either u base (nat_le 1 k && nat_le k batch_limit && nat_le k (length w.inbox))
    (record w { batch = entered w.limit (take k w.inbox); inbox = drop k w.inbox; stage = Writing }) w
    (record { based = i.based; there = i.there; left = λ x h. subst (λ s. LeftAt u w s x) e (i.left x h); order = i.order; told = i.told; alone = tt }) i
takes u base w Writing k e i = i
takes u base w Committing k e i = i
takes u base w Halted k e i = i
takes u base w Stopped k e i = i

rolls_back : (u : Rules) (base : Book) (w : World) (st : Stage) → w.stage ≡ st → Invariant u base w → Invariant u base (rolled_back w st)
rolls_back u base w Writing e i =
    record { based = i.based; there = i.there; left = λ x h. subst (λ s. LeftAt u w s x) e (i.left x h); order = i.order; told = i.told; alone = tt }
rolls_back u base w Idle e i = i
rolls_back u base w Committing e i = i
rolls_back u base w Halted e i = i
rolls_back u base w Stopped e i = i

fails_to_roll_back : (u : Rules) (base : Book) (w : World) (st : Stage) → w.stage ≡ st → Invariant u base w → Invariant u base (not_rolled_back w st)
fails_to_roll_back u base w Writing e i =
    record { based = i.based; there = i.there; left = λ x h. inl (subst (λ s. LeftAt u w s x) e (i.left x h)); order = i.order; told = i.told; alone = tt }
fails_to_roll_back u base w Idle e i = i
fails_to_roll_back u base w Committing e i = i
fails_to_roll_back u base w Halted e i = i
fails_to_roll_back u base w Stopped e i = i

begins_commit : (u : Rules) (base : Book) (w : World) (st : Stage) → w.stage ≡ st → Invariant u base w → Invariant u base (commit_begun u w st)
begins_commit u base w Writing e i =
    let more = after_log u w.base (w.log ++ w.batch) in
    record {
      based = i.based;
      there = (i.there.0, Contains-append_left w.may (more ∷ []) i.there.0 i.there.1);
      left = λ x h.
          ⊎_elim (λ (a : Contains w.may x). inl (subst (λ s. LeftAt u w s x) e (i.left x a))) (λ (b : Contains (more ∷ []) x). inr (of_one more x b))
          (Contains-append_cases w.may (more ∷ []) x h);
      order = i.order;
      told = i.told;
      alone = tt;
    }
begins_commit u base w Idle e i = i
begins_commit u base w Committing e i = i
begins_commit u base w Halted e i = i
begins_commit u base w Stopped e i = i

fails_commit : (u : Rules) (base : Book) (w : World) (st : Stage) → w.stage ≡ st → Invariant u base w → Invariant u base (commit_failed w st)
fails_commit u base w Committing e i =
    record { based = i.based; there = i.there; left = λ x h. subst (λ s. LeftAt u w s x) e (i.left x h); order = i.order; told = i.told; alone = tt }
fails_commit u base w Idle e i = i
fails_commit u base w Writing e i = i
fails_commit u base w Halted e i = i
fails_commit u base w Stopped e i = i

commits : (u : Rules) (base : Book) (w : World) (st : Stage) → Invariant u base w → Invariant u base (commit_done u w st)
commits u base w Committing i =
    let kept = after_log u w.base (w.log ++ w.batch) in
    record {
      based = i.based;
      there = (kept, in_one kept);
      left = λ x h. of_one kept x h;
      order = (i.order.0, omega (arith, i.order.1, length-append w.log w.batch));
      told = held_in_more u w.base w.log w.batch w.receipts i.told;
      alone = tt;
    }
commits u base w Idle i = i
commits u base w Writing i = i
commits u base w Halted i = i
commits u base w Stopped i = i

-- all of the log has its receipts
receipts_held : (u : Rules) (base : Book) (w : World) → Invariant u base w
    → AllByRecursion (IsIn u w.base w.log) (w.receipts ++ receipts_from w.opening (suc (w.published - w.opening)) (drop w.published (commands_in w.log)) (drop w.published (log_replies u w.base w.log)))
receipts_held u base w i =
    let asked = commands_in w.log in
    let told = log_replies u w.base w.log in
    let more = receipts_from w.opening (suc (w.published - w.opening)) (drop w.published asked) (drop w.published told) in
    let here : length (take w.published asked) ≡ w.published = omega (arith, length-take w.published asked, length-map w.log its_command, i.order.1) in
    let there : length (take w.published told) ≡ w.published = omega (arith, length-take w.published told, length-log_replies u w.base w.log, i.order.1) in
    let new = receipts_at w.opening (suc (w.published - w.opening)) (take w.published asked) (drop w.published asked) (take w.published told) (drop w.published told) (omega (arith, here, i.order.0)) (there ∙ sym here) in
    let new1 = subst (λ l. AllByRecursion (IsAt l (take w.published told ++ drop w.published told)) more) (take-append-drop w.published asked) new in
    let new2 = subst (λ l. AllByRecursion (IsAt asked l) more) (take-append-drop w.published told) new1 in
    all_joined (IsIn u w.base w.log) w.receipts more i.told (all_into (IsAt asked told) (IsIn u w.base w.log) (λ r h. record { command = h.0; reply = h.1 }) more new2)

publishes : (u : Rules) (base : Book) (w : World) (st : Stage) → Invariant u base w → Invariant u base (published_in u w st)
publishes u base w Stopped i = i
publishes u base w Idle i = record { based = i.based; there = i.there; left = i.left; order = (omega (arith, i.order), omega arith); told = receipts_held u base w i; alone = i.alone }
publishes u base w Writing i = record { based = i.based; there = i.there; left = i.left; order = (omega (arith, i.order), omega arith); told = receipts_held u base w i; alone = i.alone }
publishes u base w Committing i = record { based = i.based; there = i.there; left = i.left; order = (omega (arith, i.order), omega arith); told = receipts_held u base w i; alone = i.alone }
publishes u base w Halted i = record { based = i.based; there = i.there; left = i.left; order = (omega (arith, i.order), omega arith); told = receipts_held u base w i; alone = i.alone }

handed_out : (u : Rules) (base : Book) (w : World) (a : Attempt) → Invariant u base w → Invariant u base (if is_open_task (after_log u w.base w.log) a then record w { dispatched = a ∷ w.dispatched } else w)
handed_out u base w a i =
    either u base (is_open_task (after_log u w.base w.log) a) (record w { dispatched = a ∷ w.dispatched }) w (record { based = i.based; there = i.there; left = i.left; order = i.order; told = i.told; alone = i.alone }) i

dispatches : (u : Rules) (base : Book) (w : World) (st : Stage) (a : Attempt) → Invariant u base w → Invariant u base (dispatched_in u w st a)
dispatches u base w Stopped a i = i
dispatches u base w Idle a i = handed_out u base w a i
dispatches u base w Writing a i = handed_out u base w a i
dispatches u base w Committing a i = handed_out u base w a i
dispatches u base w Halted a i = handed_out u base w a i

migrates : (u : Rules) (base : Book) (w : World) (st : Stage) → Invariant u base w → Invariant u base (migrated u w st)
migrates u base w Idle i =
    either u base (nat_eq (length w.log) w.opening) (record w { limit = u.limit }) w
    (record { based = i.based; there = i.there; left = i.left; order = i.order; told = i.told; alone = i.alone }) i
migrates u base w Writing i = i
migrates u base w Committing i = i
migrates u base w Halted i = i
migrates u base w Stopped i = i

stops : (u : Rules) (base : Book) (w : World) (found : Book) → Contains w.may found → Invariant u base w → Invariant u base (stopped w found)
stops u base w found h i =
    record {
      based = i.based;
      there = (found, in_one found);
      left = λ x a. subst (IsEither u w) (sym (of_one found x a)) (left_is u w w.stage found (i.left found h));
      order = i.order;
      told = i.told;
      alone = λ x y a b. of_one found x a ∙ sym (of_one found y b);
    }

-- Openings.

took_over : (u : Rules) (base : Book) (w v : World) (st : Stage) → w.stage ≡ st → st ≡ Stopped → Invariant u base w → Opens u w st v → TakesOver u w v
took_over u base w v Idle e n i o = absurd (cc n)
took_over u base w v Writing e n i o = absurd (cc n)
took_over u base w v Committing e n i o = absurd (cc n)
took_over u base w v Halted e n i o = absurd (cc n)
took_over u base w v Stopped e n i o =
    let alone = subst (λ s. AloneAt w.may s) e i.alone in
    ⊎_elim (λ (h : Contains w.may (after_log u w.base w.log) × (v ≡ opened w w.log)).
    subst (TakesOver u w) (sym h.1) (record { is_found = λ x a. alone x (after_log u w.base w.log) a h.0; whole = inl refl; acknowledged = i.told }))
    (λ (h : (Contains w.may (after_log u w.base w.log) → ⊥) × (v ≡ opened w (w.log ++ w.batch))).
    subst (TakesOver u w) (sym h.1) (record {
      is_found = λ x a.
          ⊎_elim (λ (b : x ≡ after_log u w.base w.log). absurd (h.0 (subst (Contains w.may) b a))) (λ (b : x ≡ after_log u w.base (w.log ++ w.batch)). b)
          (left_is u w w.stage x (i.left x a));
      whole = inr refl;
      acknowledged = held_in_more u w.base w.log w.batch w.receipts i.told;
    })) o

opens : (u : Rules) (base : Book) (w : World) (log : List Entry) → TakesOver u w (opened w log) → Invariant u base w → Invariant u base (opened w log)
opens u base w log t i =
    record { based = i.based; there = i.there; left = t.is_found; order = (omega arith, omega arith); told = t.acknowledged; alone = tt }

reopens : (u : Rules) (base : Book) (w v : World) (st : Stage) → w.stage ≡ st → Invariant u base w → Opens u w st v → Invariant u base v
reopens u base w v Idle e i o = subst (Invariant u base) (sym o) i
reopens u base w v Writing e i o = subst (Invariant u base) (sym o) i
reopens u base w v Committing e i o = subst (Invariant u base) (sym o) i
reopens u base w v Halted e i o = subst (Invariant u base) (sym o) i
reopens u base w v Stopped e i o =
    let t = took_over u base w v Stopped e refl i o in
    ⊎_elim (λ (h : Contains w.may (after_log u w.base w.log) × (v ≡ opened w w.log)).
    subst (Invariant u base) (sym h.1) (opens u base w w.log (subst (TakesOver u w) h.1 t) i))
    (λ (h : (Contains w.may (after_log u w.base w.log) → ⊥) × (v ≡ opened w (w.log ++ w.batch))).
    subst (Invariant u base) (sym h.1) (opens u base w (w.log ++ w.batch) (subst (TakesOver u w) h.1 t) i)) o

-- wherever a step leads
step_on : (u : Rules) (base : Book) (w : World) (s : Step) (v : World) → Invariant u base w → Goes u w s v → Invariant u base v
step_on u base w (Submit c) v i g = subst (Invariant u base) (sym g) (submits u base w w.stage c i)
step_on u base w (Report n value at) v i g = subst (Invariant u base) (sym g) (reports u base w w.stage (slice_get w.dispatched n) (completion value at) i)
step_on u base w (Failure n reason at) v i g = subst (Invariant u base) (sym g) (reports u base w w.stage (slice_get w.dispatched n) (failure reason at) i)
step_on u base w (Take k) v i g = subst (Invariant u base) (sym g) (takes u base w w.stage k refl i)
step_on u base w Write v i g = subst (Invariant u base) (sym g) i
step_on u base w WriteFails v i g = subst (Invariant u base) (sym g) (rolls_back u base w w.stage refl i)
step_on u base w CommitBegins v i g = subst (Invariant u base) (sym g) (begins_commit u base w w.stage refl i)
step_on u base w CommitDone v i g = subst (Invariant u base) (sym g) (commits u base w w.stage i)
step_on u base w CommitFails v i g = subst (Invariant u base) (sym g) (fails_commit u base w w.stage refl i)
step_on u base w RefusedRollback v i g = subst (Invariant u base) (sym g) (fails_to_roll_back u base w w.stage refl i)
step_on u base w Publish v i g = subst (Invariant u base) (sym g) (publishes u base w w.stage i)
step_on u base w (Dispatch a) v i g = subst (Invariant u base) (sym g) (dispatches u base w w.stage a i)
step_on u base w (Crash found) v i g = subst (Invariant u base) (sym g.1) (stops u base w found g.0 i)
step_on u base w Reopen v i g = reopens u base w v w.stage refl i g
step_on u base w Migrate v i g = subst (Invariant u base) (sym g) (migrates u base w w.stage i)

-- wherever steps lead
steps_on : (u : Rules) (base : Book) (ss : List Step) (w v : World) → Invariant u base w → Comes u w ss v → Invariant u base v
steps_on u base [] w v i c = subst (Invariant u base) (sym c) i
steps_on u base (s ∷ ss) w v i (x, (g, c)) = steps_on u base ss x v (step_on u base w s x i g) c

pub safe : (u : Rules) → ReadsWellFormed u → WorldIsSafe u
safe u f limit base ss w s c = is_safe u base f w s (steps_on u base ss (first limit base) w (at_first u limit base) c)

pub opens_well : (u : Rules) → WorldOpensWell u
opens_well u limit base ss w v c n g = took_over u base w v w.stage refl n (steps_on u base ss (first limit base) w (at_first u limit base) c) g
