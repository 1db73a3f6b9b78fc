-- What a run waits on, of one sort, and what its moves and inputs make of that: nothing waits on an event that is still to come.
use Rattle.std.proofs.Common.{◌≡◌, ℕ, List, refl, sym, ap, ◌∙◌, subst, Option, Some, None, Bool, true, false, is_some}
use Rattle.std.specs.Prelude.{◌≢◌, ◌&&◌, nat_eq, nat_lt, Result, Ok, Err, if◌then◌else◌}
use Rattle.std.proofs.lemmas.Option.{none-some}
use Rattle.std.proofs.lemmas.Bool.{true≢false, eqb-true, eq-eqb, ne_eqb}
use Rattle.flow_base.specs.Syntax.{Bytes, Statement, Let, Assign, Call, WaitSignal, WaitSignalFor, Sleep, If, While, Parallel, Patch, Deprecate, Return, FailWith, Continue, Block, End, Next, Otherwise, NoElse, Else, Branches, NoBranch, Branch}
use Rattle.flow_base.specs.declared.value.Value.{Value}
use Rattle.flow_base.specs.declared.value.Kind.{Kind}
use Rattle.flow_base.specs.declared.event.Cause.{Cause}
use Rattle.flow_base.specs.declared.event.Cause.TheVariants.{TurnBudget, WaitLimit, UserFail, ChainLimit, ActivityFailed}
use Rattle.flow_base.specs.declared.event.Cmd.{Cmd}
use Rattle.flow_base.specs.declared.event.Cmd.TheVariants.{Schedule, StartTimer, CancelTimer, RecordMarker, Complete, Fail, ContinueAsNew}
use Rattle.flow_base.specs.declared.event.Input.{Input}
use Rattle.flow_base.specs.declared.event.Input.TheVariants as input
use Rattle.flow_model.specs.Values.{value, values, due, is_true, text_of}
use Rattle.flow_model.specs.Rest.{Rest, Done, OnActivity, OnTimer, OnSignal, OnSignalFor, Raised, Then, Beside, rest_of, rest_else, branches_of, is_done, is_end}
use Rattle.flow_model.specs.Step.{Store, Setting, Move, Stays, Goes, Asks, Ends, on_value, on_signal, oldest, waiting, wait_limit, test_limit, tested, picked, decide, patched, begin, around, first_of, followed_by, or_move, move, raise, set_in, take_signal, gives_of}
use Rattle.flow_model.specs.Deliver.{or_rest, map_rest, replaced, when_completed, when_failed, when_fired}
use Rattle.flow_model.proofs.Awaits.{Sort, called, wait_of, none_if}

---- Acts

-- What an event does to the waits of a sort.
pub data Act (A : Type 0) : Type 0 where
  -- it opens one, its own
  Adds : A → Act A
  -- it ends that of this event
  Drops : ℕ → Act A
  -- it closes the run
  Clears : Act A
  Same : Act A

abbrev pub adds : {A : Type 0} → Option A → Act A
adds None = Same
adds (Some a) = Adds a

abbrev pub drops : {A B : Type 0} → Option B → ℕ → Act A
drops None n = Same
drops (Some b) n = Drops n

abbrev pub asked : {A : Type 0} → Sort A → Cmd → Act A
asked s (Schedule a vs tries every k) = adds (called s.call k)
asked s (StartTimer d) = adds s.timer
asked s (CancelTimer n) = drops s.timer n
asked s (RecordMarker id) = Same
asked s (Complete v) = Clears
asked s (Fail c t) = Clears
asked s (ContinueAsNew vs) = Clears

abbrev pub came : {A : Type 0} → Sort A → Input → Act A
came s (input.Started vs) = Same
came s (input.Signaled name request v) = Same
came s (input.ActivityCompleted n v) = drops s.call n
came s (input.ActivityFailed n text) = drops s.call n
came s (input.TimerFired n) = drops s.timer n
came s (input.Terminated text) = Clears

---- Waits

module _ {A : Type 0} (w : Sort A) where
  -- the two rests wait on the same
  abbrev pub SameWaits : Rest → Rest → Type 0
  SameWaits r q = (n : ℕ) → wait_of w n q ≡ wait_of w n r

  -- but for one event
  abbrev pub OthersSame : ℕ → Rest → Rest → Type 0
  OthersSame m r q = (n : ℕ) → n ≢ m → wait_of w n q ≡ wait_of w n r

  -- The new rest waits on what the old one did, but for what event e did.
  abbrev pub Did : ℕ → Rest → Rest → Act A → Type 0
  Did e r q (Adds a) = OthersSame e r q × (wait_of w e r ≡ None → wait_of w e q ≡ Some a)
  Did e r q (Drops m) = OthersSame m r q × (is_some (wait_of w m r) ≡ true)
  Did e r q Clears = ⊥
  Did e r q Same = SameWaits r q

  -- What stands around a rest makes of its waits: it may have waits of its own, which hide those of the same event.
  record Around (f : Rest → Rest) (r whole : Rest) (lift : ℕ → Option A → Option A) : Type 0 where
    made : (n : ℕ) (q : Rest) → wait_of w n (f q) ≡ lift n (wait_of w n q)
    was : (n : ℕ) → wait_of w n whole ≡ lift n (wait_of w n r)
    none : (n : ℕ) (o : Option A) → lift n o ≡ None → o ≡ None
    some : (n : ℕ) (o : Option A) (x : A) → lift n o ≡ None → lift n (Some x) ≡ Some x

  abbrev or_wait : Option A → Option A → Option A
  or_wait o p = elim o [ None ↦ p | Some x ↦ Some x ]

  -- a list of statements behind it
  around_then : (r q : Rest) (f : Rest → Rest) → ((n : ℕ) (x : Rest) → wait_of w n (f x) ≡ wait_of w n x) → SameWaits r q → Around f r q (λ n o. o)
  around_then r q f made same = record { made = made; was = same; none = λ n o e. e; some = λ n o x e. refl }

  left_none : (o p : Option A) → or_wait o p ≡ None → o ≡ None
  left_none None p e = refl
  left_none (Some y) p e = absurd (none-some y (sym e))

  -- a branch on its right
  around_left : (a b : Rest) → Around (λ q. Beside q b) a (Beside a b) (λ n o. or_wait o (wait_of w n b))
  around_left a b = record { made = λ n q. refl; was = λ n. refl; none = λ n o e. left_none o (wait_of w n b) e; some = λ n o x e. refl }

  right_none : (o p : Option A) → or_wait o p ≡ None → p ≡ None
  right_none None p e = e
  right_none (Some y) p e = absurd (none-some y (sym e))

  -- and one on its left
  around_right : (a b : Rest) → Around (λ q. Beside a q) b (Beside a b) (λ n o. or_wait (wait_of w n a) o)
  around_right a b =
      record {
        made = λ n q. refl;
        was = λ n. refl;
        none = λ n o e. right_none (wait_of w n a) o e;
        some = λ n o x e. ap (λ (l : Option A). or_wait l (Some x)) (left_none (wait_of w n a) o e);
      }

  some_lifted : (l o : Option A) → (l ≡ None → o ≡ None) → is_some o ≡ true → is_some l ≡ true
  some_lifted None o h e = absurd (true≢false (sym e ∙ ap is_some (h refl)))
  some_lifted (Some x) o h e = refl

  did_around : {f : Rest → Rest} {r whole : Rest} {lift : ℕ → Option A → Option A} (e : ℕ) (a : Around f r whole lift) (q : Rest) (d : Act A) → Did e r q d → Did e whole (f q) d
  did_around {f} {r} {whole} {lift} e a q (Adds x) h = (
    (λ n other. a.made n q ∙ ap (lift n) (h.0 n other) ∙ sym (a.was n)),
    (λ none.
        let free : lift e (wait_of w e r) ≡ None = sym (a.was e) ∙ none in
        a.made e q ∙ ap (lift e) (h.1 (a.none e (wait_of w e r) free)) ∙ a.some e (wait_of w e r) x free),
  )
  did_around {f} {r} {whole} {lift} e a q (Drops m) h = (
    (λ n other. a.made n q ∙ ap (lift n) (h.0 n other) ∙ sym (a.was n)),
    ap is_some (a.was m) ∙ some_lifted (lift m (wait_of w m r)) (wait_of w m r) (a.none m (wait_of w m r)) h.1,
  )
  did_around e a q Clears h = absurd h
  did_around {f} {r} {whole} {lift} e a q Same h = λ n. a.made n q ∙ ap (lift n) (h n) ∙ sym (a.was n)

  -- a new leaf waits on the event that opens its wait
  added : (o : Option A) (e : ℕ) (q : Rest) → ((n : ℕ) → wait_of w n q ≡ (if nat_eq e n then o else None)) → Did e Done q (adds o)
  added None e q h = λ n. h n ∙ sym (none_if (nat_eq e n))
  added (Some a) e q h =
      let by : Bool → Option A = λ b. if b then Some a else None in
      ((λ n other. h n ∙ ap by (ne_eqb e n (λ same. other (sym same)))), (λ none. h e ∙ ap by (eq-eqb e e refl)))

  -- a leaf that waited on an event waits on it no longer
  dropped : {B : Type 0} (o : Option B) (u : Option A) (e m : ℕ) (r q : Rest) → is_some o ≡ is_some u
      → ((n : ℕ) → wait_of w n r ≡ (if nat_eq m n then u else None)) → ((n : ℕ) → wait_of w n q ≡ None) → Did e r q (drops o m)
  dropped None None e m r q same was now = λ n. now n ∙ none_if (nat_eq m n) ∙ sym (was n)
  dropped None (Some a) e m r q same was now = absurd (true≢false (sym same))
  dropped (Some b) None e m r q same was now = absurd (true≢false same)
  dropped (Some b) (Some a) e m r q same was now =
      let by : Bool → Option A = λ b. if b then Some a else None in
      ((λ n other. now n ∙ sym (was n ∙ ap by (ne_eqb m n (λ same. other (sym same))))), ap is_some (was m ∙ ap by (eq-eqb m m refl)))

  ---- Moves

  abbrev pub Moves : ℕ → Rest → Move → Type 0
  Moves e r Stays = Unit {0}
  Moves e r (Goes q t) = SameWaits r q
  Moves e r (Asks q t c) = Did e r q (asked w c)
  Moves e r (Ends c) = asked w c ≡ Clears

  on_value_moves : {A : Type 0} (e : ℕ) (q : Rest) (r : Result A Cause) (f : A → Move) → ((v : A) → Moves e q (f v)) → Moves e q (on_value r f)
  on_value_moves e q (Ok v) f h = h v
  on_value_moves e q (Err c) f h = refl

  on_signal_moves : (e : ℕ) (q : Rest) (o : Option Value) (f : Value → Move) (m : Move) → ((v : Value) → Moves e q (f v)) → Moves e q m → Moves e q (on_signal o f m)
  on_signal_moves e q None f m h k = k
  on_signal_moves e q (Some v) f m h k = h v

  if_moves : (e : ℕ) (q : Rest) (b : Bool) (m n : Move) → Moves e q m → Moves e q n → Moves e q (if b then m else n)
  if_moves e q true m n h k = h
  if_moves e q false m n h k = k

  or_moves : (e : ℕ) (q : Rest) (m n : Move) → Moves e q m → Moves e q n → Moves e q (or_move m n)
  or_moves e q Stays n h k = k
  or_moves e q (Goes r t) n h k = h
  or_moves e q (Asks r t c) n h k = h
  or_moves e q (Ends c) n h k = h

  around_moves : {f : Rest → Rest} {r whole : Rest} {lift : ℕ → Option A → Option A} (e : ℕ) (a : Around f r whole lift) (m : Move) → Moves e r m → Moves e whole (around f m)
  around_moves e a Stays h = tt
  around_moves e a (Goes q t) h = did_around e a q Same h
  around_moves e a (Asks q t c) h = did_around e a q (asked w c) h
  around_moves e a (Ends c) h = h

  picked_waits : (b : Bool) (x y : Block) (n : ℕ) → wait_of w n (picked b x y) ≡ None
  picked_waits true x y n = refl
  picked_waits false x y n = refl

  branches_wait : (bs : Branches) (n : ℕ) → wait_of w n (branches_of bs) ≡ None
  branches_wait NoBranch n = refl
  branches_wait (Branch at b end bs) n = branches_wait bs n

  again_waits : (b : Bool) (x : Block) (y : Block) (n : ℕ) → wait_of w n (if b then Then (rest_of x) y else Done) ≡ None
  again_waits true x y n = refl
  again_waits false x y n = refl

  patched_moves : (e : ℕ) (s : Setting) (t : Store) (id : Bytes) (x y : Block) (o : Option Bool) → Moves e Done (patched s t id x y o)
  patched_moves e s t id x y (Some b) = λ n. picked_waits b x y n
  patched_moves e s t id x y None =
      if_moves e Done (s.answer id) (Asks (rest_of x) (decide t id true) (RecordMarker id)) (Goes (rest_of y) (decide t id false)) (λ n. refl) (λ n. refl)

  begins_moves : (s : Setting) (t : Store) (st : Statement) → Moves s.event Done (begin s t st)
  begins_moves s t (Let at name_at x e) = on_value_moves s.event Done (value t.variables s.at e) (λ v. Goes Done (set_in t x v)) (λ v n. refl)
  begins_moves s t (Assign at x e) = on_value_moves s.event Done (value t.variables s.at e) (λ v. Goes Done (set_in t x v)) (λ v n. refl)
  begins_moves s t (If at e a a_end b b_end) =
      on_value_moves s.event Done (value t.variables s.at e) (λ v. Goes (picked (is_true v) a b) t) (λ v n. picked_waits (is_true v) a b n)
  begins_moves s t (While at e b end) =
      let loop = λ (v : Value). Goes (if is_true v then Then (rest_of b) (Next (While at e b end) End) else Done) (tested t) in
      if_moves s.event Done (nat_lt t.tests test_limit) (on_value (value t.variables s.at e) loop) (raise TurnBudget)
      (on_value_moves s.event Done (value t.variables s.at e) loop (λ v n. again_waits (is_true v) b (Next (While at e b end) End) n)) refl
  begins_moves s t (Call at x activity_at a es r o) =
      let gives = gives_of s.activities a in
      let asks = λ (vs : List Value). Asks (OnActivity s.event x gives o) t (Schedule a vs r.tries r.every gives) in
      on_value_moves s.event Done (values t.variables s.at es) (λ vs. waiting s (asks vs))
      (λ vs. if_moves s.event Done (nat_lt s.waits wait_limit) (asks vs) (raise WaitLimit) (added (called w.call gives) s.event (OnActivity s.event x gives o) (λ n. refl)) refl)
  begins_moves s t (Sleep at e) =
      on_value_moves s.event Done (due t.variables s.at e) (λ d. waiting s (Asks (OnTimer s.event) t (StartTimer d)))
      (λ d. if_moves s.event Done (nat_lt s.waits wait_limit) (Asks (OnTimer s.event) t (StartTimer d)) (raise WaitLimit) (added w.timer s.event (OnTimer s.event) (λ n. refl)) refl)
  begins_moves s t (WaitSignal at x signal_at n) =
      on_signal_moves s.event Done (oldest n t.buffer) (λ v. Goes Done (take_signal t x n v)) (waiting s (Goes (OnSignal x n) t)) (λ v m. refl)
      (if_moves s.event Done (nat_lt s.waits wait_limit) (Goes (OnSignal x n) t) (raise WaitLimit) (λ m. refl) refl)
  begins_moves s t (WaitSignalFor at x signal_at n e b end) =
      let asks = λ (d : ℕ). Asks (OnSignalFor x n s.event b) t (StartTimer d) in
      on_signal_moves s.event Done (oldest n t.buffer) (λ v. Goes Done (take_signal t x n v)) (on_value (due t.variables s.at e) (λ d. waiting s (asks d))) (λ v m. refl)
      (on_value_moves s.event Done (due t.variables s.at e) (λ d. waiting s (asks d))
      (λ d. if_moves s.event Done (nat_lt s.waits wait_limit) (asks d) (raise WaitLimit) (added w.timer s.event (OnSignalFor x n s.event b) (λ m. refl)) refl))
  begins_moves s t (Parallel at bs end) = λ n. branches_wait bs n
  begins_moves s t (Patch at id_at id a a_end b b_end) = patched_moves s.event s t id a b (t.decided id)
  begins_moves s t (Deprecate at id_at id) = patched_moves s.event s t id End End (t.decided id)
  begins_moves s t (Return at e) = on_value_moves s.event Done (value t.variables s.at e) (λ v. Ends (Complete v)) (λ v. refl)
  begins_moves s t (FailWith at e) = on_value_moves s.event Done (value t.variables s.at e) (λ v. Ends (Fail UserFail (text_of v))) (λ v. refl)
  begins_moves s t (Continue at es) =
      let ends = λ (vs : List Value). if s.is_first then raise ChainLimit else Ends (ContinueAsNew vs) in
      on_value_moves s.event Done (values t.variables s.at es) ends (λ vs. if_moves s.event Done s.is_first (raise ChainLimit) (Ends (ContinueAsNew vs)) refl refl)

  followed_waits : (b : Block) (n : ℕ) (q : Rest) → wait_of w n (followed_by b q) ≡ wait_of w n q
  followed_waits End n q = refl
  followed_waits (Next st b) n q = refl

  both_done : (a b : Bool) → a && b ≡ true → (a ≡ true) × (b ≡ true)
  both_done true b e = (refl, e)
  both_done false b e = absurd (true≢false (sym e))

  -- nothing waits in what is done
  done_waits : (r : Rest) (n : ℕ) → is_done r ≡ true → wait_of w n r ≡ None
  done_waits Done n e = refl
  done_waits (OnActivity m x k o) n e = absurd (true≢false (sym e))
  done_waits (OnTimer m) n e = absurd (true≢false (sym e))
  done_waits (OnSignal x m) n e = refl
  done_waits (OnSignalFor x s m b) n e = absurd (true≢false (sym e))
  done_waits (Raised c t) n e = refl
  done_waits (Then r b) n e = done_waits r n (both_done (is_done r) (is_end b) e).0
  done_waits (Beside a b) n e =
      let both = both_done (is_done a) (is_done b) e in
      ap (λ (o : Option A). or_wait o (wait_of w n b)) (done_waits a n both.0) ∙ done_waits b n both.1

  first_moves : (s : Setting) (t : Store) (r : Rest) (b : Block) → is_done r ≡ true → Moves s.event (Then r b) (first_of s t b)
  first_moves s t r End e = tt
  first_moves s t r (Next st b) e =
      around_moves s.event (around_then Done (Then r (Next st b)) (followed_by b) (followed_waits b) (λ n. done_waits r n e)) (begin s t st) (begins_moves s t st)

  then_moves : (s : Setting) (t : Store) (r : Rest) (b : Block) (d : Bool) → is_done r ≡ d → Moves s.event r (move s t r) → Moves s.event (Then r b) (if d then first_of s t b else around (λ q. Then q b) (move s t r))
  then_moves s t r b true e h = first_moves s t r b e
  then_moves s t r b false e h =
      around_moves s.event (around_then r (Then r b) (λ q. Then q b) (λ n q. refl) (λ n. refl)) (move s t r) h

  pub moves : (s : Setting) (t : Store) (r : Rest) → Moves s.event r (move s t r)
  moves s t Done = tt
  moves s t (OnActivity n x k o) = tt
  moves s t (OnTimer n) = tt
  moves s t (OnSignal x name) = on_signal_moves s.event (OnSignal x name) (oldest name t.buffer) (λ v. Goes Done (take_signal t x name v)) Stays (λ v n. refl) tt
  moves s t (OnSignalFor x name n b) =
      on_signal_moves s.event (OnSignalFor x name n b) (oldest name t.buffer) (λ v. Asks Done (take_signal t x name v) (CancelTimer n)) Stays
      (λ v. dropped w.timer w.timer s.event n (OnSignalFor x name n b) Done refl (λ m. refl) (λ m. refl)) tt
  moves s t (Raised c text) = refl
  moves s t (Then r b) = then_moves s t r b (is_done r) refl (moves s t r)
  moves s t (Beside a b) =
      or_moves s.event (Beside a b) (around (λ q. Beside q b) (move s t a)) (around (λ q. Beside a q) (move s t b))
      (around_moves s.event (around_left a b) (move s t a) (moves s t a)) (around_moves s.event (around_right a b) (move s t b) (moves s t b))

  ---- Inputs

  abbrev pub DidIf : ℕ → Rest → Act A → Option Rest → Type 0
  DidIf e r d None = Unit {0}
  DidIf e r d (Some q) = Did e r q d

  map_did : {f : Rest → Rest} {r whole : Rest} {lift : ℕ → Option A → Option A} (e : ℕ) (a : Around f r whole lift) (d : Act A) (o : Option Rest) → DidIf e r d o → DidIf e whole d (map_rest f o)
  map_did e a d None h = tt
  map_did e a d (Some q) h = did_around e a q d h

  or_did : (e : ℕ) (r : Rest) (d : Act A) (o p : Option Rest) → DidIf e r d o → DidIf e r d p → DidIf e r d (or_rest o p)
  or_did e r d None p h k = k
  or_did e r d (Some q) p h k = h

  -- what an input does to the leaf that it replaces it does to the rest
  pub replaced_did : (e : ℕ) (d : Act A) (f : Rest → Option Rest) → ((r : Rest) → DidIf e r d (f r)) → (r : Rest) → DidIf e r d (replaced f r)
  replaced_did e d f g (Then r b) = map_did e (around_then r (Then r b) (λ q. Then q b) (λ n q. refl) (λ n. refl)) d (replaced f r) (replaced_did e d f g r)
  replaced_did e d f g (Beside a b) =
      or_did e (Beside a b) d (map_rest (λ q. Beside q b) (replaced f a)) (map_rest (λ q. Beside a q) (replaced f b))
      (map_did e (around_left a b) d (replaced f a) (replaced_did e d f g a)) (map_did e (around_right a b) d (replaced f b) (replaced_did e d f g b))
  replaced_did e d f g Done = g Done
  replaced_did e d f g (OnActivity n x k o) = g (OnActivity n x k o)
  replaced_did e d f g (OnTimer n) = g (OnTimer n)
  replaced_did e d f g (OnSignal x s) = g (OnSignal x s)
  replaced_did e d f g (OnSignalFor x s n b) = g (OnSignalFor x s n b)
  replaced_did e d f g (Raised c t) = g (Raised c t)

  dropped_if : {B : Type 0} (o : Option B) (u : Option A) (e m n : ℕ) (r q : Rest) → is_some o ≡ is_some u
      → ((i : ℕ) → wait_of w i r ≡ (if nat_eq m i then u else None)) → ((i : ℕ) → wait_of w i q ≡ None) → DidIf e r (drops o n) (if nat_eq m n then Some q else None)
  dropped_if o u e m n r q same was now =
      elim (nat_eq m n) as (λ b. nat_eq m n ≡ b → DidIf e r (drops o n) (if b then Some q else None)) [
        | true ↦ λ is. subst (λ i. Did e r q (drops o i)) (eqb-true m n is) (dropped o u e m r q same was now)
        | false ↦ λ is. tt
      ] refl

  called_some : (o : Option (Kind → A)) (k : Kind) → is_some o ≡ is_some (called o k)
  called_some None k = refl
  called_some (Some f) k = refl

  -- an activity completes
  pub completed_did : (e n : ℕ) (r : Rest) → DidIf e r (drops w.call n) (when_completed n r)
  completed_did e n (OnActivity m x k o) = dropped_if w.call (called w.call k) e m n (OnActivity m x k o) Done (called_some w.call k) (λ i. refl) (λ i. refl)
  completed_did e n Done = tt
  completed_did e n (OnTimer m) = tt
  completed_did e n (OnSignal x s) = tt
  completed_did e n (OnSignalFor x s m b) = tt
  completed_did e n (Raised c t) = tt
  completed_did e n (Then r b) = tt
  completed_did e n (Beside a b) = tt

  else_waits : (o : Otherwise) (text : Bytes) (i : ℕ) → wait_of w i (rest_else o (Raised ActivityFailed text)) ≡ None
  else_waits NoElse text i = refl
  else_waits (Else b end) text i = refl

  -- or fails
  pub failed_did : (e n : ℕ) (text : Bytes) (r : Rest) → DidIf e r (drops w.call n) (when_failed n text r)
  failed_did e n text (OnActivity m x k o) =
      dropped_if w.call (called w.call k) e m n (OnActivity m x k o) (rest_else o (Raised ActivityFailed text)) (called_some w.call k) (λ i. refl) (else_waits o text)
  failed_did e n text Done = tt
  failed_did e n text (OnTimer m) = tt
  failed_did e n text (OnSignal x s) = tt
  failed_did e n text (OnSignalFor x s m b) = tt
  failed_did e n text (Raised c t) = tt
  failed_did e n text (Then r b) = tt
  failed_did e n text (Beside a b) = tt

  -- a timer fires
  pub fired_did : (e n : ℕ) (r : Rest) → DidIf e r (drops w.timer n) (when_fired n r)
  fired_did e n (OnTimer m) = dropped_if w.timer w.timer e m n (OnTimer m) Done refl (λ i. refl) (λ i. refl)
  fired_did e n (OnSignalFor x s m b) = dropped_if w.timer w.timer e m n (OnSignalFor x s m b) (rest_of b) refl (λ i. refl) (λ i. refl)
  fired_did e n Done = tt
  fired_did e n (OnActivity m x k o) = tt
  fired_did e n (OnSignal x s) = tt
  fired_did e n (Raised c t) = tt
  fired_did e n (Then r b) = tt
  fired_did e n (Beside a b) = tt
