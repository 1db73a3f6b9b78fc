-- Changes of a sound book.
use Rattle.std.proofs.Common.{◌≡◌, ℕ, zero, suc, ◌+◌, ◌-◌, ◌≤◌, List, [], ◌∷◌, ◌++◌, length, refl, sym, ap, ◌∙◌, subst, Option, Some, None, Result, Ok, Err, Bool, true, false, ◌&&◌, ⊎_elim}
use Rattle.std.specs.Prelude.{slice_get, slice_set, bytes_eq, if◌then◌else◌}
use Rattle.std.proofs.lemmas.Option.{none-some, same_Some}
use Rattle.std.proofs.lemmas.Bool.{true≢false}
use Rattle.std.proofs.lemmas.List.Elements.{All-nil, All-push, All-set, All-weaker}
use Rattle.std.specs.Cmp.Lexicographic.{bytes_decides}
use Rattle.flow_base.specs.Syntax.{Bytes, Program}
use Rattle.flow_base.specs.declared.book.Run.{Run}
use Rattle.flow_base.specs.declared.book.Turn.{Turn}
use Rattle.flow_base.specs.declared.book.Change.TheVariants.{AddText}
use Rattle.flow_base.specs.declared.command.TextFault.{TextFault}
use Rattle.flow_model.specs.WellFormed.{WellFormed}
use Rattle.flow_model.specs.Configuration.{Configuration, first_configuration, is_open}
use Rattle.flow_model.specs.Turn as turn
use Rattle.flow_model.specs.Turn.{Fresh, is_started}
use Rattle.flow_model.specs.Turned.{turn_events}
use Rattle.flow_model.specs.Stands.{Stands}
use Rattle.flow_model.specs.Open.{state_of}
use Rattle.flow_model.specs.Book.{Book, nth, first_from, is_open_of, unbegun_run, with_turn, with_attempt, with_text, changed}
use Rattle.flow_model.specs.Apply.{Rules, program_at, program_if, tries_of}
use Rattle.flow_model.specs.Sound.{IsSoundTask, IsSoundRun, IsSound}
use Rattle.flow_model.proofs.OneMore.{stands_on, stands_first}
use Rattle.flow_machine.specs.Soundness.{ReadsWellFormed}
use Rattle.flow_model.proofs.Tries.{well_formed_tried}
use Rattle.flow_model.proofs.Leaves.{turn_leaves, stands_left, still_closed}
use Rattle.flow_machine.proofs.Places.{get_set, get_push, nth_kept, nth_place}
use Rattle.flow_machine.proofs.Tasks.{turn_attempts, turn_activities}
use Rattle.flow_machine.proofs.Tried.{same_events, all_attempts}

---- Texts

abbrev program_by : (Bytes → Result Program TextFault) → Option Bytes → Option Program
program_by f o = elim o [ None ↦ None | Some body ↦ program_if (f body) ]

text_kept : (f : Bytes → Result Program TextFault) (b : Book) (body : Bytes) (n : ℕ) (p : Program) → program_at f b n ≡ Some p → program_at f (changed b (AddText body)) n ≡ Some p
text_kept f b body n p h =
    elim (nth b.texts n) as (λ o. nth b.texts n ≡ o → program_by f o ≡ Some p → program_by f (nth (b.texts ++ body ∷ []) n) ≡ Some p) [
      | None ↦ λ e v. absurd (none-some p v)
      | Some t ↦ λ e v. ap (program_by f) (nth_kept b.texts (body ∷ []) n t e) ∙ v
    ] refl h

-- the program of a text of the book is well formed
pub text_well_formed : (u : Rules) (b : Book) (n : ℕ) (p : Program) → ReadsWellFormed u → program_at u.program_of b n ≡ Some p → WellFormed p
text_well_formed u b n p w h =
    elim (nth b.texts n) as (λ o. program_by u.program_of o ≡ Some p → WellFormed p) [
      | None ↦ λ v. absurd (none-some p v)
      | Some t ↦ λ v.
          elim (u.program_of t) as (λ x. u.program_of t ≡ x → program_if x ≡ Some p → WellFormed p) [
            | Ok q ↦ λ e g. subst WellFormed (same_Some q p g) (w t q e)
            | Err fault ↦ λ e g. absurd (none-some p g)
          ] refl v
    ] h

kept_run : (u : Rules) (b b' : Book) (r : Run) → ((n : ℕ) (p : Program) → program_at u.program_of b n ≡ Some p → program_at u.program_of b' n ≡ Some p) → IsSoundRun u b r → IsSoundRun u b' r
kept_run u b b' r f s =
    record {
      program = s.program;
      its_text = f r.text s.program s.its_text;
      place = s.place;
      stands = s.stands;
      activities = s.activities;
      attempts = s.attempts;
    }

pub sound_text : (u : Rules) (b : Book) (body : Bytes) → IsSound u b → IsSound u (changed b (AddText body))
sound_text u b body h =
    let new = changed b (AddText body) in
    record {
      runs = All-weaker (IsSoundRun u b) (IsSoundRun u new) (λ r s. kept_run u b new r (text_kept u.program_of b body) s) b.runs h.runs;
      one_open = h.one_open;
    }

---- A new run

-- no run of the flow is open
abbrev pub NoneOpen : Book → Bytes → Type 0
NoneOpen b flow = (j : ℕ) (r : Run) → slice_get b.runs j ≡ Some r → r.flow ≡ flow → is_open (state_of r.history) ≡ false

pub not_first : (t : Bool) (n : ℕ) (o : Option ℕ) → (if t then Some n else o) ≡ None → (t ≡ false) × (o ≡ None)
not_first true n o e = absurd (none-some n (sym e))
not_first false n o e = (refl, e)

none_from : (flow : Bytes) (n : ℕ) (rs : List Run) → first_from (is_open_of flow) n rs ≡ None → (j : ℕ) (r : Run) → slice_get rs j ≡ Some r → r.flow ≡ flow → is_open (state_of r.history) ≡ false
none_from flow n [] e j r g f = absurd (none-some r g)
none_from flow n (x ∷ rs) e zero r g f =
    let same : x ≡ r = same_Some x r g in
    let not = (not_first (is_open_of flow x) n (first_from (is_open_of flow) (n + 1) rs) e).0 in
    let one : bytes_eq x.flow flow ≡ true = (bytes_decides x.flow flow).1 (ap (λ (q : Run). q.flow) same ∙ f) in
    ap (λ (q : Run). is_open (state_of q.history)) (sym same) ∙ ap (λ (c : Bool). c && is_open (state_of x.history)) (sym one) ∙ not
none_from flow n (x ∷ rs) e (suc j) r g f =
    none_from flow (n + 1) rs (not_first (is_open_of flow x) n (first_from (is_open_of flow) (n + 1) rs) e).1 j r g f

pub none_open : (b : Book) (flow : Bytes) → first_from (is_open_of flow) 1 b.runs ≡ None → NoneOpen b flow
none_open b flow e = none_from flow 1 b.runs e

pub sound_run : (u : Rules) (b : Book) (q : Run) → IsSound u b → IsSoundRun u b q → NoneOpen b q.flow → IsSound u (record b { runs = b.runs ++ q ∷ [] })
sound_run u b q h s none =
    let new : Book = record b { runs = b.runs ++ q ∷ [] } in
    let kept = λ (r : Run) (x : IsSoundRun u b r). kept_run u b new r (λ n p e. e) x in
    record {
      runs = All-push (IsSoundRun u new) b.runs q (All-weaker (IsSoundRun u b) (IsSoundRun u new) kept b.runs h.runs) (kept q s);
      one_open = λ i j x y gi gj f oi oj.
          ⊎_elim (λ (a : slice_get b.runs i ≡ Some x).
          ⊎_elim (λ (c : slice_get b.runs j ≡ Some y). h.one_open i j x y a c f oi oj)
          (λ (c : (j ≡ length b.runs) × (y ≡ q)). absurd (true≢false (sym oi ∙ none i x a (f ∙ ap (λ (z : Run). z.flow) c.1)))) (get_push b.runs q j y gj))
          (λ (a : (i ≡ length b.runs) × (x ≡ q)).
          ⊎_elim (λ (c : slice_get b.runs j ≡ Some y). absurd (true≢false (sym oj ∙ none j y c (sym f ∙ ap (λ (z : Run). z.flow) a.1))))
          (λ (c : (j ≡ length b.runs) × (y ≡ q)). a.0 ∙ sym c.0) (get_push b.runs q j y gj)) (get_push b.runs q i x gi);
    }

-- a run that begins with a first turn
pub first_run : (u : Rules) (b : Book) (flow : Bytes) (request : Option Bytes) (text : ℕ) (t : Turn) (p : Program) (k : Configuration) → ReadsWellFormed u → program_at u.program_of b text ≡ Some p
    → turn.Turn p Fresh first_configuration t.at t.input t.commands k → IsSoundRun u b (with_turn t (unbegun_run flow request text))
first_run u b flow request text t p k w e made =
    let none = unbegun_run flow request text in
    let left = turn_leaves p Fresh first_configuration t.at t.input t.commands k (well_formed_tried p (text_well_formed u b text p w e)) tt made in
    record {
      program = p;
      its_text = e;
      place = k;
      stands = stands_first p t.at t.input t.commands k made;
      activities = turn_activities none (turn_events 1 t.at t.input t.commands) refl;
      attempts = turn_attempts none t left.asked (All-nil (IsSoundTask none));
    }

---- One more turn of a run

-- a book in which one run is another
abbrev pub put_run : Book → ℕ → Run → Book
put_run b n q = record b { runs = slice_set b.runs (n - 1) q }

-- the run that stood in its place before: of the same flow, and open if it is now
pub record Was (b : Book) (j : ℕ) (z : Run) : Type 0 where
  pub run : Run
  pub there : slice_get b.runs j ≡ Some run
  pub flow : run.flow ≡ z.flow
  pub opened : is_open (state_of z.history) ≡ true → is_open (state_of run.history) ≡ true

opened_by : (x y : Bool) → (x ≡ false → y ≡ false) → y ≡ true → x ≡ true
opened_by true y f e = refl
opened_by false y f e = absurd (true≢false (sym e ∙ f refl))

pub was : (b : Book) (n : ℕ) (r : Run) (t : Turn) → nth b.runs n ≡ Some r → is_started t.input ≡ false
    → (j : ℕ) (z : Run) → slice_get (put_run b n (with_turn t r)).runs j ≡ Some z → Was b j z
was b n r t e f j z g =
    let q = with_turn t r in
    ⊎_elim (λ (a : slice_get b.runs j ≡ Some z). record { run = z; there = a; flow = refl; opened = λ o. o })
    (λ (a : (slice_get b.runs j ≡ Some r) × (z ≡ q)).
    record {
      run = r;
      there = a.0;
      flow = ap (λ (x : Run). x.flow) (sym a.1);
      opened = λ o.
          opened_by (is_open (state_of r.history)) (is_open (state_of q.history)) (λ c. still_closed r.history (length r.history + 1) t.at t.input t.commands f c)
          (ap (λ (x : Run). is_open (state_of x.history)) (sym a.1) ∙ o);
    }) (get_set b.runs (n - 1) j r q z (nth_place b.runs n r e) g)

pub sound_turn : (u : Rules) (b : Book) (n : ℕ) (r : Run) (t : Turn) → IsSound u b → nth b.runs n ≡ Some r → is_started t.input ≡ false → IsSoundRun u b (with_turn t r) → IsSound u (put_run b n (with_turn t r))
sound_turn u b n r t h e f s =
    let q = with_turn t r in
    let new = put_run b n q in
    let kept = λ (x : Run) (y : IsSoundRun u b x). kept_run u b new x (λ m p g. g) y in
    record {
      runs = All-set (IsSoundRun u new) b.runs (n - 1) q (kept q s) (All-weaker (IsSoundRun u b) (IsSoundRun u new) kept b.runs h.runs);
      one_open = λ i j x y gi gj same oi oj.
          let wi = was b n r t e f i x gi in
          let wj = was b n r t e f j y gj in
          h.one_open i j wi.run wj.run wi.there wj.there (wi.flow ∙ same ∙ sym wj.flow) (wi.opened oi) (wj.opened oj);
    }

-- a sound run with one more fresh turn
pub turn_run : (u : Rules) (b : Book) (r : Run) (t : Turn) (p : Program) (k k2 : Configuration) → ReadsWellFormed u → IsSoundRun u b r → program_at u.program_of b r.text ≡ Some p
    → Stands p r.history k → k.moment ≤ t.at → turn.Turn p Fresh k t.at t.input t.commands k2 → IsSoundRun u b (with_turn t r)
turn_run u b r t p k k2 w s e stands le made =
    let tried = well_formed_tried p (text_well_formed u b r.text p w e) in
    let before = stands_left p r.history k tried stands in
    let left = turn_leaves p Fresh k t.at t.input t.commands k2 tried before.tried made in
    record {
      program = p;
      its_text = e;
      place = k2;
      stands = stands_on p r.history k t.at t.input t.commands k2 stands le made;
      activities = turn_activities r (turn_events (length r.history + 1) t.at t.input t.commands) s.activities;
      attempts = turn_attempts r t left.asked s.attempts;
    }

---- A run with the same events

-- a run in the place of one of the same flow with the same history
module _ (u : Rules) (b : Book) (n : ℕ) (r q : Run) (there : nth b.runs n ≡ Some r) (flow : q.flow ≡ r.flow) (history : q.history ≡ r.history) where
  was_same : (j : ℕ) (z : Run) → slice_get (put_run b n q).runs j ≡ Some z → Was b j z
  was_same j z g =
      ⊎_elim (λ (a : slice_get b.runs j ≡ Some z). record { run = z; there = a; flow = refl; opened = λ o. o })
      (λ (a : (slice_get b.runs j ≡ Some r) × (z ≡ q)).
      record {
        run = r;
        there = a.0;
        flow = sym flow ∙ ap (λ (x : Run). x.flow) (sym a.1);
        opened = λ o. ap (λ h. is_open (state_of h)) (sym history) ∙ ap (λ (x : Run). is_open (state_of x.history)) (sym a.1) ∙ o;
      }) (get_set b.runs (n - 1) j r q z (nth_place b.runs n r there) g)

  pub sound_same : IsSound u b → IsSoundRun u b q → IsSound u (put_run b n q)
  sound_same h s =
      let new = put_run b n q in
      let kept = λ (x : Run) (y : IsSoundRun u b x). kept_run u b new x (λ m p g. g) y in
      record {
        runs = All-set (IsSoundRun u new) b.runs (n - 1) q (kept q s) (All-weaker (IsSoundRun u b) (IsSoundRun u new) kept b.runs h.runs);
        one_open = λ i j x y gi gj same oi oj.
            let wi = was_same i x gi in
            let wj = was_same j y gj in
            h.one_open i j wi.run wj.run wi.there wj.there (wi.flow ∙ same ∙ sym wj.flow) (wi.opened oi) (wj.opened oj);
      }

-- a sound run with an activity at another attempt, of those that it is tried
pub attempt_run : (u : Rules) (b : Book) (r : Run) (event attempt ready : ℕ) (x : ℕ × ℕ) → IsSoundRun u b r → tries_of (nth r.history event) ≡ Some x → 1 ≤ attempt → attempt ≤ x.0
    → IsSoundRun u b (with_attempt event attempt ready r)
attempt_run u b r event attempt ready x s e first last =
    record {
      program = s.program;
      its_text = s.its_text;
      place = s.place;
      stands = s.stands;
      activities = same_events r event attempt ready r.tasks ∙ s.activities;
      attempts = all_attempts r event attempt ready r.tasks x s.attempts e first last;
    }

-- a sound run under another text, under which its history stands
pub text_run : (u : Rules) (b : Book) (r : Run) (text : ℕ) (p : Program) (k : Configuration) → IsSoundRun u b r → program_at u.program_of b text ≡ Some p → Stands p r.history k
    → IsSoundRun u b (with_text text r)
text_run u b r text p k s e stands =
    record {
      program = p;
      its_text = e;
      place = k;
      stands = stands;
      activities = s.activities;
      attempts = All-weaker (IsSoundTask r) (IsSoundTask (with_text text r)) (λ t y. record { first = y.first; event = y.event; scheduled = y.scheduled; tries = y.tries; asked = y.asked; last = y.last }) r.tasks s.attempts;
    }
