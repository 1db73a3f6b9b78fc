-- A run whose events aren't damaged is open exactly where none of them closes it.
use Rattle.std.proofs.Common.{◌≡◌, ℕ, ◌+◌, ◌<◌, ℤ, pos, List, [], ◌∷◌, ◌++◌, Bool, true, false, not, ◌&&◌, ◌||◌, nat_eq, refl, sym, ap, ◌∙◌, subst, arith}
use Rattle.std.specs.List.{list_any}
use Rattle.std.specs.Ordering.{int_eq}
use Rattle.std.proofs.lemmas.Bool.{eqb-true}
use Rattle.flow_base.specs.declared.event.Event.{Event}
use Rattle.flow_base.specs.declared.event.Cmd.TheVariants.{Schedule, StartTimer, CancelTimer, RecordMarker, Complete, Fail, ContinueAsNew}
use Rattle.flow_base.specs.declared.event.Input.TheVariants.{Started, Signaled, ActivityCompleted, ActivityFailed, TimerFired, Terminated}
use Rattle.flow_base.specs.declared.event.What.{What}
use Rattle.flow_base.specs.declared.event.What.TheVariants.{Came, Asked}
use Rattle.flow_base.specs.declared.event.State.{State}
use Rattle.flow_base.specs.declared.event.State.TheVariants as state
use Rattle.flow_events.specs.Kinds.{kind_number, kind_of}
use Rattle.flow_model.specs.Configuration.{is_open}
use Rattle.flow_model.specs.Open.{state_after_one, state_after, state_of}
use Rattle.flow_rows.specs.declared.rows.EventRow.{EventRow}
use Rattle.flow_rows.specs.Damages.{is_closing, closes, kind_fits, is_begun, damages_of_event, damages_from, read_event, history_from}
use Rattle.flow_rows.proofs.BookTexts.{front_none, rest_none}
use Rattle.flow_rows.proofs.Histories.{is_event, kind_read}

and_true : (b : Bool) → (b && true) ≡ b
and_true true = refl
and_true false = refl

and_false : (b : Bool) → (b && false) ≡ false
and_false true = refl
and_false false = refl

not_or : (s a b : Bool) → ((s && not a) && not b) ≡ (s && not (a || b))
not_or true true b = refl
not_or true false b = refl
not_or false a b = refl

abbrev told : ℕ → ℕ → What → Event
told id at w = record { id = id; at = at; what = w }

-- an event that doesn't start a run leaves it open exactly where it doesn't close it
one_on : (s : State) (id at : ℕ) (w : What) → int_eq (pos (kind_number (kind_of w))) (pos 1) ≡ false
    → is_open (state_after_one s (told id at w)) ≡ (is_open s && not (is_closing (pos (kind_number (kind_of w)))))
one_on s id at (Came (Started vs)) other = absurd (let same = other in cc)
one_on s id at (Came (Signaled a r v)) other = sym (and_true (is_open s))
one_on s id at (Came (ActivityCompleted n v)) other = sym (and_true (is_open s))
one_on s id at (Came (ActivityFailed n t)) other = sym (and_true (is_open s))
one_on s id at (Came (TimerFired n)) other = sym (and_true (is_open s))
one_on s id at (Came (Terminated t)) other = sym (and_false (is_open s))
one_on s id at (Asked (Schedule a vs n m k)) other = sym (and_true (is_open s))
one_on s id at (Asked (StartTimer d)) other = sym (and_true (is_open s))
one_on s id at (Asked (CancelTimer n)) other = sym (and_true (is_open s))
one_on s id at (Asked (RecordMarker p)) other = sym (and_true (is_open s))
one_on s id at (Asked (Complete v)) other = sym (and_false (is_open s))
one_on s id at (Asked (Fail c t)) other = sym (and_false (is_open s))
one_on s id at (Asked (ContinueAsNew vs)) other = sym (and_false (is_open s))

-- the event that starts a run opens it
first_on : (s : State) (id at : ℕ) (w : What) → int_eq (pos (kind_number (kind_of w))) (pos 1) ≡ true
    → is_open (state_after_one s (told id at w)) ≡ not (is_closing (pos (kind_number (kind_of w))))
first_on s id at (Came (Started vs)) one = refl
first_on s id at (Came (Signaled a r v)) one = absurd (let same = one in cc)
first_on s id at (Came (ActivityCompleted n v)) one = absurd (let same = one in cc)
first_on s id at (Came (ActivityFailed n t)) one = absurd (let same = one in cc)
first_on s id at (Came (TimerFired n)) one = absurd (let same = one in cc)
first_on s id at (Came (Terminated t)) one = absurd (let same = one in cc)
first_on s id at (Asked (Schedule a vs n m k)) one = absurd (let same = one in cc)
first_on s id at (Asked (StartTimer d)) one = absurd (let same = one in cc)
first_on s id at (Asked (CancelTimer n)) one = absurd (let same = one in cc)
first_on s id at (Asked (RecordMarker p)) one = absurd (let same = one in cc)
first_on s id at (Asked (Complete v)) one = absurd (let same = one in cc)
first_on s id at (Asked (Fail c t)) one = absurd (let same = one in cc)
first_on s id at (Asked (ContinueAsNew vs)) one = absurd (let same = one in cc)

pub later : (i : ℕ) → 1 < i → nat_eq i 1 ≡ false
later i h = by_case (nat_eq i 1) refl
  where
    by_case : (b : Bool) → nat_eq i 1 ≡ b → nat_eq i 1 ≡ false
    by_case true is = absurd (let one = eqb-true i 1 is in omega (arith, one, h))
    by_case false is = is

not_false : (b : Bool) → not b ≡ true → b ≡ false
not_false true h = absurd (let same = h in cc)
not_false false h = refl

later_kind : (i : ℕ) (z : ℤ) → 1 < i → kind_fits i z ≡ true → int_eq z (pos 1) ≡ false
later_kind i z h fits = not_false (int_eq z (pos 1)) (rw (later i h) at fits)

on_later : (run : ℤ) (i : ℕ) (s : State) (rs : List EventRow) → 1 < i → damages_from run i rs ≡ []
    → is_open (state_after s (history_from i rs)) ≡ (is_open s && not (list_any closes rs))
on_later run i s [] later none = sym (and_true (is_open s))
on_later run i s (r ∷ rs) later none =
    let v = is_event run i r (front_none _ (damages_from run (i + 1) rs) none) in
    let of_kind = kind_read i r v.event v.reads in
    let kind = subst (λ z. int_eq z (pos 1) ≡ false) of_kind (later_kind i r.kind later v.kind) in
    let step : is_open (state_after_one s v.event) ≡ (is_open s && not (is_closing r.kind)) =
    one_on s v.event.id v.event.at v.event.what kind ∙ ap (λ z. is_open s && not (is_closing z)) (sym of_kind) in
    ap (λ o. is_open (state_after s (read_event o ++ history_from (i + 1) rs))) v.reads
    ∙ on_later run (i + 1) (state_after_one s v.event) rs (omega (arith, later)) (rest_none (damages_of_event run i r) _ none)
    ∙ ap (λ b. b && not (list_any closes rs)) step
    ∙ not_or (is_open s) (is_closing r.kind) (list_any closes rs)

not_both : (a b : Bool) → (not a && not b) ≡ not (a || b)
not_both true b = refl
not_both false b = refl

pub is_open_where : (run : ℤ) (rs : List EventRow) → is_begun rs ≡ true → damages_from run 1 rs ≡ []
    → is_open (state_of (history_from 1 rs)) ≡ not (list_any closes rs)
is_open_where run [] begun none = absurd (let same = begun in cc)
is_open_where run (r ∷ rs) begun none =
    let v = is_event run 1 r (front_none _ (damages_from run 2 rs) none) in
    let of_kind = kind_read 1 r v.event v.reads in
    let kind = subst (λ z. int_eq z (pos 1) ≡ true) of_kind v.kind in
    let step : is_open (state_after_one state.Unbegun v.event) ≡ not (is_closing r.kind) =
    first_on state.Unbegun v.event.id v.event.at v.event.what kind ∙ ap (λ z. not (is_closing z)) (sym of_kind) in
    ap (λ o. is_open (state_after state.Unbegun (read_event o ++ history_from 2 rs))) v.reads
    ∙ on_later run 2 (state_after_one state.Unbegun v.event) rs (omega arith) (rest_none (damages_of_event run 1 r) _ none)
    ∙ ap (λ b. b && not (list_any closes rs)) step
    ∙ not_both (is_closing r.kind) (list_any closes rs)
