-- The positions that are found at opening are reached in the book that was read.
use Rattle.std.proofs.Common.{◌≡◌, ◌⊎◌, inl, inr, ℕ, zero, suc, ◌+◌, List, [], ◌∷◌, ◌++◌, true, false, Option, Some, None, refl, sym, ap, ◌∙◌, subst, arith, append-nil, take, drop}
use Rattle.std.specs.Prelude.{Contains, ◌<◌, length, slice_get, slice_index_or, if◌then◌else◌}
use Rattle.std.proofs.lemmas.Bool.{cases_Bool}
use Rattle.std.proofs.lemmas.List.{take-append-drop}
use Rattle.std.proofs.lemmas.List.Elements.{Contains-append_cases, Contains-append_left}
use Rattle.flow_base.specs.declared.book.Run.{Run}
use Rattle.flow_cache.specs.Laws.{AllHave}
use Rattle.flow_machine.specs.Reached.{HasReached}
use Rattle.flow_machine.specs.Seated.{ReachedIn, Settles}
use Rattle.flow_machine.specs.declared.seats.Led.{Led}
use Rattle.flow_machine.specs.declared.seats.Seats.{Seats}
use Rattle.flow_model.specs.Apply.{program_at}
use Rattle.flow_model.specs.Book.{Book, nth}
use Rattle.flow_model.specs.Configuration.{is_open}
use Rattle.flow_model.specs.Open.{state_of}
use Rattle.flow_model.specs.Stands.{Stands}
use Rattle.flow_machine.proofs.Places.{nth_at}
use Rattle.flow_machine.proofs.Seating.{settles_all}
use Rattle.flow_recover.specs.Filling.{IsLedTo, AreLedTo}
use Rattle.flow_recover.specs.Positions.{Meaning, open_from, AreOf, ArePositions, IsPosition}
use Rattle.flow_recover.specs.declared.positions.Position.{Position}

---- A position is that of a run

abbrev IsOfRun : Meaning → Book → Position → Type 0
IsOfRun u b q = (r : Run) × ((nth b.runs q.run ≡ Some r) × IsPosition u b q.run r q)

position_at : (u : Meaning) (b : Book) (xs : List (ℕ × Run)) (qs : List Position) → AreOf u b xs qs → (i : ℕ) (q : Position) → i < length qs → slice_index_or qs i q ≡ q
    → (x : ℕ × Run) × ((slice_get xs i ≡ Some x) × IsPosition u b x.0 x.1 q)
position_at u b [] [] are i q short is = absurd (omega (arith, short))
position_at u b (x ∷ xs) [] are i q short is = absurd (omega (arith, short))
position_at u b (x ∷ xs) (p ∷ qs) are zero q short is = (x, (refl, subst (IsPosition u b x.0 x.1) is are.0))
position_at u b (x ∷ xs) (p ∷ qs) are (suc i) q short is = position_at u b xs qs are.1 i q (omega (arith, short)) is
position_at u b [] (p ∷ qs) are i q short is = absurd are

open_there : (b : Book) (n : ℕ) (rs : List Run) → ((k : ℕ) → nth b.runs (n + k) ≡ slice_get rs k) → (i : ℕ) (x : ℕ × Run) → slice_get (open_from n rs) i ≡ Some x → nth b.runs x.0 ≡ Some x.1
open_there b n [] at i x there = absurd (let clash = there in cc)
open_there b n (r ∷ rs) at i x there =
    let next : (k : ℕ) → nth b.runs (n + 1 + k) ≡ slice_get rs k = λ k. ap (nth b.runs) (let same : n + 1 + k ≡ n + suc k = omega arith in same) ∙ at (suc k) in
    let later : (j : ℕ) → slice_get (open_from (n + 1) rs) j ≡ Some x → nth b.runs x.0 ≡ Some x.1 = λ j h. open_there b (n + 1) rs next j x h in
    elim (cases_Bool (is_open (state_of r.history))) [
      | inl opened ↦ here later i (rw opened at there)
      | inr closed ↦ later i (rw closed at there)
    ]
  where
    here : ((j : ℕ) → slice_get (open_from (n + 1) rs) j ≡ Some x → nth b.runs x.0 ≡ Some x.1) → (i : ℕ) → slice_get ((n, r) ∷ open_from (n + 1) rs) i ≡ Some x → nth b.runs x.0 ≡ Some x.1
    here later zero there =
        let same : (n, r) ≡ x = (let e = there in cc) in
        subst (λ (y : ℕ × Run). nth b.runs y.0 ≡ Some y.1) same (ap (nth b.runs) (let same : n ≡ n + 0 = omega arith in same) ∙ at 0)
    here later (suc i) there = later i there

of_run : (u : Meaning) (b : Book) (qs : List Position) → ArePositions u b qs → (q : Position) → Contains qs q → IsOfRun u b q
of_run u b qs are q there =
    let it = position_at u b (open_from 1 b.runs) qs are there.0 q there.1 there.2 in
    let run = it.1.1.number in
    let place = open_there b 1 b.runs (λ k. nth_at b.runs (1 + k) k (omega arith)) there.0 it.0 it.1.0 in
    (it.0.1, (ap (nth b.runs) run ∙ place, subst (λ n. IsPosition u b n it.0.1 q) (sym run) it.1.1))

---- So it is reached

reached_by : (u : Meaning) (b : Book) (q : Position) (l : Led) → IsOfRun u b q → IsLedTo q l → HasReached u b l.run l.text l.stance
reached_by u b q l (r, (there, it)) led = record {
  its_run = r;
  there = ap (nth b.runs) led.0 ∙ there;
  program = it.program;
  reads = ap (program_at u b) (led.1.0 ∙ it.text) ∙ it.its_text;
  before = r.history;
  later = [];
  cut = sym (append-nil r.history);
  stands = subst (Stands it.program r.history) (sym (led.1.1 it.program)) it.stands;
}

---- All that are led

pub none_led : (qs : List Position) (ls : List Led) → ls ≡ [] → AreLedTo qs ls
none_led qs ls none l there = let in_none = subst (λ (xs : List Led). Contains xs l) none there in absurd (omega (arith, in_none.1))

pub one_led : (qs : List Position) (q : Position) (l : Led) (old new : List Led) → Contains qs q → IsLedTo q l → (new ≡ old ++ l ∷ []) ⊎ (new ≡ old) → AreLedTo qs old → AreLedTo qs new
one_led qs q l old new here led (inl is) all m there = elim (Contains-append_cases old (l ∷ []) m (subst (λ (xs : List Led). Contains xs m) is there)) [
  | inl before ↦ all m before
  | inr last ↦ (q, (here, subst (IsLedTo q) (only last.0 last.1 last.2) led))
]
  where
    only : (k : ℕ) → k < 1 → slice_index_or (l ∷ []) k m ≡ m → l ≡ m
    only zero lt same = same
    only (suc k) lt same = absurd (omega (arith, lt))
one_led qs q l old new here led (inr is) all m there = all m (subst (λ (xs : List Led). Contains xs m) is there)

-- each of the first is one of all
pub led_among : (qs all : List Position) (ls : List Led) → qs ≡ take (length qs) all → AreLedTo qs ls → AreLedTo all ls
led_among qs all ls first led l there = let it = led l there in (it.0, (among it.0 it.1.0, it.1.1))
  where
    among : (q : Position) → Contains qs q → Contains all q
    among q here =
        subst (λ (l : List Position). Contains l q) (take-append-drop (length qs) all)
        (Contains-append_left (take (length qs) all) (drop (length qs) all) q (subst (λ (l : List Position). Contains l q) first here))

pub all_reached : (u : Meaning) (b : Book) (qs : List Position) (old new : Seats) → old.kept.entries ≡ [] → AreLedTo qs old.ahead.items → Settles old new → ArePositions u b qs → AllHave (ReachedIn u b) new.kept.entries
all_reached u b qs old new none led settles are run e there = elim (settles_all old new settles (run, e) there) [
  | inl kept ↦ (let in_none = subst (λ es. Contains es (run, e)) none kept in absurd (omega (arith, in_none.1)))
  | inr ahead ↦ (let it = led (record { run = run; text = e.text; stance = e.stance }) ahead in reached_by u b it.0 (record { run = run; text = e.text; stance = e.stance }) (of_run u b qs are it.0 it.1.0) it.1.1)
]
