-- Over a book such as commands make, a batch can't be applied only where the numbers run out.
use Rattle.std.proofs.Common.{◌≡◌, inl, inr, ℕ, ◌+◌, ◌-◌, ◌<◌, ◌≤◌, ◌^◌, true, false, ◌||◌, List, [], ◌∷◌, length, All, Some, None, refl, sym, ◌∙◌, arith}
use Rattle.std.specs.Prelude.{bytes_eq}
use Rattle.std.specs.List.{list_any}
use Rattle.std.proofs.lemmas.Bool.{true≢false}
use Rattle.std.proofs.lemmas.Option.{slice_get_within}
use Rattle.std.proofs.lemmas.List.Elements.{All-head, All-tail, recursion_from_All}
use Rattle.std.specs.Cmp.Lexicographic.{bytes_decides}
use Rattle.flow_base.specs.Syntax.{Bytes}
use Rattle.flow_base.specs.declared.event.Input.{Input}
use Rattle.flow_base.specs.declared.event.Input.TheVariants.{Started, Signaled, ActivityCompleted, ActivityFailed, TimerFired, Terminated}
use Rattle.flow_base.specs.declared.event.What.TheVariants.{Came}
use Rattle.flow_base.specs.declared.book.Turn.{Turn}
use Rattle.flow_base.specs.declared.book.Change.{Change}
use Rattle.flow_base.specs.declared.book.Change.TheVariants.{AddText, AddRun, AddTurn, SetAttempt, SetText}
use Rattle.flow_base.specs.declared.command.Command.{Command}
use Rattle.flow_model.specs.Turn.{is_started}
use Rattle.flow_model.specs.Book.{Book, nth, first_from, is_text, changed}
use Rattle.flow_model.specs.Apply.{outcome, after_one}
use Rattle.flow_machine.specs.Fitting.{HasUnfit, IsUnfitWithin}
use Rattle.flow_machine.specs.Limits.{IsTurnWithinLimits, IsChangeWithinLimits}
use Rattle.flow_machine.specs.Stuck.{IsStuckWithin}
use Rattle.flow_machine.specs.Welcome.{IsWelcome, AreWelcome, IsUnnumbered}
use Rattle.flow_machine.proofs.Changes.{not_first}
use Rattle.flow_machine.proofs.Keeps.{step_keeps}
use Rattle.flow_machine.proofs.Limited.{changes_within}
use Rattle.flow_machine.proofs.Meaning.{reads_short, reads_well_formed}
use Rattle.flow_machine.proofs.Orderly.{orderly_after_one}
use Rattle.flow_machine.proofs.Places.{nth_place}
use Rattle.flow_machine.proofs.Unnumbered.{stuck_unnumbered}
use Rattle.flow_machine.proofs.Welcomed.{changes_welcome}
use Rattle.flow_tables.specs.Names.{StartsNone}
use Rattle.flow_tables.specs.Puts.{IsTurnWithin, IsUnfit}
use Rattle.flow_commit.specs.Keeping.{rules, IsWell}
use Rattle.flow_commit.specs.Committing.{RunsOut, NumbersRunOut, OnlyNumbersRunOut}

---- One change

-- a text without a number is none of the book's
text_absent : (body : Bytes) (n : ℕ) (ts : List Bytes) → first_from (is_text body) n ts ≡ None → list_any (bytes_eq body) ts ≡ true → ⊥
text_absent body n [] e h = true≢false (sym h)
text_absent body n (t ∷ ts) e h =
    let past = not_first (is_text body t) n (first_from (is_text body) (n + 1) ts) e in
    elim (bytes_eq body t) as (λ x. bytes_eq body t ≡ x → (x || list_any (bytes_eq body) ts) ≡ true → ⊥) [
      | true ↦ λ same any. true≢false (sym ((bytes_decides t body).1 (sym ((bytes_decides body t).0 same))) ∙ past.0)
      | false ↦ λ other any. text_absent body (n + 1) ts past.1 any
    ] refl h

not_too_long : (n : ℕ) → n ≤ 65536 → 10 ^ 8 < n → ⊥
not_too_long n short long = omega (arith, short, long)

text_within : (ts : List Bytes) (n : ℕ) (body : Bytes) → nth ts n ≡ Some body → length ts < n → ⊥
text_within ts n body there past = let at = slice_get_within ts (n - 1) body (nth_place ts n body there) in omega (arith, at, past)

turn_within : (t : Turn) → IsTurnWithinLimits t → IsTurnWithin t
turn_within t h = (h.0, recursion_from_All _ t.commands h.1)

starts_none : (i : Input) → is_started i ≡ false → StartsNone (Came i)
starts_none (Started vs) e = true≢false e
starts_none (Signaled name request v) e = tt
starts_none (ActivityCompleted n v) e = tt
starts_none (ActivityFailed n t) e = tt
starts_none (TimerFired n) e = tt
starts_none (Terminated t) e = tt

not_so_many : (n : ℕ) → n ≤ 20 → 2 ^ 63 ≤ n → ⊥
not_so_many n few many = omega (arith, few, many)

-- a change of a command over a sound book is one that the tables take
only_past : (b : Book) (c : Change) → IsWelcome rules b c → IsChangeWithinLimits c → IsUnfit b c → RunsOut b c
only_past b (AddText body) w l (inl unfit) = absurd (unfit tt)
only_past b (AddText body) w l (inr (inl past)) = past
only_past b (AddText body) w l (inr (inr (inl there))) = absurd (text_absent body 1 b.texts w.0 there)
only_past b (AddText body) w l (inr (inr (inr long))) = absurd (not_too_long (length body) (reads_short body w.1.0 w.1.1) long)
only_past b (AddRun flow request text t) w l (inl unfit) = absurd (unfit (turn_within t l))
only_past b (AddRun flow request text t) w l (inr (inl past)) = past
only_past b (AddRun flow request text t) w l (inr (inr none)) = absurd (text_within b.texts text w.0 w.1 none)
only_past b (AddTurn n t) w l (inl unfit) = absurd (unfit (turn_within t l.0, λ r there some. starts_none t.input l.1))
only_past b (AddTurn n t) w l (inr (inl past)) = past
only_past b (AddTurn n t) w l (inr (inr none)) = absurd none
only_past b (SetAttempt n event attempt ready) w l (inl unfit) = absurd (unfit tt)
only_past b (SetAttempt n event attempt ready) w l (inr (inl past)) = not_so_many attempt l.1 past
only_past b (SetAttempt n event attempt ready) w l (inr (inr none)) = absurd none
only_past b (SetText n text) w l (inl unfit) = absurd (unfit tt)
only_past b (SetText n text) w l (inr (inl none)) = absurd none
only_past b (SetText n text) w l (inr (inr none)) = absurd (text_within b.texts text w.1.0 w.1.1 none)

-- what has no number has one past the last
unnumbered_past : (b : Book) (c : Change) → IsUnnumbered b c → RunsOut b c
unnumbered_past b (AddText body) full = full
unnumbered_past b (AddRun flow request text t) full = inl full
unnumbered_past b (AddTurn n t) none = absurd none
unnumbered_past b (SetAttempt n event attempt ready) none = absurd none
unnumbered_past b (SetText n text) none = absurd none

---- Several changes

all_past : (b : Book) (cs : List Change) → AreWelcome rules b cs → All IsChangeWithinLimits cs → HasUnfit IsUnfit b cs → HasUnfit RunsOut b cs
all_past b [] w l unfit = unfit
all_past b (c ∷ cs) w l (inl unfit) = inl (only_past b c w.0 (All-head IsChangeWithinLimits c cs l) unfit)
all_past b (c ∷ cs) w l (inr later) = inr (all_past (changed b c) cs w.1 (All-tail IsChangeWithinLimits c cs l) later)

all_unnumbered : (b : Book) (cs : List Change) → HasUnfit IsUnnumbered b cs → HasUnfit RunsOut b cs
all_unnumbered b [] none = none
all_unnumbered b (c ∷ cs) (inl here) = inl (unnumbered_past b c here)
all_unnumbered b (c ∷ cs) (inr later) = inr (all_unnumbered (changed b c) cs later)

---- Commands

well_next : (b : Book) (c : Command) → IsWell b → IsWell (after_one rules b c)
well_next b c well = record { sound = step_keeps rules b c reads_well_formed well.sound; orderly = orderly_after_one rules b c well.orderly }

stuck_past : (b : Book) (cs : List Command) → IsWell b → IsStuckWithin rules b cs → NumbersRunOut b cs
stuck_past b [] well none = none
stuck_past b (c ∷ cs) well (inl stuck) = inl (all_unnumbered b (outcome rules b c).changes (stuck_unnumbered rules b c well.orderly.texts well.sound stuck))
stuck_past b (c ∷ cs) well (inr later) = inr (stuck_past (after_one rules b c) cs (well_next b c well) later)

unfit_past : (b : Book) (cs : List Command) → IsWell b → IsUnfitWithin IsUnfit rules b cs → NumbersRunOut b cs
unfit_past b [] well none = none
unfit_past b (c ∷ cs) well (inl unfit) = inl (all_past b (outcome rules b c).changes (changes_welcome rules b c) (changes_within rules b c reads_well_formed well.sound) unfit)
unfit_past b (c ∷ cs) well (inr later) = inr (unfit_past (after_one rules b c) cs (well_next b c well) later)

pub only_numbers : OnlyNumbersRunOut
only_numbers b cs well (inl stuck) = stuck_past b cs well stuck
only_numbers b cs well (inr unfit) = unfit_past b cs well unfit
