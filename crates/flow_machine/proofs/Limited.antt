-- What commands record of a sound book is such as rows take.
use Rattle.std.proofs.Common.{◌≡◌, ℕ, suc, ◌+◌, ◌-◌, ◌≤◌, List, [], ◌∷◌, length, refl, ap, subst, arith, Option, Some, None, Bool, true, false, ◌&&◌}
use Rattle.std.specs.Prelude.{◌<◌, All, if◌then◌else◌}
use Rattle.std.proofs.lemmas.Option.{none-some}
use Rattle.std.proofs.lemmas.List.Elements.{All-nil, All-cons, All-weaker, All-append}
use Rattle.flow_base.specs.Syntax.{Bytes, Program}
use Rattle.flow_base.specs.declared.syntax.Parameter.{Parameter}
use Rattle.flow_base.specs.declared.value.Value.{Value}
use Rattle.flow_base.specs.declared.event.Cmd.{Cmd}
use Rattle.flow_base.specs.declared.event.Cmd.TheVariants.{Schedule, StartTimer, CancelTimer, RecordMarker, Complete, Fail, ContinueAsNew}
use Rattle.flow_base.specs.declared.event.Input.{Input}
use Rattle.flow_base.specs.declared.event.Input.TheVariants.{Started, Signaled, ActivityCompleted, ActivityFailed, TimerFired, Terminated}
use Rattle.flow_base.specs.declared.book.Run.{Run}
use Rattle.flow_base.specs.declared.book.Turn.{Turn}
use Rattle.flow_base.specs.declared.book.Change.{Change}
use Rattle.flow_base.specs.declared.book.Change.TheVariants.{AddText, AddTurn, AddRun, SetAttempt, SetText}
use Rattle.flow_base.specs.declared.command.Command.{Command}
use Rattle.flow_events.specs.Row.{IsInputWithinLimits, IsCommandWithinLimits}
use Rattle.flow_model.specs.WellFormed.{WellFormed}
use Rattle.flow_model.specs.Configuration.{Configuration, first_configuration}
use Rattle.flow_model.specs.Deliver.{all_fit, has_kind}
use Rattle.flow_model.specs.Turn as turn
use Rattle.flow_model.specs.Deliver.{Progress}
use Rattle.flow_model.specs.Turn.{Fresh, is_started}
use Rattle.flow_model.specs.Book.{Book, nth}
use Rattle.flow_model.specs.Apply.{Rules, first_turn, history_limit, tries_of, outcome, tick}
use Rattle.flow_model.specs.Sound.{IsSoundRun, IsSound}
use Rattle.flow_model.proofs.Positions.{turned_is}
use Rattle.flow_model.proofs.Tries.{AskedWell, TriedRest, well_formed_tried, few_parameters}
use Rattle.flow_model.proofs.Leaves.{stands_left, turn_leaves}
use Rattle.flow_machine.specs.Limits.{IsTurnWithinLimits, IsChangeWithinLimits}
use Rattle.flow_machine.specs.Soundness.{ReadsWellFormed}
use Rattle.flow_machine.proofs.MadeChanges.{CoversTurns, Covers, IsTaken, now_of, fired_has, changes_have}
use Rattle.flow_machine.proofs.Places.{get_all, nth_place}
use Rattle.flow_machine.proofs.Standing.{first_made, sound_stands, taken_stands}
use Rattle.flow_machine.proofs.Keeps.{fired_keeps}
use Rattle.flow_machine.proofs.Ticks.{tick_has}
use Rattle.flow_machine.proofs.Changes.{text_well_formed}
use Rattle.flow_machine.proofs.Tried.{few_tries}

nothing : All IsChangeWithinLimits []
nothing = All-nil IsChangeWithinLimits

one : (c : Change) → IsChangeWithinLimits c → All IsChangeWithinLimits (c ∷ [])
one c h = All-cons IsChangeWithinLimits c [] h nothing

---- Turns

asked_within : (c : Cmd) → AskedWell c → IsCommandWithinLimits c
asked_within (Schedule a vs n m k) h = h
asked_within (StartTimer d) h = tt
asked_within (CancelTimer n) h = tt
asked_within (RecordMarker id) h = tt
asked_within (Complete v) h = tt
asked_within (Fail c t) h = tt
asked_within (ContinueAsNew vs) h = h

-- an input that starts no run
came_within : (i : Input) → is_started i ≡ false → IsInputWithinLimits i
came_within (Started vs) h = cc
came_within (Signaled name request v) h = tt
came_within (ActivityCompleted n v) h = tt
came_within (ActivityFailed n t) h = tt
came_within (TimerFired n) h = tt
came_within (Terminated t) h = tt

turn_within : (p : Program) (k : Configuration) (at : ℕ) (i : Input) (cs : List Cmd) (new : Configuration) → WellFormed p → TriedRest k.rest → IsInputWithinLimits i → turn.Turn p Fresh k at i cs new
    → IsTurnWithinLimits (record { at = at; input = i; commands = cs })
turn_within p k at i cs new w rest came made =
    let left = turn_leaves p Fresh k at i cs new (well_formed_tried p w) rest made in
    (came, All-weaker AskedWell IsCommandWithinLimits asked_within cs left.asked)

right_holds : (a b : Bool) → a && b ≡ true → b ≡ true
right_holds true b e = e
right_holds false b e = cc

as_many : (ps : List Parameter) (vs : List Value) → all_fit ps vs ≡ true → length vs ≡ length ps
as_many [] [] e = refl
as_many [] (v ∷ vs) e = cc
as_many (p ∷ ps) [] e = cc
as_many (p ∷ ps) (v ∷ vs) e = ap suc (as_many ps vs (right_holds (has_kind p.kind v) (all_fit ps vs) e))

fits_if : (t : Bool) (o : Option Progress) (start : Progress) → (if t then o else None) ≡ Some start → t ≡ true
fits_if true o start e = refl
fits_if false o start e = absurd (none-some start e)

-- the arguments of a first turn
started_within : (p : Program) (at : ℕ) (vs : List Value) (cs : List Cmd) (k : Configuration) → WellFormed p → turn.Turn p Fresh first_configuration at (Started vs) cs k → length vs ≤ 256
started_within p at vs cs k w made =
    let fit : all_fit p.parameters vs ≡ true = fits_if (all_fit p.parameters vs) _ made.start made.delivered in
    let many = as_many p.parameters vs fit in
    let few = few_parameters p w in
    omega (arith, many, few)

first_within : (p : Program) (at : ℕ) (vs : List Value) (t : Turn) → WellFormed p → first_turn p at vs ≡ Some t → IsTurnWithinLimits t
first_within p at vs t w h =
    let made = first_made p at vs t h in
    let is = turned_is p Fresh first_configuration at (Started vs) made.0.0 made.0.1 made.1.0 in
    subst IsTurnWithinLimits made.1.1 (turn_within p first_configuration at (Started vs) made.0.0 made.0.1 w tt (started_within p at vs made.0.0 made.0.1 w is) is)

module _ (u : Rules) (b : Book) (w : ReadsWellFormed u) (h : IsSound u b) where
  -- a run takes an input
  taken_within : (n : ℕ) (r : Run) (p : Program) (k : Configuration) (at : ℕ) (i : Input) (t : List Cmd × Configuration) → IsTaken u b n r p k at i t
      → IsChangeWithinLimits (AddTurn n (record { at = now_of r at; input = i; commands = t.0 }))
  taken_within n r p k at i t taken =
      let well : WellFormed p = text_well_formed u b r.text p w taken.reads in
      let left = stands_left p r.history k (well_formed_tried p well) (taken_stands u b n r p k at i t (sound_stands u b h) taken).0 in
      (turn_within p k (now_of r at) i t.0 t.1 well left.tried (came_within i taken.no_start) (turned_is p Fresh k (now_of r at) i t.0 t.1 taken.turn), taken.no_start)

  -- it is closed for a reason
  closed_within : (n at : ℕ) (reason : Bytes) → All IsChangeWithinLimits (AddTurn n (record { at = at; input = Terminated reason; commands = [] }) ∷ [])
  closed_within n at reason = one (AddTurn n (record { at = at; input = Terminated reason; commands = [] })) ((tt, All-nil IsCommandWithinLimits), refl)

  -- the next attempt is one of 20 at most
  attempt_within : (n : ℕ) (r : Run) (event attempt ready : ℕ) (x : ℕ × ℕ) → nth b.runs n ≡ Some r → tries_of (nth r.history event) ≡ Some x → attempt < x.0
      → All IsChangeWithinLimits (SetAttempt n event (attempt + 1) ready ∷ [])
  attempt_within n r event attempt ready x there e less =
      let its : IsSoundRun u b r = get_all (IsSoundRun u b) b.runs (n - 1) r (nth_place b.runs n r there) h.runs in
      let few : x.0 ≤ 20 = few_tries its.program r.history its.place event x (well_formed_tried its.program (text_well_formed u b r.text its.program w its.its_text)) its.stands e in
      one (SetAttempt n event (attempt + 1) ready) (omega arith, omega (arith, less, few))

  turns_covered : CoversTurns u b (All IsChangeWithinLimits)
  turns_covered =
      record {
        nothing = nothing;
        turn = λ n r p k at i t taken. one (AddTurn n (record { at = now_of r at; input = i; commands = t.0 })) (taken_within n r p k at i t taken);
        next = λ n r p k at i t taken vs first ends begins.
            All-cons IsChangeWithinLimits (AddTurn n (record { at = now_of r at; input = i; commands = t.0 })) (AddRun r.flow None r.text first ∷ []) (taken_within n r p k at i t taken)
            (one (AddRun r.flow None r.text first) (first_within p (now_of r at) vs first (text_well_formed u b r.text p w taken.reads) begins));
        full = λ n r p k at i t taken. closed_within n (now_of r at) history_limit;
      }

  covered : Covers u b (All IsChangeWithinLimits)
  covered =
      record {
        text = λ body p reads new. one (AddText body) tt;
        run = λ request flow text body vs at p t new none there reads made. one (AddRun flow (Some request) text t) (first_within p at vs t (text_well_formed u b text p w reads) made);
        closed = λ n r reason at there opened. closed_within n (now_of r at) reason;
        attempt = attempt_within;
        other = λ n text r body p k there its reads stands. one (SetText n text) tt;
      }

-- timers that are due fire
tick_within : (u : Rules) (b : Book) (at : ℕ) → ReadsWellFormed u → IsSound u b → All IsChangeWithinLimits (tick u b at).changes
tick_within u b at w h =
    tick_has u at (IsSound u) (fired_keeps u at w) (λ k cs. All IsChangeWithinLimits cs) (λ k. nothing)
    (λ k d sound. fired_has u k (All IsChangeWithinLimits) (turns_covered u k w sound) at d) (λ k cs ds x y. All-append IsChangeWithinLimits cs ds x y) b h

pub changes_within : (u : Rules) (b : Book) (c : Command) → ReadsWellFormed u → IsSound u b → All IsChangeWithinLimits (outcome u b c).changes
changes_within u b c w h = changes_have u b (All IsChangeWithinLimits) (turns_covered u b w h) (covered u b w h) (λ at. tick_within u b at w h) c
