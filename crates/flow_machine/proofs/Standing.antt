-- Runs whose histories stand under their programs, and what a turn of such a run is.
use Rattle.std.proofs.Common.{◌≡◌, ℕ, ◌-◌, ◌≤◌, List, [], ◌∷◌, refl, sym, ap, ◌∙◌, subst, Option, Some, None, suc, All}
use Rattle.std.proofs.Math.Nat.{le-max_right}
use Rattle.std.proofs.lemmas.Option.{none-some, same_Some}
use Rattle.std.proofs.lemmas.List.Elements.{All-weaker}
use Rattle.flow_base.specs.Syntax.{Program}
use Rattle.flow_base.specs.declared.value.Value.{Value}
use Rattle.flow_base.specs.declared.event.Cmd.{Cmd}
use Rattle.flow_base.specs.declared.event.Input.{Input}
use Rattle.flow_base.specs.declared.event.Input.TheVariants.{Started}
use Rattle.flow_base.specs.declared.book.Run.{Run}
use Rattle.flow_base.specs.declared.book.Turn.{Turn}
use Rattle.flow_base.specs.declared.book.Change.TheVariants.{AddTurn}
use Rattle.flow_model.specs.Configuration.{Configuration, first_configuration}
use Rattle.flow_model.specs.Turn as turn
use Rattle.flow_model.specs.Turn.{Fresh}
use Rattle.flow_model.specs.Turned.{turned}
use Rattle.flow_model.specs.Stands.{Stands, Leads}
use Rattle.flow_model.specs.Open.{moment_of, moment_after}
use Rattle.flow_model.specs.Book.{Book, nth, with_turn, changed}
use Rattle.flow_model.specs.Apply.{Rules, program_at, first_turn}
use Rattle.flow_model.specs.Sound.{IsSoundRun, IsSound}
use Rattle.flow_model.proofs.Positions.{position_computed, turned_is}
use Rattle.flow_machine.proofs.MadeChanges.{IsTaken, now_of}
use Rattle.flow_machine.proofs.Places.{get_all, nth_place}
use Rattle.flow_machine.proofs.Changes.{put_run}
use Rattle.flow_base.specs.declared.event.Event.{Event}

-- a first turn is one that is made
pub first_made : (p : Program) (at : ℕ) (vs : List Value) (t : Turn) → first_turn p at vs ≡ Some t
    → (x : List Cmd × Configuration) × ((turned p Fresh first_configuration at (Started vs) ≡ Some x) × (record { at = at; input = Started vs; commands = x.0 } ≡ t))
first_made p at vs t h =
    elim (turned p Fresh first_configuration at (Started vs)) as (λ o. turned p Fresh first_configuration at (Started vs) ≡ o → elim o [ None ↦ None | Some x ↦ Some (record { at = at; input = Started vs; commands = x.0 }) ] ≡ Some t
    → (x : List Cmd × Configuration) × ((turned p Fresh first_configuration at (Started vs) ≡ Some x) × (record { at = at; input = Started vs; commands = x.0 } ≡ t))) [
      | None ↦ λ e v. absurd (none-some t v)
      | Some x ↦ λ e v. (x, (e, same_Some (record { at = at; input = Started vs; commands = x.0 }) t v))
    ] refl h

pub first_turn_is : (p : Program) (at : ℕ) (vs : List Value) (t : Turn) → first_turn p at vs ≡ Some t → (k : Configuration) × turn.Turn p Fresh first_configuration t.at t.input t.commands k
first_turn_is p at vs t h =
    let made = first_made p at vs t h in
    subst (λ (q : Turn). (k : Configuration) × turn.Turn p Fresh first_configuration q.at q.input q.commands k) made.1.1
    (made.0.1, turned_is p Fresh first_configuration at (Started vs) made.0.0 made.0.1 made.1.0)

---- Runs whose histories stand

pub record IsStanding (u : Rules) (b : Book) (r : Run) : Type 0 where
  pub program : Program
  pub its_text : program_at u.program_of b r.text ≡ Some program
  pub place : Configuration
  pub stands : Stands program r.history place

abbrev pub Standing : Rules → Book → Type 0
Standing u b = All (IsStanding u b) b.runs

pub sound_stands : (u : Rules) (b : Book) → IsSound u b → Standing u b
sound_stands u b h = All-weaker (IsSoundRun u b) (IsStanding u b) (λ r s. record { program = s.program; its_text = s.its_text; place = s.place; stands = s.stands }) b.runs h.runs

-- a history's last moment is that of the place to which it leads
leads_moment : (p : Program) (n : ℕ) (due : List Cmd) (k : Configuration) (h : List Event) (k' : Configuration) → Leads p n due k h k' → moment_after k.moment h ≡ k'.moment
leads_moment p n due k [] k' l = ap (λ (q : Configuration). q.moment) l.1
leads_moment p n [] k (d ∷ later) k' l =
    let a = l.1.1.0 in
    ap (λ (m : ℕ). moment_after m later) (sym (ap (λ (q : Configuration). q.moment) a.2.2.leaves)) ∙ leads_moment p (suc n) l.0 l.1.0 later k' l.1.1.1
leads_moment p n (c ∷ due) k (d ∷ later) k' l =
    let a = l.1.1.0 in
    ap (λ (m : ℕ). moment_after m later) (a.1 ∙ ap (λ (q : Configuration). q.moment) (sym a.4)) ∙ leads_moment p (suc n) l.0 l.1.0 later k' l.1.1.1

pub stands_moment : (p : Program) (h : List Event) (k : Configuration) → Stands p h k → moment_of h ≡ k.moment
stands_moment p h k s = leads_moment p 1 [] first_configuration h k s.1

-- a turn is put into its run
pub turn_put : (b : Book) (n : ℕ) (r : Run) (t : Turn) → nth b.runs n ≡ Some r → changed b (AddTurn n t) ≡ put_run b n (with_turn t r)
turn_put b n r t there = ap (λ (o : Option Run). elim o [ None ↦ b | Some q ↦ put_run b n (with_turn t q) ]) there

-- where a run that takes an input stands
pub taken_stands : (u : Rules) (b : Book) (n : ℕ) (r : Run) (p : Program) (k : Configuration) (at : ℕ) (i : Input) (t : List Cmd × Configuration) → Standing u b → IsTaken u b n r p k at i t
    → Stands p r.history k × (k.moment ≤ now_of r at)
taken_stands u b n r p k at i t h taken =
    let its : IsStanding u b r = get_all (IsStanding u b) b.runs (n - 1) r (nth_place b.runs n r taken.there) h in
    let same : its.program ≡ p = same_Some its.program p (sym its.its_text ∙ taken.reads) in
    let stands : Stands p r.history its.place = subst (λ (q : Program). Stands q r.history its.place) same its.stands in
    let at_place : its.place ≡ k = same_Some its.place k (sym (position_computed p r.history its.place stands) ∙ taken.place) in
    let here : Stands p r.history k = subst (λ (q : Configuration). Stands p r.history q) at_place stands in
    (here, subst (λ m. m ≤ now_of r at) (stands_moment p r.history k here) (le-max_right at (moment_of r.history)))
