-- Taking the turn of a run that goes on, put together from its parts.
use Rattle.std.proofs.Common.{◌≡◌, ℕ, List, ◌++◌, sym, ap, ◌∙◌, subst, Option, Some, None, inl}
use Rattle.std.specs.Prelude.{length, IfSome}
use Rattle.flow_base.specs.Syntax.{Program}
use Rattle.flow_base.specs.declared.event.Event.{Event}
use Rattle.flow_base.specs.declared.event.Input.{Input}
use Rattle.flow_base.specs.declared.book.Change.{Change}
use Rattle.flow_base.specs.declared.command.Reply.{Reply}
use Rattle.flow_model.specs.Checked.{shown_checked}
use Rattle.flow_model.specs.Configuration.{Configuration}
use Rattle.flow_model.specs.Turned.{position_by_inputs}
use Rattle.flow_model.specs.Stands.{Stands}
use Rattle.flow_model.specs.Book.{Book, changed_by}
use Rattle.flow_model.specs.Apply.{Rules, Outcome, rules_of, event_limit, if_sound, program_at}
use Rattle.flow_model.proofs.Positions.{position_computed}
use Rattle.flow_run.specs.Position.{config_of}
use Rattle.flow_run.specs.declared.stance.Stance.{Stance}
use Rattle.flow_view.specs.Heads.{head_at}
use Rattle.flow_view.specs.declared.head.Head.{Head}
use Rattle.flow_machine.proofs.GoingOn.{stands_events}
use Rattle.flow_machine.proofs.Seating.{turn_leads}
use Rattle.flow_machine.specs.ByHead.{history_at, recorded_by, recorded_at}
use Rattle.flow_machine.specs.Deciding.{Gives, Finds, Decides}
use Rattle.flow_machine.specs.Fitting.{HasUnfit}
use Rattle.flow_machine.specs.Going.{IsGoing, GoesOn, Comes}
use Rattle.flow_machine.specs.Reached.{Meaning}
use Rattle.flow_machine.specs.Seated.{FitSeats, LeadsTo, IsLedBy}
use Rattle.flow_machine.specs.Stuck.{HasMismatch, CantRecord}
use Rattle.flow_machine.specs.Ticking.{Adds}
use Rattle.flow_machine.specs.declared.going.Going.{Going}
use Rattle.flow_machine.specs.declared.going.Step.{Step}
use Rattle.flow_machine.specs.declared.going.Step.TheVariants as step
use Rattle.flow_machine.specs.declared.seats.Led.{Led}
use Rattle.flow_machine.specs.declared.seats.Seats.{Seats}

---- A turn where the run stands

sound_with : {A : Type 0} (o : Option A) (x : A) (f : A → Outcome) → o ≡ Some x → if_sound o f ≡ f x
sound_with o x f is = ap (λ q. if_sound q f) is

pub placed_is : (limit : ℕ) (p : Program) (h : Head) (es : List Event) (k : Configuration) (run at : ℕ) (i : Input) → Stands p es k → recorded_by limit p h k.events k run at i ≡ recorded_at limit p h es run at i
unfolding recorded_at
placed_is limit p h es k run at i stands =
    ap (λ n. recorded_by limit p h n k run at i) (stands_events p es k stands)
    ∙ sym (sound_with (position_by_inputs p es) k (λ q. recorded_by limit p h (length es) q run at i) (position_computed p es k stands))

-- the program that was lent is the one that the run has
module _ (p q : Program) (same : p ≡ q) where
  pub taken_finds : (limit : ℕ) (h : Head) (es : List Event) (k : Configuration) (run at : ℕ) (i : Input) (old new : Book) (r : Reply) (cs : List Change) → (new ≡ old) × Stands p es k → Gives r cs (recorded_by limit p h k.events k run at i)
      → Finds old new r cs (recorded_at limit q h es run at i)
  taken_finds limit h es k run at i old new r cs placed gives =
      let here : recorded_by limit p h k.events k run at i ≡ recorded_at limit q h es run at i = placed_is limit p h es k run at i placed.1 ∙ ap (λ (x : Program). recorded_at limit x h es run at i) same in
      subst (Finds old new r cs) here (record { reply_is = gives.reply_is; changes_are = gives.changes_are; still = placed.0 })

  pub cant_as : (es : List Event) (i : Input) → CantRecord p es i → CantRecord q es i
  cant_as es i h = subst (λ (x : Program). CantRecord x es i) same h

  pub mismatch_cant : (es : List Event) (i : Input) → HasMismatch p es → CantRecord q es i
  mismatch_cant es i h = cant_as es i (inl h)

pub taken_leads : (m : Meaning) (b : Book) (run : ℕ) (h : Head) (s : Stance) (p : Program) (at : ℕ) (i : Input) (o : Option Led) (changes : List Change)
    → head_at b.runs run ≡ Some h → program_at m b h.text ≡ Some p → Stands p (history_at b.runs run) (config_of p s) → IfSome o (IsLedBy p h s run at i changes) → IfSome o (LeadsTo m b changes)
taken_leads m b run h s p at i None changes there reads stands led = led
taken_leads m b run h s p at i (Some l) changes there reads stands led =
    turn_leads m b run h s p at i led.commands l changes led.rest there reads stands led.its_run led.its_text led.leads led.made

---- What is put

pub puts_decide : (old between new : Book) (r : Reply) (cs : List Change) (o : Outcome) → Finds old between r cs o → new ≡ changed_by between cs → Decides old new r cs o
puts_decide old between new r cs o f put =
    record {
      reply_is = f.reply_is;
      changes_are = f.changes_are;
      book_is = put ∙ ap (λ (b : Book). changed_by b cs) f.still ∙ ap (changed_by old) f.changes_are;
    }

pub puts_unfit : (unfit : Book → Change → Type 0) (old between : Book) (r : Reply) (cs : List Change) (o : Outcome) → Finds old between r cs o → HasUnfit unfit between cs → HasUnfit unfit old o.changes
puts_unfit unfit old between r cs o f h =
    subst (HasUnfit unfit old) f.changes_are (subst (λ (b : Book). HasUnfit unfit b cs) f.still h)

---- A run that goes on, over the book as it was

module _ (m : Meaning) (old now : Book) (g : Going) (o : Outcome) (goes : GoesOn (rules_of m) old now g o) where
  abbrev over : Book → Outcome
  over b = recorded_at event_limit (shown_checked g.program.value) g.head (history_at b.runs g.number) g.number g.at g.input

  its_outcome : over now ≡ o
  its_outcome = ap over goes.still ∙ sym goes.outcome

  pub goes_going : IsGoing m now g
  goes_going = subst (λ (b : Book). IsGoing m b g) (sym goes.still) (record { there = goes.there; reads = goes.reads })

  pub goes_fit : (seats : Seats) → FitSeats m old seats → FitSeats m now seats
  goes_fit seats fit = subst (λ (b : Book). FitSeats m b seats) (sym goes.still) fit

  pub goes_decides : (new : Book) (r : Reply) (cs : List Change) → Decides now new r cs (over now) → Decides old new r cs o
  goes_decides new r cs d = subst (λ (b : Book). Decides b new r cs o) goes.still (subst (Decides now new r cs) its_outcome d)

  pub goes_unfit : (unfit : Book → Change → Type 0) → HasUnfit unfit now (over now).changes → HasUnfit unfit old o.changes
  goes_unfit unfit h = subst (λ (b : Book). HasUnfit unfit b o.changes) goes.still (subst (λ (q : Outcome). HasUnfit unfit now q.changes) its_outcome h)

  pub goes_cant : CantRecord (shown_checked g.program.value) (history_at now.runs g.number) g.input → CantRecord (shown_checked g.program.value) (history_at old.runs g.number) g.input
  goes_cant h = subst (λ (b : Book). CantRecord (shown_checked g.program.value) (history_at b.runs g.number) g.input) goes.still h

pub comes_still : (u : Rules) (old now : Book) (s : Step) (o : Outcome) → Comes u old now s o → now ≡ old
comes_still u old now (step.Answered r cs) o h = h.still
comes_still u old now (step.Leads r cs l) o h = h.0.still
comes_still u old now (step.Ends r cs n) o h = h.still
comes_still u old now (step.GoesOn g) o h = h.still

pub fit_over : (m : Meaning) (old now : Book) (seats : Seats) → now ≡ old → FitSeats m old seats → FitSeats m now seats
fit_over m old now seats still fit = subst (λ (b : Book). FitSeats m b seats) (sym still) fit

-- a timer that fired, of which the changes are listed behind others
pub decided_adds : (old new : Book) (r : Reply) (made before after : List Change) (o : Outcome) → Decides old new r made o → after ≡ before ++ made → Adds old new before after o
decided_adds old new r made before after o d listed =
    record {
      changes_are = listed ∙ ap (λ (l : List Change). before ++ l) d.changes_are;
      book_is = d.book_is;
    }
