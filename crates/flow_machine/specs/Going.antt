-- What a command comes to before any turn is taken.
use Rattle.std.specs.Prelude.{◌≡◌, ℕ, Some, Result, IfOk}
use Rattle.flow_model.specs.Checked.{shown_checked}
use Rattle.flow_model.specs.Book.{Book}
use Rattle.flow_model.specs.Apply.{Rules, Outcome, program_at, rules_of}
use Rattle.flow_view.specs.Called.{Called}
use Rattle.flow_view.specs.Heads.{head_at}
use Rattle.flow_view.specs.declared.fault.ViewFault.{ViewFault}
use Rattle.flow_view.specs.declared.head.Head.{Head}
use Rattle.flow_view.specs.declared.view.View.{Ghosts}
use Rattle.flow_machine.specs.ByHead.{history_at, recorded_at}
use Rattle.flow_machine.specs.Deciding.{Finds}
use Rattle.flow_machine.specs.Reached.{Meaning}
use Rattle.flow_machine.specs.Seated.{LeadsTo}
use Rattle.flow_machine.specs.Stuck.{CantRecord}
use Rattle.flow_machine.specs.declared.going.Going.{Going}
use Rattle.flow_machine.specs.declared.going.Step.{Step}
use Rattle.flow_machine.specs.declared.going.Step.TheVariants as step

-- The run is there with this head, and its text reads as the program.
pub record IsGoing (m : Meaning) (b : Book) (g : Going) : Type 0 where
  pub there : head_at b.runs g.number ≡ Some g.head
  pub reads : program_at m b g.head.text ≡ Some (shown_checked g.program.value)

-- The book is as it was, and the outcome is what the run records.
pub record GoesOn (u : Rules) (old new : Book) (g : Going) (o : Outcome) : Type 0 where
  pub still : new ≡ old
  pub there : head_at old.runs g.number ≡ Some g.head
  pub reads : program_at u.program_of old g.head.text ≡ Some (shown_checked g.program.value)
  pub outcome : o ≡ recorded_at u.limit (shown_checked g.program.value) g.head (history_at old.runs g.number) g.number g.at g.input

-- The command comes to the outcome, and a run that it begins, or that goes on by it under another text, to a position.
abbrev pub Comes : Rules → Book → Book → Step → Outcome → Type 0
Comes u old new (step.Answered r cs) o = Finds old new r cs.items o
Comes u old new (step.Leads r cs l) o = Finds old new r cs.items o × LeadsTo u.program_of old cs.items l
Comes u old new (step.Ends r cs n) o = Finds old new r cs.items o
Comes u old new (step.GoesOn g) o = GoesOn u old new g o

-- The run can't record the input.
abbrev pub IsStuckStep : Book → Step → Type 0
IsStuckStep b (step.Answered r cs) = ⊥
IsStuckStep b (step.Leads r cs l) = ⊥
IsStuckStep b (step.Ends r cs n) = ⊥
IsStuckStep b (step.GoesOn g) = CantRecord (shown_checked g.program.value) (history_at b.runs g.number) g.input

-- Where the run can't record the input, this is behind it.
abbrev pub Sticks : Book → Step → Type 0 → Type 0
Sticks b (step.Answered r cs) stuck = Unit {0}
Sticks b (step.Leads r cs l) stuck = Unit {0}
Sticks b (step.Ends r cs n) stuck = Unit {0}
Sticks b (step.GoesOn g) stuck = CantRecord (shown_checked g.program.value) (history_at b.runs g.number) g.input → stuck

-- What a call over a view says if it comes to a step: which outcome it is a step to, what is stuck if its run can't record the input, and
-- what every call says. `g` is the view's kind, `V.View` in a clause.
pub record StepCalled {V : Type 0} (g : Ghosts V) (m : Meaning) (old new : V) (result : Result Step ViewFault) (o : Outcome) (stuck : Type 0) : Type 0 where
  pub comes : IfOk result (λ s. g.is_sure new → Comes (rules_of m) (g.book old) (g.book new) s o)
  pub sticks : IfOk result (λ s. g.is_sure new → Sticks (g.book old) s stuck)
  pub called : Called g old new result stuck

-- The same of a call that is handed the head of a run: the outcome is that of the book if the head is the run's.
pub record StepFrom {V : Type 0} (g : Ghosts V) (m : Meaning) (run : ℕ) (h : Head) (old new : V) (result : Result Step ViewFault) (o : Outcome) (stuck : Type 0) : Type 0 where
  pub comes : IfOk result (λ s. g.is_sure new → head_at (g.book old).runs run ≡ Some h → Comes (rules_of m) (g.book old) (g.book new) s o)
  pub sticks : IfOk result (λ s. g.is_sure new → Sticks (g.book old) s stuck)
  pub called : Called g old new result stuck
