-- Causes of an early end.
use Rattle.std.proofs.Common.{◌≡◌, ℕ, List, ◌++◌, Option, Some, None, IfSome, refl, ◌∙◌, subst}
use Rattle.flow_base.specs.declared.code.Code.{Code}
use Rattle.flow_base.specs.declared.command.Command.{Command}
use Rattle.flow_model.specs.Apply.{Rules}
use Rattle.flow_model.specs.Book.{Book}
use Rattle.flow_lines.proofs.Answering.{book_on, lines_on, parts_on}
use Rattle.flow_lines.specs.Answering.{Part, AreParts, Answered}
use Rattle.flow_lines.specs.Driving.{lines_of}
use Rattle.flow_lines.specs.Faults.{fault_status, fault_of_stop}
use Rattle.flow_lines.specs.Stopping.{CausedFault, ComeNext, StoppedBy}
use Rattle.flow_model.specs.declared.answer.Stop.{Stop}
use Rattle.flow_model.specs.declared.answer.Stop.TheVariants as stop
use Rattle.flow_base.specs.declared.fault.Fault.{Fault}
use Rattle.flow_base.specs.declared.fault.Fault.TheVariants as fault

pub stop_status : (s : Stop) → fault_status (fault_of_stop s) ≡ 3
stop_status stop.Unknown = refl
stop_status stop.Halted = refl

-- the fault of a stop has the stop's cause
pub stop_caused : (s : Stop) (X : Stop → Type 0) → X s → CausedFault (fault_of_stop s) X
stop_caused stop.Unknown X h = h
stop_caused stop.Halted X h = h

-- An early end has every cause that follows from its cause.
pub fault_by : (f : Fault) (X Y : Stop → Type 0) → ((s : Stop) → X s → Y s) → CausedFault f X → CausedFault f Y
fault_by (fault.NoMemory _) X Y g c = tt
fault_by (fault.Mismatch run place name) X Y g c = absurd c
fault_by fault.NoRun X Y g c = absurd c
fault_by fault.StoreRefused X Y g c = absurd c
fault_by fault.NotOurs X Y g c = absurd c
fault_by fault.BadVersion X Y g c = absurd c
fault_by (fault.Damaged d) X Y g c = absurd c
fault_by fault.Unknown X Y g c = g stop.Unknown c
fault_by fault.Halted X Y g c = g stop.Halted c
fault_by fault.NoFile X Y g c = absurd c
fault_by fault.InputFailed X Y g c = tt
fault_by fault.OutputFailed X Y g c = tt
fault_by fault.BadSettings X Y g c = absurd c
fault_by fault.BadUsage X Y g c = absurd c

pub uncaused : (f : Fault) (Y : Stop → Type 0) → CausedFault f (λ s. ⊥) → CausedFault f Y
uncaused f Y c = fault_by f (λ s. ⊥) Y (λ s x. absurd x) c

-- what comes next among the lines behind comes next among them all
module _ (u : Rules) (given_up : Book → List Command → Code → Type 0) (counted : Book → List Part → Type 0) (cut : List (List ℕ) → List (List ℕ) → Type 0) where
  behind : (b b1 book : Book) (cs : List Command) (bytes : List ℕ) (left old new : Option (List ℕ)) (n : ℕ) (f : Answered u given_up counted cut b b1 bytes left old new n) → ComeNext u given_up cut b1 f.rest book cs → ComeNext u given_up cut b bytes book cs
  behind b b1 book cs bytes left old new n f w = record {
    parts = f.parts ++ w.parts;
    next = w.next;
    later = w.later;
    lines_are = lines_on (lines_of bytes) (lines_of f.rest) (w.next ++ w.later) f.parts w.parts f.lines_are w.lines_are;
    parts_are = parts_on u given_up cut b b1 f.parts w.parts (w.next ++ w.later) f.book_is (subst (AreParts u given_up cut b f.parts) w.lines_are f.parts_are) w.parts_are;
    book_is = w.book_is ∙ book_on u b b1 f.parts w.parts f.book_is;
    commands_are = w.commands_are;
  }

  next_later : (b b1 book : Book) (cs : List Command) (known left old new : Option (List ℕ)) (n : ℕ) → IfSome known (λ bytes. Answered u given_up counted cut b b1 bytes left old new n) → IfSome left (λ bytes. ComeNext u given_up cut b1 bytes book cs) → IfSome known (λ bytes. ComeNext u given_up cut b bytes book cs)
  next_later b b1 book cs None left old new n f w = tt
  next_later b b1 book cs (Some bytes) left old new n f w =
      behind b b1 book cs bytes left old new n f (subst (λ k. IfSome k (λ bytes. ComeNext u given_up cut b1 bytes book cs)) f.left_is w)

  pub stopped_later : (b b1 : Book) (e : Fault) (stops : Book → List Command → Stop → Type 0) (sure : Type 0) (known left old new : Option (List ℕ)) (n : ℕ) → (sure → IfSome known (λ bytes. Answered u given_up counted cut b b1 bytes left old new n)) → CausedFault e (StoppedBy u given_up stops cut sure b1 left) → CausedFault e (StoppedBy u given_up stops cut sure b known)
  stopped_later b b1 e stops sure known left old new n f cause =
      fault_by e (StoppedBy u given_up stops cut sure b1 left) (StoppedBy u given_up stops cut sure b known)
      (λ s x. (x.0, (x.1.0, (x.1.1.0, λ h. next_later b b1 x.0 x.1.0 known left old new n (f h) (x.1.1.1 h))))) cause
