-- What is written at an early end of the program.
use Rattle.std.proofs.Common.{ℕ, List, Option, inl, inr}
use Rattle.std.specs.Io.KnownBytes.{Appends}
use Rattle.std.proofs.KnownBytes.{Appends-trans}
use Rattle.flow_lines.proofs.Endings.{first_begun, both_begun}
use Rattle.flow_lines.specs.Driving.{WritesBeginning}
use Rattle.flow_lines.specs.Ending.{SaysFault, SaysFirst, SaysLine}
use Rattle.flow_cli.specs.Ending.{SaysAll, SaysEarly}
use Rattle.flow_cli.specs.Reasons.{reason_text}
use Rattle.flow_cli.specs.declared.reason.Early.{Early}

-- a beginning of a fault's line is one of what is said of an early end
pub fault_begun : (e : Early) (old new : Option (List ℕ)) → SaysFault e.fault old new → SaysEarly e old new
fault_begun e old new (inl w) = inl (first_begun old new _ (reason_text e.reason) w)
fault_begun e old new (inr w) = inr (first_begun old new _ (reason_text e.reason) w)

-- and so is the line with a beginning of the reason
pub early_begun : (e : Early) (old mid new : Option (List ℕ)) → SaysLine e.fault old mid → WritesBeginning mid new (reason_text e.reason) → SaysEarly e old new
early_begun e old mid new (inl all) w = inl (both_begun old mid new _ _ all w)
early_begun e old mid new (inr all) w = inr (both_begun old mid new _ _ all w)

-- the line stands first, whatever was written of the reason
pub early_first : (e : Early) (old mid new : Option (List ℕ)) → SaysLine e.fault old mid → WritesBeginning mid new (reason_text e.reason) → SaysFirst e.fault old new
early_first e old mid new (inl all) w = (w.front, inl (Appends-trans old mid new _ _ all w.written_are))
early_first e old mid new (inr all) w = (w.front, inr (Appends-trans old mid new _ _ all w.written_are))

-- the line and all of the reason
pub early_said : (e : Early) (old mid new : Option (List ℕ)) → SaysLine e.fault old mid → Appends mid new (reason_text e.reason) → SaysAll e old new
early_said e old mid new (inl all) more = inl (Appends-trans old mid new _ _ all more)
early_said e old mid new (inr all) more = inr (Appends-trans old mid new _ _ all more)
