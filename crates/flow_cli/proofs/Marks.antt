-- Marks that are written, whatever comes of it.
use Rattle.std.proofs.Common.{◌≡◌, ℕ, List, Bool, Option, inl, inr, Result, Ok, Err}
use Rattle.std.specs.Prelude.{OnOk}
use Rattle.std.specs.Io.KnownBytes.{Appends}
use Rattle.flow_lines.specs.Driving.{WritesBeginning}
use Rattle.flow_lines.specs.Ends.{write_failed, write_ran_out}
use Rattle.flow_cli.specs.Places.{IsMarked}
use Rattle.flow_lines.specs.declared.output.Unwritten.{Unwritten}
use Rattle.flow_lines.specs.declared.output.Unwritten.TheVariants as unwritten

pub marked_by : {A : Type 0} (r : Result A Unwritten) (old new : Option (List ℕ)) (failed failed' ran_out ran_out' : Bool) (marks : List ℕ)
    → OnOk r (Appends old new marks) → WritesBeginning old new marks → failed' ≡ write_failed r failed → ran_out' ≡ write_ran_out r ran_out → IsMarked old new failed' ran_out' marks
marked_by (Ok a) old new failed failed' ran_out ran_out' marks all w f o = (w, inl all)
marked_by (Err (unwritten.NoMemory _)) old new failed failed' ran_out ran_out' marks all w f o = (w, inr (inr o))
marked_by (Err unwritten.Failed) old new failed failed' ran_out ran_out' marks all w f o = (w, inr (inl f))
