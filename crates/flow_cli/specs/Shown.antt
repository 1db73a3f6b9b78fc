-- A call's texts.
use Rattle.std.specs.Prelude.{option_map}
use Rattle.flow_cli.specs.Calls as pure
use Rattle.flow_cli.specs.declared.call.Call.{Call}
use Rattle.flow_cli.specs.declared.call.Call.TheVariants as call
use Rattle.flow_cli.specs.declared.work.Work.TheVariants as work

abbrev pub shown : Call → pure.Call
shown (call.Check file) = pure.Check file.now
shown (call.Safe old new) = pure.Safe old.now new.now
shown (call.Settle old new) = pure.Settle old.now new.now
shown (call.Replay file history) = pure.Replay file.now history.now
shown (call.Over base (work.Drive most kept)) = pure.Drive base.now most kept
shown (call.Over base (work.History run)) = pure.History base.now run
shown (call.Open base) = pure.Open base.now
shown (call.Verify base) = pure.Verify base.now
shown (call.Work base settings leave_unknown) = pure.Work base.now (option_map (λ t. t.now) settings) leave_unknown
shown (call.Serve base settings) = pure.Serve base.now (option_map (λ t. t.now) settings)
