use Rattle.std.proofs.Common.{inl}
use Rattle.flow_cli.proofs.Endings.{early_begun, early_first}
use Rattle.flow_cli.proofs.ending.say_early.Goals as goal

pub returns-in-Ok-clause-said : goal.returns-in-Ok-clause-said
returns-in-Ok-clause-said g c =
    let out = g.O.Output.contents in
    early_begun c.args.early.now (out c.args.errors.now) (out c.say_fault.new.errors) (out c.say_reason.new.errors) c.in-Ok.ensures.line c.say_reason.ensures.beginning

pub returns-in-Ok-clause-first : goal.returns-in-Ok-clause-first
returns-in-Ok-clause-first g c =
    let out = g.O.Output.contents in
    inl (early_first c.args.early.now (out c.args.errors.now) (out c.say_fault.new.errors) (out c.say_reason.new.errors) c.in-Ok.ensures.line c.say_reason.ensures.beginning)
