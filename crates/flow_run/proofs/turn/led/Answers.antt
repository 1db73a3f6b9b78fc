use Rattle.std.proofs.Common.{◌≡◌, ◌∙◌, ap, subst, sym}
use Rattle.flow_nodes.specs.declared.table.ProgramTable.{ProgramTable}
use Rattle.flow_model.specs.Turn.{left_by}
use Rattle.flow_run.specs.Position.{IsWholeTurning, shown_frame, shown_progress}
use Rattle.flow_run.proofs.turn.led.Goals as goal

pub left_by-requires-clause-whole : goal.left_by-requires-clause-whole
left_by-requires-clause-whole c =
    let same : c.in_ok-linked.linked ≡ c.args.table.now = c.in_ok-linked.ensures ∙ sym c.requires.table in
    subst (λ (u : ProgramTable). IsWholeTurning u.lists.items c.go_on.new.p) (sym same) c.in_ok-go_on.ensures.whole

pub returns-clause-led : goal.returns-clause-led
returns-clause-led c =
    let same : c.in_ok-linked.linked ≡ c.args.table.now = c.in_ok-linked.ensures ∙ sym c.requires.table in
    record {
      last = shown_progress c.args.table.now.lists.items c.go_on.new.p;
      runs = c.in_ok-go_on.ensures.runs;
      asks = c.left_by.ensures.commands;
      leaves = c.left_by.ensures.run ∙ ap (λ (u : ProgramTable). left_by (shown_frame c.args.f.now) (shown_progress u.lists.items c.go_on.new.p)) same;
    }
