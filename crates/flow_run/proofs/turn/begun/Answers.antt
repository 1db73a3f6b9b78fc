use Rattle.std.proofs.Common.{◌≡◌, ◌∙◌, List, Some, ap, map, subst, sym, true}
use Rattle.flow_base.specs.Syntax.{Program, activities_of}
use Rattle.flow_base.specs.Shown.{shown_declaration}
use Rattle.flow_base.specs.declared.syntax.Declaration.{Declaration}
use Rattle.flow_nodes.specs.Links.{AreLinked, block_at}
use Rattle.flow_nodes.specs.declared.table.ProgramTable.{ProgramTable}
use Rattle.flow_model.specs.Checked.{shown_checked}
use Rattle.flow_model.specs.Deliver.{all_fit, begun}
use Rattle.flow_run.specs.Shown.{shown_answers}
use Rattle.flow_run.specs.Whole.{shown_standing}
use Rattle.flow_run.specs.Position.{shown_progress}
use Rattle.flow_run.proofs.Going.{on_err}
use Rattle.flow_run.proofs.Turns.{begun_fits, begun_unfit, turn_first}
use Rattle.flow_run.proofs.turn.begun.Goals as goal

pub begin-requires : goal.begin-requires
begin-requires c =
    ap (λ (t : ProgramTable). block_at t.lists.items t.body) c.table-table.ensures.same ∙ c.table-linked.ensures ∙ sym (ap (λ (t : Program). t.body) c.program-tree.ensures.same)

pub led-requires-clause-linked : goal.led-requires-clause-linked
led-requires-clause-linked c = subst (λ (t : ProgramTable). AreLinked t.lists.items) (sym c.table-table.ensures.same) c.table-table.ensures.linked

pub led-requires-clause-whole : goal.led-requires-clause-whole
led-requires-clause-whole c = rw c.in-Some.is at c.in_ok-begin.ensures.whole

pub returns-in_ok-left-in-Some-clause-turn : goal.returns-in_ok-left-in-Some-clause-turn
returns-in_ok-left-in-Some-clause-turn c =
    let p = shown_checked c.args.program.now in
    let ls = c.table-table.result.now.lists.items in
    let tree = c.program-tree.ensures.same in
    let first = rw c.in-Some.is at c.in_ok-begin.ensures.started in
    let started : Some (shown_progress ls c.in-Some.p) ≡ begun p c.args.values.now = first ∙ ap (λ (t : Program). begun t c.args.values.now) tree in
    turn_first p (shown_answers c.args.answers) c.args.at c.args.values.now (activities_of (map shown_declaration c.deref.result.now)) (shown_progress ls c.in-Some.p) c.in_ok-left-in-Some.left.1.items (shown_standing c.in_ok-left-in-Some.left.0)
    (ap (λ (ds : List Declaration). activities_of (map shown_declaration ds)) c.deref.ensures.value ∙ ap (λ (t : Program). activities_of t.declarations) tree) started c.in_ok-left-in-Some.ensures.led

pub returns-in-None-clause-turn : goal.returns-in-None-clause-turn
returns-in-None-clause-turn c =
    let p = shown_checked c.args.program.now in
    let first = rw c.in-None.is at c.in_ok-begin.ensures.started in
    begun_unfit p c.args.values.now (first ∙ ap (λ (t : Program). begun t c.args.values.now) c.program-tree.ensures.same)

pub returns-in_err-begin-clause-err : goal.returns-in_err-begin-clause-err
returns-in_err-begin-clause-err c =
    let p = shown_checked c.args.program.now in
    on_err c.from_residual.result (all_fit p.parameters c.args.values.now ≡ true)
    (ap (λ (t : Program). all_fit t.parameters c.args.values.now) (sym c.program-tree.ensures.same) ∙ c.in_err-begin.ensures.err)

pub returns-in_err-left-in-Some-clause-err : goal.returns-in_err-left-in-Some-clause-err
returns-in_err-left-in-Some-clause-err c =
    let p = shown_checked c.args.program.now in
    let first = rw c.in-Some.is at c.in_ok-begin.ensures.started in
    on_err c.from_residual-in_err-left-in-Some.result (all_fit p.parameters c.args.values.now ≡ true)
    (begun_fits p c.args.values.now (shown_progress c.table-table.result.now.lists.items c.in-Some.p) (first ∙ ap (λ (t : Program). begun t c.args.values.now) c.program-tree.ensures.same))
