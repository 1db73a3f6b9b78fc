use Rattle.std.proofs.Common.{◌≡◌, ◌+◌, ◌∙◌, List, None, Some, ap, map, arith, subst, sym, true}
use Rattle.std.specs.Prelude.{is_some}
use Rattle.flow_base.specs.Syntax.{Program, activities_of}
use Rattle.flow_base.specs.Shown.{shown_declaration, shown_program}
use Rattle.flow_base.specs.declared.syntax.Declaration.{Declaration}
use Rattle.flow_nodes.specs.Links.{AreLinked}
use Rattle.flow_nodes.specs.declared.table.ProgramTable.{ProgramTable}
use Rattle.flow_model.specs.Checked.{shown_checked}
use Rattle.flow_model.specs.Deliver.{deliver}
use Rattle.flow_run.specs.Shown.{shown_answers}
use Rattle.flow_run.specs.Whole.{IsWhole, shown_standing}
use Rattle.flow_run.specs.Position.{shown_progress}
use Rattle.flow_run.specs.declared.standing.Standing.{Standing}
use Rattle.flow_run.proofs.Going.{on_err}
use Rattle.flow_run.proofs.Turns.{turn_again}
use Rattle.flow_run.proofs.turn.continued.Goals as goal

pub deliver-requires-clause-whole : goal.deliver-requires-clause-whole
deliver-requires-clause-whole c = subst IsWhole (sym c.get-run.ensures.same) c.get-run.ensures.whole

pub led-requires-clause-linked : goal.led-requires-clause-linked
led-requires-clause-linked c = subst (λ (t : ProgramTable). AreLinked t.lists.items) (sym c.table-table.ensures.same) c.table-table.ensures.linked

pub led-requires-clause-events : goal.led-requires-clause-events
led-requires-clause-events c = omega (arith, c.requires.events, ap (λ (r : Standing). r.events) c.get-run.ensures.same)

pub led-requires-clause-whole : goal.led-requires-clause-whole
led-requires-clause-whole c = rw c.in-Some.is at c.in_ok-deliver.ensures.whole

pub returns-in_ok-left-in-Some-clause-counted : goal.returns-in_ok-left-in-Some-clause-counted
returns-in_ok-left-in-Some-clause-counted c = omega (arith, c.in_ok-left-in-Some.ensures.counted, ap (λ (r : Standing). r.events) c.get-run.ensures.same)

pub returns-in_ok-left-in-Some-clause-turn : goal.returns-in_ok-left-in-Some-clause-turn
returns-in_ok-left-in-Some-clause-turn c =
    let run = c.get-run.result.now in
    let p = shown_checked c.args.program.now in
    let ls = c.table-table.result.now.lists.items in
    let tree = c.program-tree.ensures.same in
    let same = c.get-run.ensures.same in
    let first = rw c.in-Some.is at c.in_ok-deliver.ensures.started in
    let started : Some (shown_progress ls c.in-Some.p) ≡ deliver p (shown_standing c.args.position.now) c.args.input.now =
    first
    ∙ ap (λ (t : Program). deliver t (shown_standing run) c.args.input.now) tree
    ∙ ap (λ (r : Standing). deliver p (shown_standing r) c.args.input.now) same in
    turn_again p (shown_answers c.args.answers) (shown_standing c.args.position.now) c.args.at c.args.input.now (activities_of (map shown_declaration c.deref.result.now)) (run.events + 1) (shown_progress ls c.in-Some.p) c.in_ok-left-in-Some.left.1.items (shown_standing c.in_ok-left-in-Some.left.0)
    (ap (λ (ds : List Declaration). activities_of (map shown_declaration ds)) c.deref.ensures.value ∙ ap (λ (t : Program). activities_of t.declarations) tree) c.get-run.ensures.whole.begun (ap (λ (r : Standing). r.events + 1) same) started c.in_ok-left-in-Some.ensures.led

pub returns-in-None-clause-turn : goal.returns-in-None-clause-turn
returns-in-None-clause-turn c =
    let p = shown_checked c.args.program.now in
    let moved : deliver (shown_program c.program-tree.result.now) (shown_standing c.get-run.result.now) c.args.input.now ≡ deliver p (shown_standing c.args.position.now) c.args.input.now =
    ap (λ (t : Program). deliver t (shown_standing c.get-run.result.now) c.args.input.now) c.program-tree.ensures.same
    ∙ ap (λ (r : Standing). deliver p (shown_standing r) c.args.input.now) c.get-run.ensures.same in
    let first = rw c.in-None.is at c.in_ok-deliver.ensures.started in
    sym (first ∙ moved)

pub returns-in_err-deliver-clause-err : goal.returns-in_err-deliver-clause-err
returns-in_err-deliver-clause-err c =
    let p = shown_checked c.args.program.now in
    let moved : deliver (shown_program c.program-tree.result.now) (shown_standing c.get-run.result.now) c.args.input.now ≡ deliver p (shown_standing c.args.position.now) c.args.input.now =
    ap (λ (t : Program). deliver t (shown_standing c.get-run.result.now) c.args.input.now) c.program-tree.ensures.same
    ∙ ap (λ (r : Standing). deliver p (shown_standing r) c.args.input.now) c.get-run.ensures.same in
    on_err c.from_residual.result (is_some (deliver p (shown_standing c.args.position.now) c.args.input.now) ≡ true) (ap is_some (sym moved) ∙ c.in_err-deliver.ensures.err)

pub returns-in_err-left-in-Some-clause-err : goal.returns-in_err-left-in-Some-clause-err
returns-in_err-left-in-Some-clause-err c =
    let p = shown_checked c.args.program.now in
    let moved : deliver (shown_program c.program-tree.result.now) (shown_standing c.get-run.result.now) c.args.input.now ≡ deliver p (shown_standing c.args.position.now) c.args.input.now =
    ap (λ (t : Program). deliver t (shown_standing c.get-run.result.now) c.args.input.now) c.program-tree.ensures.same
    ∙ ap (λ (r : Standing). deliver p (shown_standing r) c.args.input.now) c.get-run.ensures.same in
    let first = rw c.in-Some.is at c.in_ok-deliver.ensures.started in
    on_err c.from_residual-in_err-left-in-Some.result (is_some (deliver p (shown_standing c.args.position.now) c.args.input.now) ≡ true) (ap is_some (sym (first ∙ moved)))
