use Rattle.std.proofs.Common.{◌≡◌, ◌∙◌, List, Option, Some, ap, sym, subst}
use Rattle.std.specs.Prelude.{IfOk}
use Rattle.flow_run.specs.Position.{config_of, shown_begun}
use Rattle.flow_run.specs.Shown.{waits_of}
use Rattle.flow_run.specs.Waiting.{waits_in_all}
use Rattle.flow_run.specs.declared.cell.Cell.{Cell}
use Rattle.flow_run.specs.declared.standing.Standing.{Standing}
use Rattle.flow_run.specs.declared.waits.OpenWait.{OpenWait}
use Rattle.flow_run.proofs.OpenWaits.{waits_are}
use Rattle.flow_run.proofs.stance.Stance.waits.Goals as goal

pub returns-in-Some : goal.returns-in-Some
unfolding config_of
returns-in-Some c =
    let q = c.get.result.now in
    let cells : waits_in_all c.deref.result.now ≡ waits_in_all q.cells.items = ap (λ (cs : List Cell). waits_in_all cs) c.deref.ensures.value in
    let same : q ≡ c.in-Some.position = c.get.ensures.same in
    let all : waits_in_all c.deref.result.now ≡ waits_of (shown_begun (Some c.in-Some.position)).rest =
    cells
    ∙ ap (λ (s : Standing). waits_in_all s.cells.items) same
    ∙ waits_are c.in-Some.position.table.lists.items c.in-Some.position.cells.items c.get.ensures.whole.one in
    subst (λ (xs : List OpenWait). IfOk c.waits.result (λ ws. ws.items ≡ xs)) (all ∙ ap (λ (o : Option Standing). waits_of (shown_begun o).rest) (sym c.in-Some.is)) c.waits.ensures
