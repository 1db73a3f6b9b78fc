use Rattle.std.proofs.Common.{◌≡◌, ◌+◌, List, [], ◌∷◌, ◌++◌, ap, sym, ◌∙◌, arith, rules}
use Rattle.flow_base.specs.Syntax.{Block}
use Rattle.flow_base.specs.Shown.{shown_stmt}
use Rattle.flow_model.specs.Rest.{Rest, Then, rest_of}
use Rattle.flow_nodes.specs.Links.{block_at, stmts_at}
use Rattle.flow_run.specs.Marks.{within}
use Rattle.flow_run.specs.Flat.{IsFull, blocks_of, shown_onward}
use Rattle.flow_run.specs.declared.cell.Place.{Place}
use Rattle.flow_run.specs.declared.begins.Next.{Next}
use Rattle.flow_run.proofs.Parts.{again_at, begun_part, pushed_place}
use Rattle.flow_run.proofs.tasks.onward.Goals as goal

pub enter-requires-in-Repeats : goal.enter-requires-in-Repeats
enter-requires-in-Repeats c =
    let ls = c.args.table.now.lists.items in
    let p = c.args.place in
    let full : IsFull ls (record { list = p.list; at = p.at; to = p.at + 1 }) = begun_part (stmts_at ls p.list) (p.at + 1) p.at c.requires.at (omega arith) in
    search rules

pub returns-in_ok-enter-in-Repeats-clause-rest : goal.returns-in_ok-enter-in-Repeats-clause-rest
returns-in_ok-enter-in-Repeats-clause-rest c = λ st there.
    let ls = c.args.table.now.lists.items in
    let p = c.args.place in
    let q : Place = record { list = p.list; at = p.at; to = p.at + 1 } in
    let old = c.args.cell.now.places.items in
    let body : Rest = rest_of (block_at ls c.in-Repeats.list) in
    c.in_ok-enter-in-Repeats.ensures.rest
    ∙ ap (λ (ps : List Place). within (blocks_of ls ps) body) c.in_ok-push-in-Repeats.ensures.items
    ∙ pushed_place ls old q body
    ∙ ap (λ (b : Block). within (blocks_of ls old) (Then body b)) (again_at ls p st there)
    ∙ ap (λ (n : Next). within (blocks_of ls old) (shown_onward ls (shown_stmt st) n)) (sym c.in-Repeats.is)
