use Rattle.std.proofs.Common.{◌≡◌, ◌++◌, ◌∷◌, [], ◌∙◌, Some, None, ap, sym, subst, rules, true}
use Rattle.flow_base.specs.declared.event.State.TheVariants.{Open}
use Rattle.flow_base.specs.declared.value.Value.{Value}
use Rattle.flow_values.specs.Named.{look_up}
use Rattle.flow_values.specs.Slots.{slot_of}
use Rattle.flow_base.specs.Syntax.{signals_of}
use Rattle.flow_base.specs.Shown.{shown_program}
use Rattle.flow_model.specs.Deliver.{Progress, signal_fits}
use Rattle.flow_nodes.specs.declared.table.ProgramTable.{ProgramTable}
use Rattle.flow_run.specs.Position.{shown_progress, started_with}
use Rattle.flow_run.specs.Whole.{IsWholeAt, rest_at}
use Rattle.flow_run.proofs.Copied.{if_fits, whole_again, with_signal}
use Rattle.flow_run.proofs.deliver.signal.Goals as goal

pub returns-clause-started : goal.returns-clause-started
returns-clause-started c =
    let run = c.args.run.now in
    let ls = c.args.table.now.lists.items in
    let p = c.in_ok-p.p in
    let put : c.push.new.self ≡ p.store.buffer ++ (c.args.name.now, c.args.v.now) ∷ [] = search rules in
    ap Some
    (with_signal ls run.cells.items p (slot_of run.variables) run.buffer c.push.new.self (look_up run.decided) (c.args.name.now, c.args.v.now) c.in_ok-p.ensures.cells (c.in_ok-p.ensures.shows ls) put
    ∙ ap (λ (t : ProgramTable). started_with (rest_at t.lists.items run.cells.items) (slot_of run.variables) (run.buffer ++ (c.args.name.now, c.args.v.now) ∷ []) (look_up run.decided) Open) c.requires.table)
    ∙ if_fits (signal_fits (signals_of (shown_program c.args.program.now).declarations) c.args.name.now c.args.v.now) _ _ (search rules)

pub returns-clause-whole : goal.returns-clause-whole
returns-clause-whole c =
    let run = c.args.run.now in
    let ls = c.args.table.now.lists.items in
    let whole : IsWholeAt ls run.cells.items run.state = subst (λ (t : ProgramTable). IsWholeAt t.lists.items run.cells.items run.state) (sym c.requires.table) c.requires.whole in
    whole_again ls run.cells.items c.in_ok-p.p.cells.items c.in_ok-p.p.state run.state c.in_ok-p.ensures.cells whole (ap (λ (q : Progress). q.state) (c.in_ok-p.ensures.shows ls))
