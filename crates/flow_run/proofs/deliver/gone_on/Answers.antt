use Rattle.std.proofs.Common.{◌≡◌, ◌<◌, length, ap, sym, subst, arith}
use Rattle.flow_model.specs.Deliver.{Progress}
use Rattle.flow_run.specs.Waiting.{going_on}
use Rattle.flow_run.specs.Whole.{rest_at}
use Rattle.flow_run.proofs.Going.{as_many, shows_again, sound_again, waits_again, whole_at, whole_on}
use Rattle.flow_run.proofs.deliver.gone_on.Goals as goal

pub go_on_as-requires-clause-there : goal.go_on_as-requires-clause-there
go_on_as-requires-clause-there c = omega (arith, c.requires.there, as_many c.in_ok-p.p.cells.items c.args.run.now.cells.items c.in_ok-p.ensures.cells)

pub go_on_as-requires-clause-sound : goal.go_on_as-requires-clause-sound
go_on_as-requires-clause-sound c =
    sound_again c.args.table.now.lists.items c.args.run.now.cells.items c.in_ok-p.p.cells.items c.in_ok-p.ensures.cells (whole_at c.args.run.now c.args.table.now c.requires.table c.requires.whole).sound

pub go_on_as-requires-clause-waits : goal.go_on_as-requires-clause-waits
go_on_as-requires-clause-waits c = λ d is.
    let there : c.args.i < length c.in_ok-p.p.cells.items = omega (arith, c.requires.there, as_many c.in_ok-p.p.cells.items c.args.run.now.cells.items c.in_ok-p.ensures.cells) in
    waits_again c.args.run.now.cells.items c.in_ok-p.p.cells.items c.args.i c.in_ok-p.ensures.cells there c.requires.waits d is

pub returns-clause-shows : goal.returns-clause-shows
returns-clause-shows c = λ d is.
    let ls = c.args.table.now.lists.items in
    shows_again ls c.args.run.now.cells.items c.in_ok-p.p.cells.items c.go_on_as.new.cells.items c.args.i (going_on ls c.args.list c.args.other) c.in_ok-p.ensures.cells c.requires.there c.in_ok-go_on_as.ensures.shows d is

pub returns-clause-whole : goal.returns-clause-whole
returns-clause-whole c =
    let ls = c.args.table.now.lists.items in
    let cs = c.args.run.now.cells.items in
    let r = going_on ls c.args.list c.args.other in
    whole_on ls cs c.go_on_as.new.cells.items c.args.i r c.in_ok-p.p.state c.args.run.now.state (whole_at c.args.run.now c.args.table.now c.requires.table c.requires.whole) c.requires.there c.requires.waits
    (λ d is. shows_again ls cs c.in_ok-p.p.cells.items c.go_on_as.new.cells.items c.args.i r c.in_ok-p.ensures.cells c.requires.there c.in_ok-go_on_as.ensures.shows d is)
    c.in_ok-go_on_as.ensures.sound (ap (λ (q : Progress). q.state) (c.in_ok-p.ensures.shows ls))

pub returns-clause-store : goal.returns-clause-store
returns-clause-store c =
    let ls = c.args.table.now.lists.items in
    ap (λ (q : Progress). record q { rest = rest_at ls c.go_on_as.new.cells.items }) (c.in_ok-p.ensures.shows ls)
