use Rattle.std.proofs.Common.{rules, ◌≡◌, List, length, subst}
use Rattle.flow_base.specs.declared.event.Event.{Event}
use Rattle.flow_model.specs.Checked.{shown_checked}
use Rattle.flow_model.specs.Stands.{Stands}
use Rattle.flow_run.specs.Position.{config_of}
use Rattle.flow_machine.specs.Seated.{IsPlace}
use Rattle.flow_machine.proofs.OpenRuns.{place_here}
use Rattle.flow_machine.proofs.listing.place.Goals as goal

pub returns-in-Some-clause-stands : goal.returns-in-Some-clause-stands
returns-in-Some-clause-stands c = λ m b there reads fit.
    let r = c.args.run.now in
    let read = rw c.in-Some.is at c.in_ok-stance.ensures.found in
    let same : c.as_slice-events.result.now ≡ r.history = search rules in
    let found : IsPlace c.args.seats.now c.args.number r.text (length r.history) c.in-Some.stance = subst (λ (h : List Event). IsPlace c.args.seats.now c.args.number r.text (length h) c.in-Some.stance) same read in
    place_here m b c.args.seats.now c.args.number r c.in-Some.stance (shown_checked c.args.program.now) there reads fit found

pub returns-clause-stands : goal.returns-clause-stands
returns-clause-stands c = λ m b there reads fit.
    let p = shown_checked c.args.program.now in
    let same : c.as_slice-events.result.now ≡ c.args.run.now.history = search rules in
    subst (λ (h : List Event). Stands p h (config_of p c.in_ok-stance-2.stance)) same c.in_ok-stance-2.ensures.stands
