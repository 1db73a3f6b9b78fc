use Rattle.std.specs.Prelude.{◌≡◌}
use Rattle.flow_maps.proofs.Names.{◌∙◌, ap, option_map, rules, least_due, due_after, first_timer, moment_of, ready_within, soonest, waiting}
use Rattle.flow_maps.proofs.outlook.outlook.Goals as goal

pub returns : goal.returns
returns c b h =
    let last : c.last.result ≡ 1000000000000000 = search rules in
    let first : c.in-Some.first ≡ first_timer b = c.in-Some.ensures b h.due ∙ ap (λ at. least_due b at) last in
    let due : c.in-Some-next_due.due ≡ due_after c.args.at b = c.in-Some-next_due.ensures b h.ready ∙ ap (λ o. soonest c.args.at o (waiting b)) (c.moment_of.ensures ∙ ap (option_map moment_of) first) in
    let ready = c.in-Some-listed.ensures b h in
    let opened = c.count.ensures b.runs h in
    λ i. record { ready = ready i; due = due i; open_runs = opened i }
