use Rattle.std.proofs.Common.{◌≡◌, ◌%◌, ◌∙◌, ap, All, subst}
use Rattle.std.proofs.lemmas.List.{take_all}
use Rattle.flow_base.specs.declared.submission.Taken.{Taken}
use Rattle.flow_hub.specs.Waking.{Wakes}
use Rattle.flow_hub.proofs.Waking.{wakes_more}
use Rattle.flow_hub.proofs.waits.told_of.Goals as goal

pub loop-taken-preserved : goal.loop-taken-preserved
loop-taken-preserved c =
    let item = c.taken-item.result in
    let at : c.place_of.result ≡ item.ticket % 128 = c.place_of.ensures in
    wakes_more (λ (x : Taken). x.ticket) c.args.all.now c.loop-taken.taken-index c.place_of.result item c.loop-taken.told c.loop-taken-test.true (at ∙ ap (λ (x : Taken). x.ticket % 128) c.taken-item.is) c.loop-taken.invariant

pub returns : goal.returns
returns c = subst (All (λ x. Wakes c.loop-taken.told x.ticket)) (take_all c.loop-taken.taken-index c.args.all.now c.loop-taken-test.false) c.loop-taken.invariant.1
