use Rattle.std.proofs.Common.{◌≡◌, ◌%◌, ◌∙◌, ap, All, subst}
use Rattle.std.proofs.lemmas.List.{take_all}
use Rattle.flow_base.specs.declared.submission.Receipt.{Receipt}
use Rattle.flow_hub.specs.Waking.{Wakes}
use Rattle.flow_hub.proofs.Waking.{wakes_more}
use Rattle.flow_hub.proofs.waits.told_by.Goals as goal

pub loop-receipt-preserved : goal.loop-receipt-preserved
loop-receipt-preserved c =
    let item = c.receipt-item.result in
    let at : c.place_of.result ≡ item.ticket % 128 = c.place_of.ensures in
    wakes_more (λ (x : Receipt). x.ticket) c.args.receipts.now c.loop-receipt.receipt-index c.place_of.result item c.loop-receipt.told c.loop-receipt-test.true (at ∙ ap (λ (x : Receipt). x.ticket % 128) c.receipt-item.is) c.loop-receipt.invariant

pub returns : goal.returns
returns c = subst (All (λ x. Wakes c.loop-receipt.told x.ticket)) (take_all c.loop-receipt.receipt-index c.args.receipts.now c.loop-receipt-test.false) c.loop-receipt.invariant.1
