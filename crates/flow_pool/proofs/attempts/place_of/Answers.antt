use Rattle.std.proofs.Common.{◌≡◌, ◌∙◌, true, sym, refl, length, ap, bytes_eq}
use Rattle.std.proofs.lemmas.Option.{slice_get_read}
use Rattle.flow_pool.proofs.Telling.{found_at}
use Rattle.flow_pool.proofs.attempts.place_of.Goals as goal

pub returns-then-eq-clause-some : goal.returns-then-eq-clause-some
returns-then-eq-clause-some g c =
    let xs = c.args.activities.now in
    let x = c.index-activities-i.result in
    let there = slice_get_read xs (length xs) c.places.i x refl c.places-test.true c.index-activities-i.is in
    let same : bytes_eq (g.A.Activity.named x) c.args.name.now ≡ true = ap (λ n. bytes_eq n c.args.name.now) (sym c.name.ensures) ∙ sym c.eq.ensures ∙ c.if-eq.true in
    (c.places-test.true, sym c.places.invariant ∙ found_at g.A.Activity.named c.args.name.now xs c.places.i x there same)
