use Rattle.std.specs.Prelude.{◌≡◌}
use Rattle.flow_maps.proofs.Names.{None, refl, rules, sym, AddRun, changed, unbegun_run, with_turn, asked_by}
use Rattle.flow_maps.proofs.Signalled.{quiet_run, stays_known}
use Rattle.flow_maps.proofs.facts.Facts.begin.Goals as goal

pub returns : goal.returns
returns c b h =
    let flow = c.args.flow.now in
    let request = c.args.request.now in
    let t = c.args.turn.now in
    let r = with_turn t (unbegun_run flow request c.args.text) in
    let none : asked_by t.input ≡ None = c.is_quiet.ensures c.if-not-is_quiet.false in
    let quiet = quiet_run b flow request c.args.text t none in (
      record {
        runs = c.add.ensures c.if-not-add.false b r (c.in-Some.ensures b h.runs) refl c.in-Some-first_seat.ensures h.runs;
        signals = stays_known c.args.self.now.signals b (changed b (AddRun flow request c.args.text t)) quiet h.signals;
      },
      record { now = r; made = refl; request = sym c.in-Ok.ensures; signals = λ f q. sym (quiet f q) },
    )
