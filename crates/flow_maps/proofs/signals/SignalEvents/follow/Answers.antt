use Rattle.std.specs.Prelude.{◌≡◌}
use Rattle.flow_maps.proofs.Names.{ℕ, Some, None, sym, rules, AddTurn, Run, Book, changed, nth, AreOf, IsTaken, IsUntaken, asked_by, length}
use Rattle.flow_maps.proofs.Serving.{some_weaker}
use Rattle.flow_maps.proofs.Signalled.{quiet_turn, signal_taken, stays_known}
use Rattle.flow_maps.proofs.signals.SignalEvents.follow.Goals as goal

pub returns-in-Some : goal.returns-in-Some
returns-in-Some c =
    let flow = c.args.flow.now in
    let request = c.in-Some.request.now in
    let t = c.args.turn.now in
    let asks : asked_by t.input ≡ Some request = search rules in
    some_weaker c.take_first.result
    (λ o. (b d : Book) → IsTaken b d flow c.args.run c.args.count request → AreOf c.args.self.now b → AreOf c.take_first.new.self d × IsUntaken o flow b d)
    (λ o. (b : Book) → (r : Run) → nth b.runs c.args.run ≡ Some r → r.flow ≡ flow → length r.history ≡ c.args.count → AreOf c.args.self.now b → AreOf c.take_first.new.self (changed b (AddTurn c.args.run t)) × IsUntaken o flow b (changed b (AddTurn c.args.run t)))
    (λ o is b r at own long h. is b (changed b (AddTurn c.args.run t)) (signal_taken b c.args.run c.args.count t r flow request at own long asks) h) c.take_first.ensures

pub returns-in-None : goal.returns-in-None
returns-in-None c b r at own long h =
    let t = c.args.turn.now in
    let none : asked_by t.input ≡ None = search rules in
    let quiet = quiet_turn b c.args.run t r at none in
    (stays_known c.args.self.now b (changed b (AddTurn c.args.run t)) quiet h, λ f q. sym (quiet f q))
