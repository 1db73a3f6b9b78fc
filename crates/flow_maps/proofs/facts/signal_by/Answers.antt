use Rattle.std.specs.Prelude.{◌≡◌}
use Rattle.flow_maps.proofs.Names.{None, Some, ap, length, refl, sym, ◌∙◌, Option, Bytes, AddTurn, Run, Book, changed, nth, with_attempt, with_run, with_text, with_turn, Head, IsSeat, AreOf, IsUntaken}
use Rattle.flow_maps.proofs.Serving.{some_weaker}
use Rattle.flow_maps.proofs.Signalled.{quiet_kept, stays_known}
use Rattle.flow_maps.proofs.facts.signal_by.Goals as goal

pub returns-in-AddTurn : goal.returns-in-AddTurn
returns-in-AddTurn c =
    let s = c.args.seat.now in
    let t = c.in-AddTurn.turn in
    let run = c.args.run in
    rw c.in-AddTurn.is (some_weaker c.follow.result
    (λ (o : Option Bytes). (b : Book) → (r : Run) → nth b.runs run ≡ Some r → r.flow ≡ s.head.flow → length r.history ≡ s.head.events → AreOf c.args.signals.now b → AreOf c.follow.new.self (changed b (AddTurn run t)) × IsUntaken o s.head.flow b (changed b (AddTurn run t)))
    (λ o. (b : Book) → (r : Run) → nth b.runs run ≡ Some r → IsSeat s r → AreOf c.args.signals.now b → AreOf c.follow.new.self (with_run b run (with_turn t)) × IsUntaken o s.head.flow b (with_run b run (with_turn t)))
    (λ o is b r there seat h. is b r there (ap (λ (k : Head). k.flow) seat.head) (ap (λ (k : Head). k.events) seat.head) h) c.follow.ensures)

pub returns-in-SetAttempt : goal.returns-in-SetAttempt
returns-in-SetAttempt c =
    rw c.in-SetAttempt.is (λ b r there seat h.
    let f = with_attempt c.in-SetAttempt.field-1 c.in-SetAttempt.field-2 c.in-SetAttempt.field-3 in
    let quiet = quiet_kept b c.args.run f (λ r. refl) (λ r. refl) in
    (stays_known c.args.signals.now b (with_run b c.args.run f) quiet h, λ fl q. sym (quiet fl q)))

pub returns-in-SetText : goal.returns-in-SetText
returns-in-SetText c =
    rw c.in-SetText.is (λ b r there seat h.
    let f = with_text c.in-SetText.field-1 in
    let quiet = quiet_kept b c.args.run f (λ r. refl) (λ r. refl) in
    (stays_known c.args.signals.now b (with_run b c.args.run f) quiet h, λ fl q. sym (quiet fl q)))
