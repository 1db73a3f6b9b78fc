use Rattle.std.specs.Prelude.{◌≡◌}
use Rattle.flow_maps.proofs.Names.{refl, Book, changed, with_run, Knows, made_of, IsUndo}
use Rattle.flow_maps.proofs.Serving.{some_weaker}
use Rattle.flow_maps.proofs.facts.Facts.note.Goals as goal

pub returns-in-AddText : goal.returns-in-AddText
returns-in-AddText c = rw c.in-AddText.is (λ b h. (record { runs = record { count = h.runs.count; requests = h.runs.requests; seats = h.runs.seats }; signals = h.signals }, (c.in-AddText.field-0, refl)))

pub returns-in-AddRun : goal.returns-in-AddRun
returns-in-AddRun c = rw c.in-AddRun.is c.begin.ensures

pub returns-in-AddTurn : goal.returns-in-AddTurn
returns-in-AddTurn c =
    some_weaker c.follow.result (λ u. (b : Book) → changed b c.args.change.now ≡ with_run b c.in-AddTurn.run' (made_of c.args.change.now) → Knows c.args.self.now b → Knows c.follow.new.self (changed b c.args.change.now) × IsUndo u b (changed b c.args.change.now))
    (λ u. (b : Book) → Knows c.args.self.now b → Knows c.follow.new.self (changed b c.args.change.now) × IsUndo u b (changed b c.args.change.now)) (λ u is b h. is b (rw c.in-AddTurn.is refl) h) c.follow.ensures

pub returns-in-SetAttempt : goal.returns-in-SetAttempt
returns-in-SetAttempt c =
    some_weaker c.follow-in-SetAttempt.result (λ u. (b : Book) → changed b c.args.change.now ≡ with_run b c.in-SetAttempt.run' (made_of c.args.change.now) → Knows c.args.self.now b → Knows c.follow-in-SetAttempt.new.self (changed b c.args.change.now) × IsUndo u b (changed b c.args.change.now))
    (λ u. (b : Book) → Knows c.args.self.now b → Knows c.follow-in-SetAttempt.new.self (changed b c.args.change.now) × IsUndo u b (changed b c.args.change.now)) (λ u is b h. is b (rw c.in-SetAttempt.is refl) h) c.follow-in-SetAttempt.ensures

pub returns-in-SetText : goal.returns-in-SetText
returns-in-SetText c =
    some_weaker c.follow-in-SetText.result (λ u. (b : Book) → changed b c.args.change.now ≡ with_run b c.in-SetText.run' (made_of c.args.change.now) → Knows c.args.self.now b → Knows c.follow-in-SetText.new.self (changed b c.args.change.now) × IsUndo u b (changed b c.args.change.now))
    (λ u. (b : Book) → Knows c.args.self.now b → Knows c.follow-in-SetText.new.self (changed b c.args.change.now) × IsUndo u b (changed b c.args.change.now)) (λ u is b h. is b (rw c.in-SetText.is refl) h) c.follow-in-SetText.ensures
