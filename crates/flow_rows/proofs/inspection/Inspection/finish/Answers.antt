use Rattle.std.proofs.Common.{◌≡◌, sym, ap, ◌∙◌}
use Rattle.flow_rows.specs.Inspecting.{first_met}
use Rattle.flow_rows.specs.Parts.{or_else}
use Rattle.flow_rows.proofs.Inspected.{ends, met_of, was_clean_before}
use Rattle.flow_rows.proofs.inspection.Inspection.finish.Goals as goal

pub returns-clause-first : goal.returns-clause-first
returns-clause-first c = λ p g seen.
    let i = c.args.self.now in
    let below = c.args.below.now in
    let behind = c.args.behind.now in
    let events : c.either-events.result ≡ or_else below.events (or_else i.met.events behind.events) = c.either-events.ensures ∙ ap (or_else below.events) c.either.ensures in
    let timers : c.either-timers.result ≡ or_else below.timers (or_else i.met.timers behind.timers) = c.either-timers.ensures ∙ ap (or_else below.timers) c.either-2.ensures in
    let outbox : c.either-outbox.result ≡ or_else below.outbox (or_else i.met.outbox behind.outbox) = c.either-outbox.ensures ∙ ap (or_else below.outbox) c.either-3.ensures in
    c.first.ensures ∙ (λ k. first_met (met_of i.met.texts i.met.runs (events k) (timers k) (outbox k))) ∙ ends p i g below behind seen

pub returns-clause-clean : goal.returns-clause-clean
returns-clause-clean c = λ none.
    let i = c.args.self.now in
    let below = c.args.below.now in
    let behind = c.args.behind.now in
    let events : c.either-events.result ≡ or_else below.events (or_else i.met.events behind.events) = c.either-events.ensures ∙ ap (or_else below.events) c.either.ensures in
    let timers : c.either-timers.result ≡ or_else below.timers (or_else i.met.timers behind.timers) = c.either-timers.ensures ∙ ap (or_else below.timers) c.either-2.ensures in
    let outbox : c.either-outbox.result ≡ or_else below.outbox (or_else i.met.outbox behind.outbox) = c.either-outbox.ensures ∙ ap (or_else below.outbox) c.either-3.ensures in
    was_clean_before i below behind (sym (c.first.ensures ∙ (λ k. first_met (met_of i.met.texts i.met.runs (events k) (timers k) (outbox k)))) ∙ none)
