use Rattle.std.proofs.Common.{◌≡◌, ◌∙◌, None, ap, refl, sym, true, false}
use Rattle.std.proofs.lemmas.Bool.{true≢false}
use Rattle.std.specs.Prelude.{is_some}
use Rattle.flow_model.specs.Checked.{shown_checked}
use Rattle.flow_model.specs.Configuration.{is_closed}
use Rattle.flow_model.proofs.Positions.{turn_computed}
use Rattle.flow_run.specs.Position.{config_of}
use Rattle.flow_run.specs.Shown.{shown_answers}
use Rattle.flow_run.specs.Whole.{shown_standing}
use Rattle.flow_run.proofs.Turns.{is_delivered}
use Rattle.flow_run.proofs.stance.turn.Goals as goal

pub returns-then-is_closed-clause-closed : goal.returns-then-is_closed-clause-closed
returns-then-is_closed-clause-closed c =
    let p = shown_checked c.args.program.now in
    let closed : is_closed (config_of p c.args.stance.now).state ≡ true = ap is_closed (c.state.ensures p) ∙ sym c.is_closed.ensures ∙ c.if-is_closed.true in
    (λ h. closed, λ h. refl)

pub returns-then-is_closed-clause-not_awaited : goal.returns-then-is_closed-clause-not_awaited
returns-then-is_closed-clause-not_awaited c =
    let p = shown_checked c.args.program.now in
    let closed : is_closed (config_of p c.args.stance.now).state ≡ true = ap is_closed (c.state.ensures p) ∙ sym c.is_closed.ensures ∙ c.if-is_closed.true in
    (λ h. cc (h), λ h. absurd (true≢false (sym closed ∙ h.0)))

pub returns-in-Ok-Some-clause-turn : goal.returns-in-Ok-Some-clause-turn
unfolding config_of
returns-in-Ok-Some-clause-turn c = rw c.in-Ok-Some.field-0-is at c.in-Ok-Some.ensures.turn

pub returns-in-Ok-Some-clause-computed : goal.returns-in-Ok-Some-clause-computed
unfolding config_of
returns-in-Ok-Some-clause-computed c =
    let p = shown_checked c.args.program.now in
    turn_computed p (shown_answers c.args.answers) (config_of p c.args.stance.now) c.args.at c.args.input.now c.in-Ok-Some.commands.items (shown_standing c.in-Ok-Some.position) (rw c.in-Ok-Some.field-0-is at c.in-Ok-Some.ensures.turn)

pub returns-in-Ok-Some-clause-counted : goal.returns-in-Ok-Some-clause-counted
unfolding config_of
returns-in-Ok-Some-clause-counted c = rw c.in-Ok-Some.field-0-is at c.in-Ok-Some.ensures.counted

pub returns-in-Ok-Some-clause-closed : goal.returns-in-Ok-Some-clause-closed
returns-in-Ok-Some-clause-closed c =
    let p = shown_checked c.args.program.now in
    let goes : is_closed (config_of p c.args.stance.now).state ≡ false = ap is_closed (c.state.ensures p) ∙ sym c.is_closed.ensures ∙ c.if-is_closed.false in
    (λ h. cc (h), λ h. absurd (true≢false (sym h ∙ goes)))

pub returns-in-Ok-Some-clause-not_awaited : goal.returns-in-Ok-Some-clause-not_awaited
returns-in-Ok-Some-clause-not_awaited c =
    let p = shown_checked c.args.program.now in
    let came = is_delivered p (shown_answers c.args.answers) (config_of p c.args.stance.now) c.args.at c.args.input.now c.in-Ok-Some.commands.items (shown_standing c.in-Ok-Some.position) (rw c.in-Ok-Some.field-0-is at c.in-Ok-Some.ensures.turn) in
    (λ h. cc (h), λ h. absurd (true≢false (sym came ∙ ap is_some h.1)))

pub returns-in-Ok-None-clause-closed : goal.returns-in-Ok-None-clause-closed
returns-in-Ok-None-clause-closed c =
    let p = shown_checked c.args.program.now in
    let goes : is_closed (config_of p c.args.stance.now).state ≡ false = ap is_closed (c.state.ensures p) ∙ sym c.is_closed.ensures ∙ c.if-is_closed.false in
    (λ h. cc (h), λ h. absurd (true≢false (sym h ∙ goes)))

pub returns-in-Ok-None-clause-not_awaited : goal.returns-in-Ok-None-clause-not_awaited
returns-in-Ok-None-clause-not_awaited c =
    let p = shown_checked c.args.program.now in
    let goes : is_closed (config_of p c.args.stance.now).state ≡ false = ap is_closed (c.state.ensures p) ∙ sym c.is_closed.ensures ∙ c.if-is_closed.false in
    let none = rw c.in-Ok-None.field-0-is at c.in-Ok-None.ensures.turn in
    (λ h. (goes, none), λ h. refl)

pub returns-in-Err-NoMemory-clause-closed : goal.returns-in-Err-NoMemory-clause-closed
returns-in-Err-NoMemory-clause-closed c =
    let p = shown_checked c.args.program.now in
    let goes : is_closed (config_of p c.args.stance.now).state ≡ false = ap is_closed (c.state.ensures p) ∙ sym c.is_closed.ensures ∙ c.if-is_closed.false in
    (λ h. cc (h), λ h. absurd (true≢false (sym h ∙ goes)))

pub returns-in-Err-NoMemory-clause-not_awaited : goal.returns-in-Err-NoMemory-clause-not_awaited
returns-in-Err-NoMemory-clause-not_awaited c = (λ h. cc (h), λ h. absurd (true≢false (sym c.in-Err-NoMemory.ensures.err ∙ ap is_some h.1)))
