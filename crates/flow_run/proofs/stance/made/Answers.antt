use Rattle.std.proofs.Common.{◌≡◌, ◌<◌, ◌+◌, ◌^◌, ◌∙◌, length, None, Option, ap, subst, sym, true}
use Rattle.std.specs.Prelude.{IfOk, IfSome, MatchOption, OnErr, is_some}
use Rattle.flow_base.specs.declared.event.Input.{Input}
use Rattle.flow_base.specs.declared.event.Input.TheVariants as input
use Rattle.flow_model.specs.Checked.{shown_checked}
use Rattle.flow_model.specs.Configuration.{first_configuration}
use Rattle.flow_model.specs.Deliver.{deliver}
use Rattle.flow_model.specs.Turn.{Turn}
use Rattle.flow_run.specs.Shown.{shown_answers}
use Rattle.flow_run.specs.Position.{config_of, shown_begun}
use Rattle.flow_run.specs.Whole.{shown_standing}
use Rattle.flow_run.specs.declared.standing.Standing.{Standing}
use Rattle.flow_run.proofs.Turns.{begins_err, begins_ok}
use Rattle.flow_run.proofs.stance.made.Goals as goal

pub continued-requires : goal.continued-requires
unfolding config_of
continued-requires c = record { events = subst (λ (o : Option Standing). (shown_begun o).events < 2 ^ 61) c.in-Some.is c.requires.events }

pub returns-in-Some-clause-counted : goal.returns-in-Some-clause-counted
unfolding config_of
returns-in-Some-clause-counted c =
    subst (λ (o : Option Standing). IfOk c.continued.result (λ m. IfSome m (λ r. r.0.events ≡ (shown_begun o).events + 1 + length r.1.items))) (sym c.in-Some.is) c.continued.ensures.counted

pub returns-in-Some-clause-turn : goal.returns-in-Some-clause-turn
unfolding config_of
returns-in-Some-clause-turn c =
    let p = shown_checked c.args.program.now in
    subst (λ (o : Option Standing). IfOk c.continued.result (λ m. MatchOption m (deliver p (shown_begun o) c.args.input.now ≡ None) (λ r. Turn p (shown_answers c.args.answers) (shown_begun o) c.args.at c.args.input.now r.1.items (shown_standing r.0)))) (sym c.in-Some.is) c.continued.ensures.turn

pub returns-in-Some-clause-err : goal.returns-in-Some-clause-err
unfolding config_of
returns-in-Some-clause-err c =
    let p = shown_checked c.args.program.now in
    subst (λ (o : Option Standing). OnErr c.continued.result (is_some (deliver p (shown_begun o) c.args.input.now) ≡ true)) (sym c.in-Some.is) c.continued.ensures.err

pub returns-in-Started-clause-counted : goal.returns-in-Started-clause-counted
unfolding config_of
returns-in-Started-clause-counted c =
    subst (λ (o : Option Standing). IfOk c.begun.result (λ m. IfSome m (λ r. r.0.events ≡ (shown_begun o).events + 1 + length r.1.items))) (sym c.in-None.is) c.begun.ensures.counted

pub returns-in-Started-clause-turn : goal.returns-in-Started-clause-turn
unfolding config_of
returns-in-Started-clause-turn c =
    let p = shown_checked c.args.program.now in
    let same : input.Started c.as_slice.result.now ≡ c.args.input.now = ap input.Started c.as_slice.ensures ∙ sym c.in-Started.is in
    subst (λ (o : Option Standing). IfOk c.begun.result (λ m. MatchOption m (deliver p (shown_begun o) c.args.input.now ≡ None) (λ r. Turn p (shown_answers c.args.answers) (shown_begun o) c.args.at c.args.input.now r.1.items (shown_standing r.0)))) (sym c.in-None.is)
    (subst (λ (i : Input). IfOk c.begun.result (λ m. MatchOption m (deliver p first_configuration i ≡ None) (λ r. Turn p (shown_answers c.args.answers) first_configuration c.args.at i r.1.items (shown_standing r.0)))) same
    (begins_ok c.begun.result p c.as_slice.result.now (λ r. Turn p (shown_answers c.args.answers) first_configuration c.args.at (input.Started c.as_slice.result.now) r.1.items (shown_standing r.0)) c.begun.ensures.turn))

pub returns-in-Started-clause-err : goal.returns-in-Started-clause-err
unfolding config_of
returns-in-Started-clause-err c =
    let p = shown_checked c.args.program.now in
    let same : input.Started c.as_slice.result.now ≡ c.args.input.now = ap input.Started c.as_slice.ensures ∙ sym c.in-Started.is in
    subst (λ (o : Option Standing). OnErr c.begun.result (is_some (deliver p (shown_begun o) c.args.input.now) ≡ true)) (sym c.in-None.is)
    (subst (λ (i : Input). OnErr c.begun.result (is_some (deliver p first_configuration i) ≡ true)) same
    (begins_err c.begun.result p c.as_slice.result.now c.begun.ensures.err))
