use Rattle.std.proofs.Common.{◌≡◌, ◌<◌, true, false, length, get_or, drop, add-one, sym, ap, ◌∙◌, arith}
use Rattle.std.specs.Prelude.{bytes_eq}
use Rattle.std.specs.List.{find}
use Rattle.flow_base.specs.declared.token.Mark.{Mark}
use Rattle.flow_base.specs.declared.token.Mark.TheVariants.{Workflow}
use Rattle.flow_model.specs.Tokens.{spelled, keywords, keyword_of}
use Rattle.flow_tokens.proofs.Keywords.{find_here, find_later}
use Rattle.flow_tokens.proofs.keyword.keyword.Goals as goal

pub returns-then-eq : goal.returns-then-eq
unfolding keyword_of
returns-then-eq c =
    let inside : c.loop-mark.mark-index < length keywords = omega arith in
    let here : bytes_eq (spelled (get_or keywords c.loop-mark.mark-index Workflow)) c.args.letters.now ≡ true =
    ap (λ s. bytes_eq s c.args.letters.now) (sym c.spelled.ensures) ∙ sym (c.if-eq.ensures {u = tt}) in
    sym (c.loop-mark.invariant ∙ find_here (λ (m : Mark). bytes_eq (spelled m) c.args.letters.now) keywords c.loop-mark.mark-index Workflow inside here)

pub loop-mark-preserved : goal.loop-mark-preserved
loop-mark-preserved c =
    let inside : c.loop-mark.mark-index < length keywords = omega arith in
    let other : bytes_eq (spelled (get_or keywords c.loop-mark.mark-index Workflow)) c.args.letters.now ≡ false =
    ap (λ s. bytes_eq s c.args.letters.now) (sym c.spelled.ensures) ∙ sym (c.if-eq.ensures {u = tt}) in
    c.loop-mark.invariant
    ∙ find_later (λ (m : Mark). bytes_eq (spelled m) c.args.letters.now) keywords c.loop-mark.mark-index Workflow inside other
    ∙ ap (λ i. find (λ (m : Mark). bytes_eq (spelled m) c.args.letters.now) (drop i keywords)) (sym (add-one c.loop-mark.mark-index))

pub returns : goal.returns
unfolding keyword_of
returns c =
    let all : c.loop-mark.mark-index ≡ 27 = omega arith in
    sym (c.loop-mark.invariant ∙ ap (λ i. find (λ (m : Mark). bytes_eq (spelled m) c.args.letters.now) (drop i keywords)) all)
