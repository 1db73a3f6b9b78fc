use Rattle.std.proofs.Common.{◌∙◌, ◌++◌, ◌∷◌, [], List, refl, sym, ap, inl, inr, append_assoc, append-nil}
use Rattle.flow_work.specs.declared.input.InputMessage.{InputMessage}
use Rattle.flow_work.proofs.Reading.{reads_next, lines_next}
use Rattle.flow_work.proofs.input.read_lines.Goals as goal

pub lines-init : goal.lines-init
lines-init g c = (tt, tt, ([], tt, refl, sym (append-nil _)))

pub returns-then-not-take : goal.returns-then-not-take
returns-then-not-take g c =
    let (lines, all, read, took) = c.lines.invariant.2 in
    let (same, gone) = c.take.ensures.gone c.if-not-take.true in
    (lines, c.next_input-input.result, all, reads_next _ _ _ lines _ read c.next_input-input.ensures, inr (same ∙ took, gone))

pub returns-then-not-is_line : goal.returns-then-not-is_line
returns-then-not-is_line g c =
    let (lines, all, read, took) = c.lines.invariant.2 in
    let x = c.next_input-input.result in
    let now = c.take.ensures.taken c.if-not-take.false ∙ ap (λ (l : List InputMessage). l ++ x ∷ []) took in
    (lines, x, all, reads_next _ _ _ lines _ read c.next_input-input.ensures, inl (now, sym c.is_line-is_line.ensures ∙ c.if-not-is_line.true))

pub lines-preserved : goal.lines-preserved
lines-preserved g c =
    let (lines, all, read, took) = c.lines.invariant.2 in
    let x = c.next_input-input.result in (
      tt,
      tt,
      (
        lines ++ x ∷ [],
        lines_next lines x all (sym c.is_line-is_line.ensures ∙ c.if-not-is_line.false),
        reads_next _ _ _ lines _ read c.next_input-input.ensures,
        c.take.ensures.taken c.if-not-take.false ∙ (ap (λ (l : List InputMessage). l ++ x ∷ []) took ∙ append_assoc (g.T.Taking.taken c.args.taking) lines (x ∷ [])),
      ),
    )
