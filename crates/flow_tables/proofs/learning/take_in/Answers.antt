use Rattle.std.proofs.Common.{◌∙◌, ◌∷◌, [], ap, length, length-append}
use Rattle.flow_tables.proofs.learning.take_in.Goals as goal

pub returns-clause-numbers : goal.returns-clause-numbers
returns-clause-numbers g c = ap (λ xs. length xs) c.in_ok-push.ensures.items ∙ length-append c.args.numbers.now.items (c.args.number ∷ [])
