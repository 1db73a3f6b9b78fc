use Rattle.std.proofs.Common.{◌≡◌, drop}
use Rattle.std.specs.Prelude.{bytes_eq}
use Rattle.std.specs.List.{find}
use Rattle.flow_model.specs.Tokens.{spelled, keywords}
use Rattle.flow_tokens.proofs.keyword.keyword.Given as goal

abbrev pub invariant-loop-mark : goal.invariant-loop-mark
invariant-loop-mark l =
    find (λ m. bytes_eq (spelled m) l.letters) keywords ≡ find (λ m. bytes_eq (spelled m) l.letters) (drop l.mark-index keywords)
