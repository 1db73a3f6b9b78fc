-- What `flow verify` says of a store whose runs all stand.
use Rattle.std.specs.Prelude.{ℕ, List, ◌++◌, codes, decimal}
use Rattle.flow_base.specs.declared.book.Totals.{Totals}

-- its line, as `ok texts=1 runs=1 events=4`
abbrev pub totals_text : Totals → List ℕ
totals_text t = codes "ok texts=" ++ (decimal t.texts ++ (codes " runs=" ++ (decimal t.runs ++ (codes " events=" ++ decimal t.events))))
