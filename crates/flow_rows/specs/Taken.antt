-- What the table of taken requests and flows shows of itself, in the words of the rules.
use Rattle.std.specs.Prelude.{◌≡◌, Bool, List, [], ◌∷◌, ◌++◌}
use Rattle.std.specs.List.{list_any}
use Rattle.std.specs.HashSet.{contains_text}
use Rattle.flow_base.specs.Syntax.{Bytes}
use Rattle.flow_rows.specs.declared.rows.RunRow.{RunRow}
use Rattle.flow_rows.specs.declared.taken_names.NamesInUse.{NamesInUse}
use Rattle.flow_rows.specs.Damages.{has_request, is_open_of}

abbrev pub has_taken_request : NamesInUse → Bytes → Bool
has_taken_request t x = contains_text t.requests x

abbrev pub has_taken_flow : NamesInUse → Bytes → Bool
has_taken_flow t x = contains_text t.flows x

-- The table has the requests of these runs, and the flows of those that are marked as open.
pub record HasTaken (t : NamesInUse) (before : List RunRow) : Type 0 where
  pub requests : (x : Bytes) → has_taken_request t x ≡ list_any (has_request x) before
  pub flows : (x : Bytes) → has_taken_flow t x ≡ list_any (is_open_of x) before

-- One more run takes a table to another.
abbrev pub Takes : NamesInUse → RunRow → NamesInUse → Type 0
Takes t r t' = (before : List RunRow) → HasTaken t before → HasTaken t' (before ++ r ∷ [])
