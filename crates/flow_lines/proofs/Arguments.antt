-- Lists of values of any length: what is written is read again, and nothing else is read.
use Rattle.std.proofs.Common.{◌≡◌, List, [], ◌∷◌, Some, option_map, refl, ap, ap₂, ◌∙◌}
use Rattle.std.proofs.lemmas.Option.{option_and_then_some}
use Rattle.serde_json.specs.Data.{Data, null, boolean, number, string, array, object, Items, no_items, item}
use Rattle.serde_json.specs.Find.{as_array}
use Rattle.flow_base.proofs.Exact.{IsExact, map_some, value_exact, values_exact}
use Rattle.flow_base.specs.Leaves.{found, value_in, list_in, list_out, any_values_in, any_values}
use Rattle.flow_base.specs.Limits.{FitValues}
use Rattle.flow_base.specs.declared.value.Value.{Value}

as_array_back : (d : Data) (ds : Items) → as_array d ≡ Some ds → d ≡ array ds
as_array_back null ds e = absurd (cc)
as_array_back (boolean b) ds e = absurd (cc)
as_array_back (number m) ds e = absurd (cc)
as_array_back (string s) ds e = absurd (cc)
as_array_back (array xs) ds e = cc
as_array_back (object ms) ds e = absurd (cc)

list_back : (ds : Items) (vs : List Value) → list_in ds ≡ Some vs → ds ≡ list_out vs
list_back no_items vs e = let is : [] ≡ vs = cc in ap list_out is
list_back (item d ds) vs e =
    option_and_then_some (λ v. option_map (λ ws. v ∷ ws) (list_in ds)) (found (value_in d)) vs e (λ v here later.
    map_some (λ ws. v ∷ ws) (list_in ds) vs later (λ ws reads is.
    ap₂ item (value_exact.back d v here) (list_back ds ws reads) ∙ ap list_out is))

list_there : (vs : List Value) → FitValues vs → list_in (list_out vs) ≡ Some vs
list_there [] f = refl
list_there (v ∷ vs) f = rw (value_exact.there v f.0, list_there vs f.1) refl

any_values_back : (d : Data) (vs : List Value) → any_values_in d ≡ Some vs → d ≡ array (list_out vs)
any_values_back d vs e = option_and_then_some list_in (as_array d) vs e (λ ds at_array reads. as_array_back d ds at_array ∙ ap array (list_back ds vs reads))

pub any_values_exact : IsExact any_values FitValues
any_values_exact = record { back = any_values_back; there = list_there; plain = values_exact.plain }
