-- A set of names with one more, and the runs that took them.
use Rattle.std.proofs.Common.{◌≡◌, Bool, String, true, false, cond, ◌||◌, refl, ◌∙◌, bytes_eq}
use Rattle.std.specs.HashSet.{HashSet, contains_text, UpdatesBy}
use Rattle.std.specs.String.{string_bytes, string_eq}
use Rattle.std.proofs.lemmas.Map.Text.{hash_set_updates_text}
use Rattle.flow_base.specs.Syntax.{Bytes}

or_either_way : (a b : Bool) → cond a true b ≡ (b || a)
or_either_way true true = refl
or_either_way true false = refl
or_either_way false true = refl
or_either_way false false = refl

pub has_one_more : {Y S : Type 0} (s n : HashSet (String Y) S) (name x : Bytes) → UpdatesBy string_eq (λ k. bytes_eq name (string_bytes k)) s n true
    → contains_text n x ≡ (contains_text s x || bytes_eq name x)
has_one_more s n name x h = hash_set_updates_text name s n true h x ∙ or_either_way (bytes_eq name x) (contains_text s x)
