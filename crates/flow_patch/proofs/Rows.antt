-- Changes of the worked rows, computed.
use Rattle.std.proofs.Common.{◌≡◌, ℕ, [], ◌∷◌, Some, None, refl}
use Rattle.std.specs.Prelude.{codes, pos, ◌+◌}
use Rattle.flow_base.specs.Syntax.{Bytes, Number, Literal, Variable, Statement, Let, Call, Sleep, Parallel, Patch, Return, Block, End, Next, once, NoElse, Branches, NoBranch, Branch, Activity, Program}
use Rattle.flow_base.specs.declared.value.Kind.TheVariants as kind
use Rattle.flow_patch.specs.Wrap.{new_in, Wrap}
use Rattle.flow_patch.specs.Difference.{first_difference}
use Rattle.flow_patch.proofs.Words.{wrap_is_computed}

-- r = call p(..), where it begins
abbrev paid : ℕ → Bytes → Statement
paid at t = Call at (codes "r") (at + 9) (codes "p") (Literal (at + 11) t ∷ []) once NoElse

-- workflow d() { activity p(text) -> int; let r = 0; .. }, with what ends where
abbrev shaped : Block → ℕ → Program
shaped b end =
    record {
      at = 9;
      name = codes "d";
      parameters = [];
      parameters_end = 11;
      declarations = Activity 15 24 (codes "p") (record { at = 26; kind = kind.Text } ∷ []) kind.Int ∷ [];
      body = Next (Let 40 44 (codes "r") (Number 48 (pos 0))) b;
      body_end = end;
    }

abbrev back : ℕ → Block
back at = Next (Return at (Variable (at + 7) (codes "r"))) End

-- r = call p("eur"); return r;
abbrev euros : Program
euros = shaped (Next (paid 51 (codes "eur")) (back 70)) 80

-- the same with "usd"
abbrev dollars : Program
dollars = shaped (Next (paid 51 (codes "usd")) (back 70)) 80

-- patch "v2" { r = call p("usd"); } else { r = call p("eur"); } return r;
abbrev patched : Program
patched = shaped (Next (Patch 51 57 (codes "v2") (Next (paid 64 (codes "usd")) End) 83 (Next (paid 92 (codes "eur")) End) 111) (back 113)) 123

-- an empty list wrapped, within the second list of a patch
abbrev nested : Program
nested = shaped (Next (Patch 51 57 (codes "v2") (Next (paid 64 (codes "usd")) End) 83
    (Next (Patch 92 98 (codes "v3") (Next (Sleep 105 (Number 111 (pos 1))) End) 114 End 114) (Next (paid 116 (codes "eur")) End)) 135) (back 137)) 147

-- patched with another list in the new patch, and with nothing behind it
abbrev spoiled : Program
spoiled = shaped (Next (Patch 51 57 (codes "v2") End 64 (Next (paid 73 (codes "usd")) End) 92) (back 94)) 104

abbrev cut_short : Program
cut_short = shaped (Next (Patch 51 57 (codes "v2") End 64 (Next (paid 73 (codes "eur")) End) 92) End) 94

patched_wraps : Wrap euros patched
patched_wraps = record { name = refl; parameters = refl; more = []; declarations = refl; body = (wrap_is_computed (new_in euros) euros.body patched.body).1 refl }

nested_wraps : Wrap euros nested
nested_wraps = record { name = refl; parameters = refl; more = []; declarations = refl; body = (wrap_is_computed (new_in euros) euros.body nested.body).1 refl }

-- a second version over the first: there the id is an old one
patched_wraps_itself : Wrap patched patched
patched_wraps_itself = record { name = refl; parameters = refl; more = []; declarations = refl; body = (wrap_is_computed (new_in patched) patched.body patched.body).1 refl }

same_to_patched : first_difference euros patched ≡ None
same_to_patched = refl

same_to_nested : first_difference euros nested ≡ None
same_to_nested = refl

-- another list
dollars_differ : first_difference euros dollars ≡ Some 51
dollars_differ = refl

-- in the list that is to be the old one
spoiled_differs : first_difference euros spoiled ≡ Some 73
spoiled_differs = refl

-- the text ends too early, behind a patch that is dropped
cut_short_differs : first_difference euros cut_short ≡ Some 94
cut_short_differs = refl

-- a patch is gone
unpatched_differs : first_difference patched euros ≡ Some 51
unpatched_differs = refl

-- workflow d() { parallel { .. } }, with where the block of branches ends
abbrev beside : Branches → ℕ → Program
beside bs end =
    record {
      at = 9;
      name = codes "d";
      parameters = [];
      parameters_end = 11;
      declarations = [];
      body = Next (Parallel 15 bs end) End;
      body_end = end + 2;
    }

-- { } { }
abbrev two_branches : Program
two_branches = beside (Branch 26 End 28 (Branch 30 End 32 NoBranch)) 34

-- { } and three spaces
abbrev one_branch : Program
one_branch = beside (Branch 26 End 28 NoBranch) 32

-- a branch is gone: the brace that closes the block
branch_is_missing : first_difference two_branches one_branch ≡ Some 32
branch_is_missing = refl

-- a branch more: where it begins
branch_is_new : first_difference one_branch two_branches ≡ Some 30
branch_is_new = refl
