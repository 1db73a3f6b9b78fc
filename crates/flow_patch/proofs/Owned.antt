-- What of the old program is its own: patches whose ids aren't new, and calls of declared activities.
use Rattle.std.specs.Prelude.{◌≡◌, Bool, true, false, List, [], ◌∷◌, bytes_eq, if◌then◌else◌}
use Rattle.flow_base.specs.Syntax.{Bytes, Statement, Let, Assign, Call, WaitSignal, WaitSignalFor, Sleep, If, While, Parallel, Patch, Deprecate, Return, FailWith, Continue, Block, End, Next, Otherwise, NoElse, Else, Branches, NoBranch, Branch, ActivityType}

abbrev pub is_declared : List ActivityType → Bytes → Bool
is_declared [] name = false
is_declared (a ∷ more) name = if bytes_eq a.name name then true else is_declared more name

-- no patch within has a new id, and each activity that is called is declared
abbrev mutual
  pub Own : (Bytes → Bool) → List ActivityType → Statement → Type 0
  Own f acts (Let at name_at x e) = Unit {0}
  Own f acts (Assign at x e) = Unit {0}
  Own f acts (Call at x activity_at a es r o) = (is_declared acts a ≡ true) × OwnOtherwise f acts o
  Own f acts (WaitSignal at x signal_at n) = Unit {0}
  Own f acts (WaitSignalFor at x signal_at n e b end) = OwnBlock f acts b
  Own f acts (Sleep at e) = Unit {0}
  Own f acts (If at e a a_end b b_end) = OwnBlock f acts a × OwnBlock f acts b
  Own f acts (While at e b end) = OwnBlock f acts b
  Own f acts (Parallel at bs end) = OwnBranches f acts bs
  Own f acts (Patch at id_at id a a_end b b_end) = (f id ≡ false) × OwnBlock f acts a × OwnBlock f acts b
  Own f acts (Deprecate at id_at id) = f id ≡ false
  Own f acts (Return at e) = Unit {0}
  Own f acts (FailWith at e) = Unit {0}
  Own f acts (Continue at es) = Unit {0}

  pub OwnBlock : (Bytes → Bool) → List ActivityType → Block → Type 0
  OwnBlock f acts End = Unit {0}
  OwnBlock f acts (Next s b) = Own f acts s × OwnBlock f acts b

  pub OwnOtherwise : (Bytes → Bool) → List ActivityType → Otherwise → Type 0
  OwnOtherwise f acts NoElse = Unit {0}
  OwnOtherwise f acts (Else b end) = OwnBlock f acts b

  pub OwnBranches : (Bytes → Bool) → List ActivityType → Branches → Type 0
  OwnBranches f acts NoBranch = Unit {0}
  OwnBranches f acts (Branch at b end bs) = OwnBlock f acts b × OwnBranches f acts bs
