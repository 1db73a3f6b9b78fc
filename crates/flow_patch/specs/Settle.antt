-- Which later change lets patches go, once every run that is still open has answered them yes: each of them gives way to a
-- `deprecate` with its id and the statements of its first list. All of it up to places in the texts.
use Rattle.std.specs.Prelude.{◌≡◌, ◌≢◌, ◌||◌, bytes_eq, Bool, true, false, List, [], ◌∷◌, ◌++◌, map, Some, if◌then◌else◌}
use Rattle.flow_base.specs.Syntax.{Bytes, Statement, Call, WaitSignalFor, If, While, Parallel, Patch, Deprecate, Block, End, Next, Otherwise, NoElse, Else, Branches, NoBranch, Branch, Program}
use Rattle.flow_base.specs.Bare.{bare_block, bare_parameter, bare_declared}
use Rattle.flow_base.specs.declared.event.Event.{Event}
use Rattle.flow_model.specs.Configuration.{Configuration}
use Rattle.flow_model.specs.Stands.{Stands}
use Rattle.flow_patch.specs.Wrap.{joined, block_has, Patching, changed, SameToASubmitter}

-- What stands where a patch was: a first meeting records the marker, as the patch did, and nothing else is done.
abbrev pub deprecated : Bytes → Statement
deprecated id = Deprecate 0 0 id

-- a settled patch gives way to its first list, behind its `deprecate`
abbrev pub settling : (Bytes → Bool) → Patching
settling f = record {
  patch = λ id a b k. if f id then Next (deprecated id) (joined a k) else Next (Patch 0 0 id a 0 b 0) k;
  deprecate = λ id k. Next (deprecated id) k;
}

-- A list with its patches of these ids settled.
abbrev pub settled : (Bytes → Bool) → Block → Block
settled f b = changed (settling f) b

---- The ids that a change settles

-- the ids under `deprecate` of which f holds, in the order of their places
abbrev mutual
  pub deprecated_ids : (Bytes → Bool) → Block → List Bytes
  deprecated_ids f End = []
  deprecated_ids f (Next s b) = ids_within f s ++ deprecated_ids f b

  pub ids_within : (Bytes → Bool) → Statement → List Bytes
  ids_within f (Call at x activity_at a es r o) = ids_in_else f o
  ids_within f (WaitSignalFor at x signal_at n e b end) = deprecated_ids f b
  ids_within f (If at e a a_end b b_end) = deprecated_ids f a ++ deprecated_ids f b
  ids_within f (While at e b end) = deprecated_ids f b
  ids_within f (Parallel at bs end) = ids_beside f bs
  ids_within f (Patch at id_at id a a_end b b_end) = deprecated_ids f a ++ deprecated_ids f b
  ids_within f (Deprecate at id_at id) = if f id then id ∷ [] else []
  ids_within f s = []

  pub ids_in_else : (Bytes → Bool) → Otherwise → List Bytes
  ids_in_else f NoElse = []
  ids_in_else f (Else b end) = deprecated_ids f b

  pub ids_beside : (Bytes → Bool) → Branches → List Bytes
  ids_beside f NoBranch = []
  ids_beside f (Branch at b end bs) = deprecated_ids f b ++ ids_beside f bs

-- a patch of this list has the id; a `deprecate` doesn't count
abbrev pub patched_by : Block → Bytes → Bool
patched_by b id = block_has false id b

-- the ids that stand under `patch` in the first program and under `deprecate` in the second, in the order of their places there
abbrev pub settled_ids : Program → Program → List Bytes
settled_ids p p' = deprecated_ids (patched_by p.body) p'.body

abbrev pub is_among : List Bytes → Bytes → Bool
is_among [] id = false
is_among (i ∷ ids) id = bytes_eq i id || is_among ids id

---- The change

-- The second program is the first with its patches of these ids settled, and nothing else is changed.
pub record Settles (is_settled : Bytes → Bool) (p p' : Program) : Type 0 where
  pub name : p'.name ≡ p.name
  pub parameters : map bare_parameter p'.parameters ≡ map bare_parameter p.parameters
  pub declarations : map bare_declared p'.declarations ≡ map bare_declared p.declarations
  pub body : bare_block p'.body ≡ settled is_settled p.body

-- The run has answered none of these ids with no.
abbrev pub NoNo : (Bytes → Bool) → Configuration → Type 0
NoNo f k = (id : Bytes) → f id ≡ true → k.decided id ≢ Some false

-- Each history that stands under the first program, in which none of these ids was answered no, stands under the second, and
-- leaves the run the same to a submitter.
abbrev pub KeepsAnswered : (Bytes → Bool) → Program → Program → Type 0
KeepsAnswered f p p' =
    (h : List Event) (k : Configuration) → NoNo f k → Stands p h k → (k' : Configuration) × (Stands p' h k' × SameToASubmitter k k')

-- A history that stands under a program, in which no settled patch was answered no, stands under the settled one, and leaves the run
-- the same to a submitter.
abbrev pub SettledStands : Type 0
SettledStands = (f : Bytes → Bool) (p p' : Program) (h : List Event) (k : Configuration)
    → Settles f p p' → NoNo f k → Stands p h k → (k' : Configuration) × (Stands p' h k' × SameToASubmitter k k')

-- Without that premise it doesn't hold.
abbrev pub NoIsRefused : Type 0
NoIsRefused =
    ((f : Bytes → Bool) (p p' : Program) (h : List Event) (k : Configuration)
    → Settles f p p' → Stands p h k → (k' : Configuration) × (Stands p' h k' × SameToASubmitter k k')) → ⊥
