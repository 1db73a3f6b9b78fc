-- The lists of a table, and where the links of their statements lead.
use Rattle.std.specs.Prelude.{◌≡◌, ℕ, ◌<◌, List, [], ◌∷◌, ◌++◌, length, map, Option, Some, None, slice_get}
use Rattle.flow_base.specs.Syntax as syntax
use Rattle.flow_base.specs.Syntax.{Statement, Block, Else, Branches, NoBranch, Branch, block_of}
use Rattle.flow_base.specs.Shown.{shown_stmt}
use Rattle.flow_base.specs.declared.syntax.Stmt.{Stmt}
use Rattle.flow_nodes.specs.declared.table.Listing.{Listing}
use Rattle.flow_nodes.specs.declared.table.Links.{Links}

-- the statements of a list of the table; of none that isn't there
abbrev pub stmts_in : Option Listing → List Stmt
stmts_in None = []
stmts_in (Some l) = l.stmts.value.items

abbrev pub stmts_at : List Listing → ℕ → List Stmt
stmts_at ls n = stmts_in (slice_get ls n)

abbrev pub links_in : Option Listing → List Links
links_in None = []
links_in (Some l) = l.links.items

abbrev pub links_at : List Listing → ℕ → List Links
links_at ls n = links_in (slice_get ls n)

-- a list of the table as a block
abbrev pub block_at : List Listing → ℕ → Block
block_at ls n = block_of (map shown_stmt (stmts_at ls n))

-- the list of this number is there, and has the statements of the block
abbrev pub LeadsTo : List Listing → ℕ → Block → Type 0
LeadsTo ls n b = (n < length ls) × (block_at ls n ≡ b)

-- so do these, each of a branch
abbrev pub LeadAll : List Listing → List ℕ → Branches → Type 0
LeadAll ls [] NoBranch = Unit {0}
LeadAll ls [] (Branch at b end bs) = ⊥
LeadAll ls (n ∷ ns) NoBranch = ⊥
LeadAll ls (n ∷ ns) (Branch at b end bs) = LeadsTo ls n b × LeadAll ls ns bs

-- the branches of a statement; none of all but one kind
abbrev pub branches_in : Statement → Branches
branches_in (syntax.Parallel at bs end) = bs
branches_in st = NoBranch

-- the links lead to the lists within a statement that are no branches
abbrev pub LeadsWithin : List Listing → Statement → Links → Type 0
LeadsWithin ls (syntax.If at e a a_end b b_end) k = LeadsTo ls k.first a × LeadsTo ls k.second b
LeadsWithin ls (syntax.While at e b end) k = LeadsTo ls k.first b
LeadsWithin ls (syntax.Patch at id_at id a a_end b b_end) k = LeadsTo ls k.first a × LeadsTo ls k.second b
LeadsWithin ls (syntax.Call at x activity_at a es r (Else b end)) k = LeadsTo ls k.first b
LeadsWithin ls (syntax.WaitSignalFor at x signal_at n e b end) k = LeadsTo ls k.first b
LeadsWithin ls st k = Unit {0}

-- The links of a statement lead to the lists within it.
abbrev pub IsLinked : List Listing → Statement → Links → Type 0
IsLinked ls st k = LeadsWithin ls st k × LeadAll ls k.branches.items (branches_in st)

-- Each statement of the table has its links.
pub record AreLinked (ls : List Listing) : Type 0 where
  pub at : (n i : ℕ) (s : Stmt) → slice_get (stmts_at ls n) i ≡ Some s
      → (k : Links) × ((slice_get (links_at ls n) i ≡ Some k) × IsLinked ls (shown_stmt s) k)

-- more lists, behind those that were there
pub record Grows (old new : List Listing) : Type 0 where
  pub more : List Listing
  pub is : new ≡ old ++ more

-- each of these statements has its links
abbrev pub LinkEach : List Listing → List Stmt → List Links → Type 0
LinkEach ls [] [] = Unit {0}
LinkEach ls [] (k ∷ ks) = ⊥
LinkEach ls (s ∷ ss) [] = ⊥
LinkEach ls (s ∷ ss) (k ∷ ks) = IsLinked ls (shown_stmt s) k × LinkEach ls ss ks
