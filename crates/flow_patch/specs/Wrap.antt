-- Which changes of a text are safe for the runs that have begun under it: some lists of statements of the old text stand in
-- the new one as the second lists of patches with new ids. All of it up to places in the texts.
use Rattle.std.specs.Prelude.{◌≡◌, ◌⊎◌, ◌↔◌, ℕ, Bool, true, false, not, ◌&&◌, ◌||◌, List, ◌++◌, map, bytes_eq, if◌then◌else◌}
use Rattle.flow_base.specs.Syntax.{Bytes, Statement, Let, Assign, Call, WaitSignal, WaitSignalFor, Sleep, If, While, Parallel, Patch, Deprecate, Return, FailWith, Continue, Block, End, Next, Otherwise, NoElse, Else, Branches, NoBranch, Branch, Declared, Program}
use Rattle.flow_base.specs.Bare.{bare_expression, bare_retry, bare_block, bare_parameter, bare_declared}
use Rattle.flow_base.specs.declared.event.Event.{Event}
use Rattle.flow_base.specs.declared.event.Wrong.{Wrong}
use Rattle.flow_model.specs.Configuration.{Configuration}
use Rattle.flow_model.specs.Stands.{Stands, FirstMismatch}
use Rattle.flow_model.specs.WellFormed.{WellFormed}
use Rattle.flow_run.specs.Shown.{waits_of}

-- one list of statements behind another
abbrev pub joined : Block → Block → Block
joined End c = c
joined (Next s b) c = Next s (joined b c)

---- The relation

-- whether a patch within has this id, or, where these count (d), a `deprecate`
abbrev mutual
  pub has_id : Bool → Bytes → Statement → Bool
  has_id d i (Let at name_at x e) = false
  has_id d i (Assign at x e) = false
  has_id d i (Call at x activity_at a es r o) = otherwise_has d i o
  has_id d i (WaitSignal at x signal_at n) = false
  has_id d i (WaitSignalFor at x signal_at n e b end) = block_has d i b
  has_id d i (Sleep at e) = false
  has_id d i (If at e a a_end b b_end) = block_has d i a || block_has d i b
  has_id d i (While at e b end) = block_has d i b
  has_id d i (Parallel at bs end) = branches_have d i bs
  has_id d i (Patch at id_at id a a_end b b_end) = bytes_eq id i || (block_has d i a || block_has d i b)
  has_id d i (Deprecate at id_at id) = d && bytes_eq id i
  has_id d i (Return at e) = false
  has_id d i (FailWith at e) = false
  has_id d i (Continue at es) = false

  pub block_has : Bool → Bytes → Block → Bool
  block_has d i End = false
  block_has d i (Next s b) = has_id d i s || block_has d i b

  pub otherwise_has : Bool → Bytes → Otherwise → Bool
  otherwise_has d i NoElse = false
  otherwise_has d i (Else b end) = block_has d i b

  pub branches_have : Bool → Bytes → Branches → Bool
  branches_have d i NoBranch = false
  branches_have d i (Branch at b end bs) = block_has d i b || branches_have d i bs

-- an id that no patch and no `deprecate` of the program has
abbrev pub new_in : Program → Bytes → Bool
new_in p id = not (block_has true id p.body)

-- The old list b begins with what the new statement stands for, and R holds of what is left of b. The lists have no places.
abbrev mutual
  pub From : (Bytes → Bool) → Block → Statement → (Block → Type 0) → Type 0
  From f b (Call at x activity_at a es r o') R =
      (o : Otherwise) × ((k : Block) × ((b ≡ Next (Call at x activity_at a es r o) k) × SameElse f o o' × R k))
  From f b (WaitSignalFor at x signal_at n e c' end) R =
      (c : Block) × ((k : Block) × ((b ≡ Next (WaitSignalFor at x signal_at n e c end) k) × Wraps f c c' × R k))
  From f b (If at e c' c_end d' d_end) R =
      (c : Block) × ((d : Block) × ((k : Block) × ((b ≡ Next (If at e c c_end d d_end) k) × Wraps f c c' × Wraps f d d' × R k)))
  From f b (While at e c' end) R = (c : Block) × ((k : Block) × ((b ≡ Next (While at e c end) k) × Wraps f c c' × R k))
  From f b (Parallel at bs' end) R = (bs : Branches) × ((k : Block) × ((b ≡ Next (Parallel at bs end) k) × SameBranches f bs bs' × R k))
  -- a patch with a new id stands for its second list
  From f b (Patch at id_at id c' c_end d' d_end) R =
      ((f id ≡ true) × ((d : Block) × ((k : Block) × ((b ≡ joined d k) × Wraps f d d' × R k))))
      ⊎ ((f id ≡ false) × ((c : Block) × ((d : Block) × ((k : Block) × ((b ≡ Next (Patch at id_at id c c_end d d_end) k) × Wraps f c c' × Wraps f d d' × R k)))))
  -- a `deprecate` with a new id is a patch with two empty lists
  From f b (Deprecate at id_at id) R = ((f id ≡ true) × R b) ⊎ ((f id ≡ false) × ((k : Block) × ((b ≡ Next (Deprecate at id_at id) k) × R k)))
  From f b (Let at name_at x e) R = (k : Block) × ((b ≡ Next (Let at name_at x e) k) × R k)
  From f b (Assign at x e) R = (k : Block) × ((b ≡ Next (Assign at x e) k) × R k)
  From f b (WaitSignal at x signal_at n) R = (k : Block) × ((b ≡ Next (WaitSignal at x signal_at n) k) × R k)
  From f b (Sleep at e) R = (k : Block) × ((b ≡ Next (Sleep at e) k) × R k)
  From f b (Return at e) R = (k : Block) × ((b ≡ Next (Return at e) k) × R k)
  From f b (FailWith at e) R = (k : Block) × ((b ≡ Next (FailWith at e) k) × R k)
  From f b (Continue at es) R = (k : Block) × ((b ≡ Next (Continue at es) k) × R k)

  -- the second list is the first with some of its lists in patches whose ids are new
  pub Wraps : (Bytes → Bool) → Block → Block → Type 0
  Wraps f b End = b ≡ End
  Wraps f b (Next s' b') = From f b s' (λ k. Wraps f k b')

  pub SameElse : (Bytes → Bool) → Otherwise → Otherwise → Type 0
  SameElse f o NoElse = o ≡ NoElse
  SameElse f o (Else c' end) = (c : Block) × ((o ≡ Else c end) × Wraps f c c')

  pub SameBranches : (Bytes → Bool) → Branches → Branches → Type 0
  SameBranches f bs NoBranch = bs ≡ NoBranch
  SameBranches f bs (Branch at c' end bs') =
      (c : Block) × ((cs : Branches) × ((bs ≡ Branch at c end cs) × Wraps f c c' × SameBranches f cs bs'))

-- The second program wraps the first: it has its name and parameters, declares what it does and perhaps more at the end, and
-- its body is that of the first with some lists in patches whose ids the first hasn't.
pub record Wrap (p p' : Program) : Type 0 where
  pub name : p'.name ≡ p.name
  pub parameters : map bare_parameter p'.parameters ≡ map bare_parameter p.parameters
  pub more : List Declared
  pub declarations : map bare_declared p'.declarations ≡ map bare_declared p.declarations ++ more
  pub body : Wraps (new_in p) (bare_block p.body) (bare_block p'.body)

---- Taking patches out

-- What becomes of a patch (its id, what its two lists became, and what follows it in its list), and of a `deprecate`.
pub record Patching : Type 0 where
  pub patch : Bytes → Block → Block → Block → Block
  pub deprecate : Bytes → Block → Block

-- A list without places, each patch in it changed.
abbrev mutual
  -- a statement, and then what the rest of its list became
  pub placed : Patching → Statement → Block → Block
  placed t (Let at name_at x e) k = Next (Let 0 0 x (bare_expression e)) k
  placed t (Assign at x e) k = Next (Assign 0 x (bare_expression e)) k
  placed t (Call at x activity_at a es r o) k = Next (Call 0 x 0 a (map bare_expression es) (bare_retry r) (changed_otherwise t o)) k
  placed t (WaitSignal at x signal_at n) k = Next (WaitSignal 0 x 0 n) k
  placed t (WaitSignalFor at x signal_at n e b end) k = Next (WaitSignalFor 0 x 0 n (bare_expression e) (changed t b) 0) k
  placed t (Sleep at e) k = Next (Sleep 0 (bare_expression e)) k
  placed t (If at e a a_end b b_end) k = Next (If 0 (bare_expression e) (changed t a) 0 (changed t b) 0) k
  placed t (While at e b end) k = Next (While 0 (bare_expression e) (changed t b) 0) k
  placed t (Parallel at bs end) k = Next (Parallel 0 (changed_branches t bs) 0) k
  placed t (Patch at id_at id a a_end b b_end) k = t.patch id (changed t a) (changed t b) k
  placed t (Deprecate at id_at id) k = t.deprecate id k
  placed t (Return at e) k = Next (Return 0 (bare_expression e)) k
  placed t (FailWith at e) k = Next (FailWith 0 (bare_expression e)) k
  placed t (Continue at es) k = Next (Continue 0 (map bare_expression es)) k

  pub changed : Patching → Block → Block
  changed t End = End
  changed t (Next s b) = placed t s (changed t b)

  pub changed_otherwise : Patching → Otherwise → Otherwise
  changed_otherwise t NoElse = NoElse
  changed_otherwise t (Else b end) = Else (changed t b) 0

  pub changed_branches : Patching → Branches → Branches
  changed_branches t NoBranch = NoBranch
  changed_branches t (Branch at b end bs) = Branch 0 (changed t b) 0 (changed_branches t bs)

-- a patch whose id is new gives way to its second list, a `deprecate` to nothing
abbrev pub without_new : (Bytes → Bool) → Patching
without_new f = record {
  patch = λ id a b k. if f id then joined b k else Next (Patch 0 0 id a 0 b 0) k;
  deprecate = λ id k. if f id then k else Next (Deprecate 0 0 id) k;
}

-- A list without its new patches.
abbrev pub plain : (Bytes → Bool) → Block → Block
plain f b = changed (without_new f) b

-- Taking the new patches out decides it.
abbrev pub WrapIsComputed : Type 0
WrapIsComputed = (f : Bytes → Bool) (b b' : Block) → Wraps f (bare_block b) (bare_block b') ↔ (bare_block b ≡ plain f b')

---- The law

-- Whoever sends commands sees no difference between the two. What they wait for is what a stance tells of it.
pub record SameToASubmitter (k k' : Configuration) : Type 0 where
  pub variables : k'.variables ≡ k.variables
  pub buffer : k'.buffer ≡ k.buffer
  pub waits : waits_of k'.rest ≡ waits_of k.rest
  pub state : k'.state ≡ k.state
  pub events : k'.events ≡ k.events
  pub moment : k'.moment ≡ k.moment

-- A history that stands under a program stands under each that wraps it, and leaves the run the same to a submitter.
abbrev pub WrappedStands : Type 0
WrappedStands = (p p' : Program) (h : List Event) (k : Configuration)
    → WellFormed p → Wrap p p' → Stands p h k → (k' : Configuration) × (Stands p' h k' × SameToASubmitter k k')

-- So a run of the first program is never refused the second, as one whose history fails there.
abbrev pub WrappedNeverFails : Type 0
WrappedNeverFails = (p p' : Program) (h : List Event) (k : Configuration) (place : ℕ) (w : Wrong)
    → WellFormed p → Wrap p p' → Stands p h k → FirstMismatch p' h place w → ⊥
