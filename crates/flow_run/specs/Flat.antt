-- What the flat run shows of itself: its table, its tasks and joins, and what its parts mean in the definitions.
use Rattle.std.specs.Prelude.{◌≡◌, ℕ, ◌+◌, ◌<◌, ◌≤◌, List, [], ◌∷◌, ◌++◌, length, map, take, drop, All, Option, Some, None, slice_get, Bool, true, false}
use Rattle.flow_base.specs.Syntax as syntax
use Rattle.flow_base.specs.Syntax.{Bytes, Statement, Block, End, Next, Otherwise, NoElse, Else, block_of}
use Rattle.flow_base.specs.Shown.{shown_stmt}
use Rattle.flow_base.specs.declared.syntax.Stmt.{Stmt}
use Rattle.flow_model.specs.Rest as tree
use Rattle.flow_model.specs.Step as step
use Rattle.flow_model.specs.Step.{move}
use Rattle.flow_run.specs.Marks.{within, Mark, One, Many, onto, put, Counted, Moves, Stay, Go, Ask, Finish, along, moves}
use Rattle.flow_run.specs.Shown.{shown_store}
use Rattle.flow_nodes.specs.Links.{AreLinked, block_at, links_at, stmts_at}
use Rattle.flow_run.specs.declared.store.Store.{Store}
use Rattle.flow_nodes.specs.declared.table.Listing.{Listing}
use Rattle.flow_nodes.specs.declared.table.Links.{Links}
use Rattle.flow_run.specs.declared.cell.Place.{Place}
use Rattle.flow_run.specs.declared.cell.Late.{Late}
use Rattle.flow_run.specs.declared.cell.Doing.{Doing}
use Rattle.flow_run.specs.declared.cell.Doing.TheVariants as doing
use Rattle.flow_run.specs.declared.cell.Cell.{Cell}
use Rattle.flow_run.specs.declared.begins.Next.{Next as Onward}
use Rattle.flow_run.specs.declared.begins.Next.TheVariants as onward
use Rattle.flow_run.specs.declared.begins.Begun.{Begun}
use Rattle.flow_run.specs.declared.begins.Begun.TheVariants as begun
use Rattle.flow_run.specs.declared.tasks.Went.{Went}
use Rattle.flow_run.specs.declared.tasks.Went.TheVariants as went
use Rattle.flow_run.specs.declared.walk.Stepped.{Stepped}
use Rattle.flow_run.specs.declared.walk.Stepped.TheVariants as stepped

-- what a place leaves of its list
abbrev pub left_at : List Listing → Place → Block
left_at ls p = block_of (map shown_stmt (drop p.at (take p.to (stmts_at ls p.list))))

-- so many lists of the table, as branches that begin
abbrev pub branches_at : List Listing → List ℕ → tree.Rest
branches_at ls [] = tree.Done
branches_at ls (n ∷ ns) = tree.Beside (tree.rest_of (block_at ls n)) (branches_at ls ns)

-- what a call has, or does where its activity fails
abbrev pub late_at : List Listing → Option Late → Otherwise
late_at ls None = NoElse
late_at ls (Some l) = Else (block_at ls l.list) l.end

-- The links of a statement lead to the lists within it.
abbrev pub IsLinked : List Listing → Statement → Links → Type 0
IsLinked ls (syntax.If at e a a_end b b_end) k = (block_at ls k.first ≡ a) × (block_at ls k.second ≡ b)
IsLinked ls (syntax.While at e b end) k = block_at ls k.first ≡ b
IsLinked ls (syntax.Patch at id_at id a a_end b b_end) k = (block_at ls k.first ≡ a) × (block_at ls k.second ≡ b)
IsLinked ls (syntax.Call at x activity_at a es r (Else b end)) k = block_at ls k.first ≡ b
IsLinked ls (syntax.WaitSignalFor at x signal_at n e b end) k = block_at ls k.first ≡ b
IsLinked ls st k = Unit {0}

-- the branches of a statement that begins; none of all others
abbrev pub branches_in : Statement → tree.Rest
branches_in (syntax.Parallel at bs end) = tree.branches_of bs
branches_in st = tree.Done

-- what a task does by itself
abbrev pub shown_doing : List Listing → Doing → tree.Rest
shown_doing ls doing.Over = tree.Done
shown_doing ls doing.Empty = tree.Then tree.Done End
shown_doing ls (doing.OnActivity n x k o) = tree.OnActivity n x k (late_at ls o)
shown_doing ls (doing.OnTimer n) = tree.OnTimer n
shown_doing ls (doing.OnSignal x s) = tree.OnSignal x s
shown_doing ls (doing.OnSignalFor x s n b) = tree.OnSignalFor x s n (block_at ls b)
shown_doing ls (doing.Raised c t) = tree.Raised c t
shown_doing ls (doing.Join n k) = tree.Done

abbrev pub blocks_of : List Listing → List Place → List Block
blocks_of ls ps = map (left_at ls) ps

abbrev pub mark_by : List Listing → List Block → Doing → Mark
mark_by ls bs (doing.Join n k) = Many bs n k
mark_by ls bs d = One (within bs (shown_doing ls d))

abbrev pub mark_of : List Listing → Cell → Mark
mark_of ls c = mark_by ls (blocks_of ls c.places.items) c.doing

abbrev pub marks_of : List Listing → List Cell → List Mark
marks_of ls cs = map (mark_of ls) cs

-- what is left of a task
abbrev pub task_rest : List Listing → Cell → tree.Rest
task_rest ls c = within (blocks_of ls c.places.items) (shown_doing ls c.doing)

-- a place at which something is left
abbrev pub IsFull : List Listing → Place → Type 0
IsFull ls p = tree.is_end (left_at ls p) ≡ false

abbrev pub AreFullPlaces : List Listing → List Place → Type 0
AreFullPlaces ls ps = All (IsFull ls) ps

abbrev pub AreFull : List Listing → Cell → Type 0
AreFull ls c = AreFullPlaces ls c.places.items

-- what a cell has, as lists
abbrev pub content : Cell → List Place × Doing
content c = (c.places.items, c.doing)

abbrev pub contents_of : List Cell → List (List Place × Doing)
contents_of cs = map content cs

-- what a statement that begins leaves to do
abbrev pub shown_onward : List Listing → Statement → Onward → tree.Rest
shown_onward ls st onward.Over = tree.Done
shown_onward ls st onward.Nothing = tree.rest_of End
shown_onward ls st (onward.Enters n) = tree.rest_of (block_at ls n)
shown_onward ls st (onward.Repeats n) = tree.Then (tree.rest_of (block_at ls n)) (Next st End)
shown_onward ls st (onward.Waits d) = shown_doing ls d.value

abbrev pub shown_begun : List Listing → Statement → Store → Begun → step.Move
shown_begun ls st t (begun.Goes n) = step.Goes (shown_onward ls st n) (shown_store t)
shown_begun ls st t (begun.Asks n c) = step.Asks (shown_onward ls st n) (shown_store t) c.value
shown_begun ls st t begun.Splits = step.Goes (branches_in st) (shown_store t)
shown_begun ls st t (begun.Ends c) = step.Ends c.value

-- no join
abbrev pub is_task : Doing → Bool
is_task (doing.Join n k) = false
is_task d = true

abbrev pub is_task_next : Onward → Bool
is_task_next (onward.Waits d) = is_task d.value
is_task_next n = true

-- where the run ends the store stays
abbrev pub KeepsStore : Store → Store → Begun → Type 0
KeepsStore old new (begun.Goes n) = is_task_next n ≡ true
KeepsStore old new (begun.Asks n c) = is_task_next n ≡ true
KeepsStore old new begun.Splits = Unit {0}
KeepsStore old new (begun.Ends c) = new ≡ old

-- The statement at place p is next of a task: its places are without it.
pub record IsNext (ls : List Listing) (old new : List Place) (p : Place) : Type 0 where
  pub stmt : Stmt
  pub rest : Block
  pub under : List Block
  pub blocks : blocks_of ls old ≡ under ++ (Next (shown_stmt stmt) rest ∷ [])
  pub there : slice_get (stmts_at ls p.list) p.at ≡ Some stmt
  pub left : (q : tree.Rest) → within (blocks_of ls new) q ≡ within under (step.followed_by rest q)

abbrev pub IsNextOf : List Listing → List Place → List Place → Option Place → Type 0
IsNextOf ls old new None = (old ≡ []) × (new ≡ [])
IsNextOf ls old new (Some p) = IsNext ls old new p

-- the branches of the statement at a place
abbrev pub branches_in_links : Option Links → List ℕ
branches_in_links None = []
branches_in_links (Some k) = k.branches.items

abbrev pub split_at : List Listing → Place → tree.Rest
split_at ls p = branches_at ls (branches_in_links (slice_get (links_at ls p.list) p.at))

-- What one step does with a task, of which this is left then.
abbrev pub shown_went : List Listing → Cell → Store → Went → step.Move
shown_went ls c t went.Stays = step.Stays
shown_went ls c t went.Goes = step.Goes (task_rest ls c) (shown_store t)
shown_went ls c t (went.Asks a) = step.Asks (task_rest ls c) (shown_store t) a.value
shown_went ls c t (went.Splits p) = step.Goes (within (blocks_of ls c.places.items) (split_at ls p)) (shown_store t)
shown_went ls c t (went.Ends a) = step.Ends a.value

-- what it leaves where it doesn't go on
abbrev pub KeepsTask : List Listing → Cell → Store → Cell → Store → Went → Type 0
KeepsTask ls old t new u went.Stays = (content new ≡ content old) × (u ≡ t)
KeepsTask ls old t new u went.Goes = is_task new.doing ≡ true
KeepsTask ls old t new u (went.Asks a) = is_task new.doing ≡ true
KeepsTask ls old t new u (went.Splits p) = p.at < length (links_at ls p.list)
KeepsTask ls old t new u (went.Ends a) = u ≡ t

-- a task that does nothing by itself
abbrev pub is_idle : Doing → Bool
is_idle doing.Over = true
is_idle doing.Empty = true
is_idle d = false

abbrev pub AreFullCells : List Listing → List Cell → Type 0
AreFullCells ls cs = All (AreFull ls) cs

-- how many branches a join has, and how many of them run
abbrev pub join_of : Doing → Option (ℕ × ℕ)
join_of (doing.Join n k) = Some (n, k)
join_of d = None

-- What one step at place i does with a run, of which this is left there: the store, and the tasks and joins.
abbrev pub ActedAt : List Listing → step.Setting → Store → Cell → List Cell → ℕ → Store → List Cell → Stepped → Type 0
ActedAt ls s old c cs i new ds stepped.Stays = (move s (shown_store old) (task_rest ls c) ≡ step.Stays) × ((new ≡ old) × (marks_of ls ds ≡ take i (marks_of ls cs) ++ (mark_of ls c ∷ drop (i + 1) (marks_of ls cs))))
ActedAt ls s old c cs i new ds stepped.Goes =
    (q : tree.Rest) × ((move s (shown_store old) (task_rest ls c) ≡ step.Goes q (shown_store new)) × (onto (marks_of ls ds) [] ≡ onto (take i (marks_of ls cs)) (q ∷ onto (drop (i + 1) (marks_of ls cs)) [])))
ActedAt ls s old c cs i new ds (stepped.Asks a) =
    (q : tree.Rest) × ((move s (shown_store old) (task_rest ls c) ≡ step.Asks q (shown_store new) a.value) × (onto (marks_of ls ds) [] ≡ onto (take i (marks_of ls cs)) (q ∷ onto (drop (i + 1) (marks_of ls cs)) [])))
ActedAt ls s old c cs i new ds (stepped.Ends a) = (move s (shown_store old) (task_rest ls c) ≡ step.Ends a.value) × (new ≡ old)

-- the joins know their branches, and each place has something left
abbrev pub AreSound : List Listing → List Cell → Type 0
AreSound ls cs = AreFullCells ls cs × Counted (marks_of ls cs) []

abbrev pub KeepsSound : List Listing → List Cell → Stepped → Type 0
KeepsSound ls cs stepped.Stays = AreFullCells ls cs
KeepsSound ls cs stepped.Goes = AreSound ls cs
KeepsSound ls cs (stepped.Asks c) = AreSound ls cs
KeepsSound ls cs (stepped.Ends c) = Unit {0}

abbrev pub branches_of : Option (ℕ × ℕ) → ℕ
branches_of None = 0
branches_of (Some x) = x.0

-- What one step at place i does with a run.
abbrev pub StepsAt : List Listing → step.Setting → Store → List Cell → ℕ → Store → List Cell → Stepped → Type 0
StepsAt ls s old cs i new ds stepped.Stays =
    (new ≡ old) × ((marks_of ls ds ≡ marks_of ls cs) × ((m : Mark) → slice_get (marks_of ls cs) i ≡ Some m
    → moves s (shown_store old) (onto (drop i (marks_of ls cs)) []) ≡ along (put m) (moves s (shown_store old) (onto (drop (i + 1) (marks_of ls cs)) []))))
StepsAt ls s old cs i new ds stepped.Goes =
    (rs : List tree.Rest) × ((moves s (shown_store old) (onto (drop i (marks_of ls cs)) []) ≡ Go rs (shown_store new)) × (onto (marks_of ls ds) [] ≡ onto (take i (marks_of ls cs)) rs))
StepsAt ls s old cs i new ds (stepped.Asks c) =
    (rs : List tree.Rest) × ((moves s (shown_store old) (onto (drop i (marks_of ls cs)) []) ≡ Ask rs (shown_store new) c.value) × (onto (marks_of ls ds) [] ≡ onto (take i (marks_of ls cs)) rs))
StepsAt ls s old cs i new ds (stepped.Ends c) = (moves s (shown_store old) (onto (drop i (marks_of ls cs)) []) ≡ Finish c.value) × (new ≡ old)

-- What one step does with a run: the first place that can step does.
abbrev pub StepsFirst : List Listing → step.Setting → Store → List Cell → Store → List Cell → Stepped → Type 0
StepsFirst ls s old cs new ds stepped.Stays = (moves s (shown_store old) (onto (marks_of ls cs) []) ≡ Stay) × ((new ≡ old) × (marks_of ls ds ≡ marks_of ls cs))
StepsFirst ls s old cs new ds stepped.Goes = moves s (shown_store old) (onto (marks_of ls cs) []) ≡ Go (onto (marks_of ls ds) []) (shown_store new)
StepsFirst ls s old cs new ds (stepped.Asks c) = moves s (shown_store old) (onto (marks_of ls cs) []) ≡ Ask (onto (marks_of ls ds) []) (shown_store new) c.value
StepsFirst ls s old cs new ds (stepped.Ends c) = (moves s (shown_store old) (onto (marks_of ls cs) []) ≡ Finish c.value) × (new ≡ old)
