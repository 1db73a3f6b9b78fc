-- The rest: what of a program is still to run. A tree, whose leaves are waits, what is done, faults that are due, and the
-- statements of a block that haven't begun; its inner nodes are sequences and parallel branches.
use Rattle.std.specs.Prelude.{ℕ, ◌+◌, Bool, true, false, ◌&&◌, List, [], ◌∷◌, ◌++◌}
use Rattle.flow_base.specs.Syntax.{Bytes, Block, End, Next, Otherwise, NoElse, Else, Branches, NoBranch, Branch}
use Rattle.flow_base.specs.declared.value.Kind.{Kind}
use Rattle.flow_base.specs.declared.event.Cause.{Cause}

pub data Rest : Type 0 where
  Done : Rest
  -- a call waits on the activity that this event scheduled, for the variable
  OnActivity : (event : ℕ) (into : Bytes) (gives : Kind) (otherwise : Otherwise) → Rest
  -- a sleep waits on the timer that this event started
  OnTimer : (event : ℕ) → Rest
  -- a wait on a signal, for the variable
  OnSignal : (into signal : Bytes) → Rest
  -- the same, with the timer that this event started, and what runs where the timer is first
  OnSignalFor : (into signal : Bytes) (event : ℕ) (late : Block) → Rest
  -- an activity failed, and its call had no `else`
  Raised : Cause → Bytes → Rest
  -- a sequence: the first goes on, and then the statements of the block
  Then : Rest → Block → Rest
  -- two branches side by side
  Beside : Rest → Rest → Rest

-- a block that begins
abbrev pub rest_of : Block → Rest
rest_of b = Then Done b

-- a parallel block that begins: all its branches, side by side
abbrev pub branches_of : Branches → Rest
branches_of NoBranch = Done
branches_of (Branch at b end bs) = Beside (rest_of b) (branches_of bs)

-- the `else` of a call, or this where there is none
abbrev pub rest_else : Otherwise → Rest → Rest
rest_else NoElse r = r
rest_else (Else b end) r = rest_of b

abbrev pub is_end : Block → Bool
is_end End = true
is_end (Next s b) = false

-- whether nothing is left
abbrev pub is_done : Rest → Bool
is_done Done = true
is_done (Then r b) = is_done r && is_end b
is_done (Beside a b) = is_done a && is_done b
is_done r = false

-- how many waits are open
abbrev pub open_waits : Rest → ℕ
open_waits Done = 0
open_waits (OnActivity n x k o) = 1
open_waits (OnTimer n) = 1
open_waits (OnSignal x s) = 1
open_waits (OnSignalFor x s n b) = 1
open_waits (Raised c t) = 0
open_waits (Then r b) = open_waits r
open_waits (Beside a b) = open_waits a + open_waits b

-- The signals that are waited for, from the left. One for which two branches wait stands twice.
abbrev pub signals_awaited : Rest → List Bytes
signals_awaited Done = []
signals_awaited (OnActivity n x k o) = []
signals_awaited (OnTimer n) = []
signals_awaited (OnSignal x s) = s ∷ []
signals_awaited (OnSignalFor x s n b) = s ∷ []
signals_awaited (Raised c t) = []
signals_awaited (Then r b) = signals_awaited r
signals_awaited (Beside a b) = signals_awaited a ++ signals_awaited b
