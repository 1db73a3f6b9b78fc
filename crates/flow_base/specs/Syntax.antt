-- Programs as trees, for the whole language, with no pointers. A place is the byte of the text at which a part begins;
-- meaning never depends on places.
use Rattle.std.specs.Prelude.{ℕ, List, [], ◌∷◌, ℤ, map}
use Rattle.flow_base.specs.declared.value.Kind.{Kind}
use Rattle.flow_base.specs.declared.syntax.Unary.{Unary}
use Rattle.flow_base.specs.declared.syntax.Binary.{Binary}
use Rattle.flow_base.specs.declared.syntax.Retry.{Retry}
use Rattle.flow_base.specs.declared.syntax.Parameter.{Parameter}
use Rattle.flow_base.specs.declared.syntax.TypeAt.{TypeAt}

-- a name or a text
abbrev pub Bytes : Type 0
Bytes = List ℕ

pub data Expression : Type 0 where
  Number : (at : ℕ) → ℤ → Expression
  Literal : (at : ℕ) → Bytes → Expression
  Variable : (at : ℕ) → Bytes → Expression
  Now : (at : ℕ) → Expression
  Apply : (at : ℕ) → Unary → Expression → Expression
  -- it begins where its left operand does
  Combine : Binary → Expression → Expression → Expression

mutual
  -- the first place is that of the statement's first token
  pub data Statement : Type 0 where
    Let : (at name_at : ℕ) (name : Bytes) (value : Expression) → Statement
    Assign : (at : ℕ) (name : Bytes) (value : Expression) → Statement
    Call : (at : ℕ) (into : Bytes) (activity_at : ℕ) (activity : Bytes) (arguments : List Expression) (retry : Retry) (otherwise : Otherwise) → Statement
    WaitSignal : (at : ℕ) (into : Bytes) (signal_at : ℕ) (signal : Bytes) → Statement
    WaitSignalFor : (at : ℕ) (into : Bytes) (signal_at : ℕ) (signal : Bytes) (delay : Expression) (late : Block) (late_end : ℕ) → Statement
    Sleep : (at : ℕ) → Expression → Statement
    -- each list with the place of its closing brace; that of a missing second list is the first one's
    If : (at : ℕ) → Expression → (first : Block) (first_end : ℕ) (second : Block) (second_end : ℕ) → Statement
    While : (at : ℕ) → Expression → (body : Block) (body_end : ℕ) → Statement
    -- with the place of the brace that closes the block of branches
    Parallel : (at : ℕ) → Branches → (end : ℕ) → Statement
    Patch : (at id_at : ℕ) (id : Bytes) (first : Block) (first_end : ℕ) (second : Block) (second_end : ℕ) → Statement
    Deprecate : (at id_at : ℕ) (id : Bytes) → Statement
    Return : (at : ℕ) → Expression → Statement
    FailWith : (at : ℕ) → Expression → Statement
    Continue : (at : ℕ) → List Expression → Statement

  -- a list of statements
  pub data Block : Type 0 where
    End : Block
    Next : Statement → Block → Block

  -- what a call does where its activity fails
  pub data Otherwise : Type 0 where
    NoElse : Otherwise
    Else : Block → (end : ℕ) → Otherwise

  -- each branch with the places of its braces
  pub data Branches : Type 0 where
    NoBranch : Branches
    Branch : (at : ℕ) → Block → (end : ℕ) → Branches → Branches

abbrev pub block_of : List Statement → Block
block_of [] = End
block_of (s ∷ ss) = Next s (block_of ss)

-- a call with no `retry` is tried once
abbrev pub once : Retry
once = record { tries_at = 0; tries = 1; every_at = 0; every = 0 }

-- the first place is that of the keyword
pub data Declared : Type 0 where
  Activity : (at name_at : ℕ) (name : Bytes) (takes : List TypeAt) (gives : Kind) → Declared
  Signal : (at name_at : ℕ) (name : Bytes) (carries : Kind) → Declared

-- a parameter, a type in a declaration: `Parameter` and `TypeAt` as the code has them
pub record Program : Type 0 where
  pub at : ℕ  -- the place of the name
  pub name : Bytes
  pub parameters : List Parameter
  pub parameters_end : ℕ  -- the place of the closing parenthesis
  pub declarations : List Declared
  pub body : Block
  pub body_end : ℕ  -- the place of the last brace

-- What an activity takes and gives, without places.
pub record ActivityType : Type 0 where
  pub name : Bytes
  pub takes : List Kind
  pub gives : Kind

abbrev pub activities_of : List Declared → List ActivityType
activities_of [] = []
activities_of (Activity at name_at name takes gives ∷ ds) =
    record { name = name; takes = map (λ (t : TypeAt). t.kind) takes; gives = gives } ∷ activities_of ds
activities_of (Signal at name_at name carries ∷ ds) = activities_of ds

abbrev pub signals_of : List Declared → List (Bytes × Kind)
signals_of [] = []
signals_of (Activity at name_at name takes gives ∷ ds) = signals_of ds
signals_of (Signal at name_at name carries ∷ ds) = (name, carries) ∷ signals_of ds
