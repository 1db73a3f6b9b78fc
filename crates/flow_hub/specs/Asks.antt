-- Lists of submissions and receipts, by their parts.
use Rattle.std.specs.Prelude.{ℕ, ◌-◌, ◌≤◌, ◌≡◌, List, [], ◌∷◌, suc, map, Some, slice_get}
use Rattle.flow_base.specs.declared.submission.Receipt.{Receipt}
use Rattle.flow_base.specs.declared.submission.Taken.{Taken}
use Rattle.flow_commit.specs.Committing.{taken_of}
use Rattle.flow_queues.specs.declared.refused.Refused.{Refused}

-- the numbers rise, each at least low and below high
abbrev pub Rises : ℕ → List ℕ → ℕ → Type 0
Rises low [] high = low ≤ high
Rises low (t ∷ ts) high = (low ≤ t) × Rises (suc t) ts high

abbrev pub ticket_in : Taken → ℕ
ticket_in t = t.ticket

abbrev pub ticket_of : Receipt → ℕ
ticket_of r = r.ticket

abbrev pub ticket_gone : Refused → ℕ
ticket_gone r = r.asked.ticket

abbrev pub tickets_in : List Taken → List ℕ
tickets_in ts = map ticket_in ts

abbrev pub tickets_of : List Receipt → List ℕ
tickets_of rs = map ticket_of rs

abbrev pub tickets_gone : List Refused → List ℕ
tickets_gone rs = map ticket_gone rs

-- what was submitted, as the receipts repeat it
abbrev pub takens_of : List Receipt → List Taken
takens_of rs = map taken_of rs

-- a submission stands at its ticket
abbrev pub IsAsked : List Taken → Taken → Type 0
IsAsked asked t = slice_get asked t.ticket ≡ Some t

-- the receipt repeats what was submitted at its ticket
abbrev pub IsOwn : List Taken → Receipt → Type 0
IsOwn asked r = IsAsked asked (taken_of r)

-- what was answered by a code was submitted at its ticket
abbrev pub IsGone : List Taken → Refused → Type 0
IsGone asked r = IsAsked asked r.asked

-- the receipt stands in the history at its place, of which the first is 1
abbrev pub Stands : List Receipt → Receipt → Type 0
Stands history r = (1 ≤ r.place) × (slice_get history (r.place - 1) ≡ Some r)

-- it is one of those that were answered by a code
pub record IsTold (refused : List Refused) (r : Refused) : Type 0 where
  pub at : ℕ
  pub is : slice_get refused at ≡ Some r
