-- What a worker reports of a task, and how.
use Rattle.std.specs.Prelude.{ℕ, ◌≡◌, ◌⊎◌, List, [], ◌∷◌, ◌++◌, Bool, true, false, Option, Some, None, Result, Ok, Err, MatchBool, codes, bytes_eq, is_err, is_some, if◌then◌else◌}
use Rattle.std.specs.List.{AllByRecursion}
use Rattle.flow_base.specs.declared.command.Command.{Command}
use Rattle.flow_base.specs.declared.command.Command.TheVariants as command
use Rattle.flow_base.specs.declared.command.Reply.{Reply}
use Rattle.flow_base.specs.declared.command.Reply.TheVariants as reply
use Rattle.flow_base.specs.declared.code.Code.TheVariants as code
use Rattle.flow_pool.specs.declared.activity.Attempt.{Attempt}
use Rattle.flow_pool.specs.declared.activity.Attempt.TheVariants.{Done, Failed}
use Rattle.flow_base.specs.declared.task.Task.{Task}
use Rattle.flow_pool.specs.declared.report.Unheard.{Unheard}
use Rattle.flow_pool.specs.declared.report.Unheard.TheVariants as unheard
use Rattle.flow_pool.specs.Attempts.{failed_with}

abbrev pub unheard_number : Unheard → ℕ
unheard_number unheard.NoMemory = 1
unheard_number unheard.StoreRefused = 80
unheard_number unheard.Unknown = 84
unheard_number unheard.Halted = 85
unheard_number unheard.InboxFull = 90
unheard_number unheard.HubClosed = 91

-- nothing that is reported from now on is kept
abbrev pub is_final : Unheard → Bool
is_final unheard.NoMemory = false
is_final unheard.StoreRefused = false
is_final unheard.Unknown = true
is_final unheard.Halted = true
is_final unheard.InboxFull = false
is_final unheard.HubClosed = true

-- what came of a report: a reply, or none for that cause
abbrev pub Heard : Type 0
Heard = Result Reply Unheard

abbrev pub came_of : Result Reply (Command × Unheard) → Heard
came_of (Ok r) = Ok r
came_of (Err e) = Err e.1

-- a report, and what came of it
abbrev pub Telling : Type 0
Telling = Command × Heard

-- the report of an attempt
abbrev pub report_of : Task → Attempt → ℕ → Command
report_of t (Done v) at = command.Complete (record { run = t.run; event = t.event; attempt = t.attempt; value = v; at = at })
report_of t (Failed reason) at = command.Fail (record { run = t.run; event = t.event; attempt = t.attempt; reason = reason; at = at })

-- the first with this name
abbrev pub first_named : {X : Type 0} → (X → List ℕ) → List ℕ → List X → Option X
first_named named name [] = None
first_named named name (x ∷ xs) = if bytes_eq (named x) name then Some x else first_named named name xs

-- what may come of a task: what this one gives, and a failure where there is none
abbrev pub MayGive : {X : Type 0} → (X → Task → Attempt → Type 0) → Option X → Task → Attempt → Type 0
MayGive gives None t a = a ≡ failed_with (codes "no such activity")
MayGive gives (Some x) t a = gives x t a

-- what may come of a task by these: what the first one of its name gives, and a failure where none has the name
abbrev pub MayCome : {X : Type 0} → (X → List ℕ) → (X → Task → Attempt → Type 0) → List X → Task → Attempt → Type 0
MayCome named gives xs t a = MayGive gives (first_named named t.activity xs) t a

-- a report that has to be told again: E01, E80 or E90 came of it
abbrev pub IsUnheard : Command → Telling → Type 0
IsUnheard c x = (u : Unheard) × (x ≡ (c, Err u)) × (is_final u ≡ false)

-- a reply ends the telling of a report, and E84, E85 and E91 do
abbrev pub IsEnd : Heard → Type 0
IsEnd (Ok r) = Unit {0}
IsEnd (Err u) = is_final u ≡ true

-- a report is told again, as it is, until there is a reply or nobody to tell
abbrev pub Tells : Command → List Telling → Heard → Type 0
Tells c log e = (before : List Telling) × AllByRecursion (IsUnheard c) before × (log ≡ before ++ (c, e) ∷ []) × IsEnd e

-- the reply E66
abbrev pub is_wrong_type : Heard → Bool
is_wrong_type (Ok (reply.Refused code.WrongType)) = true
is_wrong_type _ = false

-- What is told behind the report of a task. After E66 it is the failure `wrong type`, at a moment that the clock told. It is over where
-- there is nobody to tell
abbrev pub Follows : (ℕ → Type 0) → Task → Heard → List Telling → Bool → Type 0
Follows tells t e more over =
    MatchBool (is_wrong_type e)
    ((at : ℕ) × tells at × (f : Heard) × Tells (report_of t (failed_with (codes "wrong type")) at) more f × (over ≡ is_err f))
    ((more ≡ []) × (over ≡ is_err e))

-- all that is told of a task, by the moments that the clock tells and what may come of it
abbrev pub Reported : (ℕ → Type 0) → (Task → Attempt → Type 0) → Task → List Telling → Bool → Type 0
Reported tells may t log over =
    (a : Attempt) × may t a × (at : ℕ) × tells at × (first : List Telling) × (e : Heard) × (more : List Telling) × (log ≡ first ++ more)
    × Tells (report_of t a at) first e × Follows tells t e more over

-- a task is left alone where none of these has its name, if such are left alone at all
abbrev pub is_left : {X : Type 0} → Bool → (X → List ℕ) → List X → Task → Bool
is_left leaves named xs t = if is_some (first_named named t.activity xs) then false else leaves

-- nothing is told of a task that is left alone, and somebody is there to hear of the next one
abbrev pub Does : (ℕ → Type 0) → (Task → Attempt → Type 0) → Task → Bool → List Telling → Bool → Type 0
Does tells may t true log over = (log ≡ []) × (over ≡ false)
Does tells may t false log over = Reported tells may t log over

-- Each of these tasks was reported, one after the other, and somebody heard; but not those that are left alone.
abbrev pub GoesOn : (ℕ → Type 0) → (Task → Attempt → Type 0) → (Task → Bool) → List Task → List Telling → Type 0
GoesOn tells may left [] log = log ≡ []
GoesOn tells may left (t ∷ ts) log =
    (one : List Telling) × (rest : List Telling) × (log ≡ one ++ rest) × Does tells may t (left t) one false × GoesOn tells may left ts rest

-- behind such tasks one at whose report nobody was left to tell
abbrev pub Stops : (ℕ → Type 0) → (Task → Attempt → Type 0) → (Task → Bool) → List Task → List Telling → Type 0
Stops tells may left ts log =
    (before : List Task) × (t : Task) × (first : List Telling) × (one : List Telling) × (ts ≡ before ++ t ∷ []) × (log ≡ first ++ one)
    × GoesOn tells may left before first × Does tells may t (left t) one true

-- What a worker reports of the tasks that it takes, each at a moment that its clock tells; and why it ends: no task came any more, or at
-- the report of the last one nobody was left to tell
abbrev pub Works : (ℕ → Type 0) → (Task → Attempt → Type 0) → (Task → Bool) → Type 0 → List Task → List Telling → Type 0
Works tells may left ended ts log = (GoesOn tells may left ts log × ended) ⊎ Stops tells may left ts log
