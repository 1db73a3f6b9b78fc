-- What the seats at the table of the published word know, and its rule.
use Rattle.std.specs.Prelude.{ℕ, ◌≡◌, ◌≢◌, ◌<◌, ◌≤◌, ◌+◌, ◌-◌, Bool, true, false, Option, Some, None, List, [], ◌∷◌, length, refl}
use Rattle.std.specs.Coded.{Coded, code_by, coded×, coded_ℕ, coded_bool, coded_option}
use mathlib.Core.Option.{Option as Said, none, some}
use lib.ListN.{get_elem?}
use Rattle.atomic_table.specs.Table.{State, Me, Step}
use Rattle.atomic_table.specs.Seated.{TableId, table_id_coded}
use Rattle.flow_hub.specs.declared.known.HubFacts.{HubFacts}
use Rattle.flow_hub.specs.declared.seats.Sight.{Sight}
use Rattle.flow_hub.specs.Knowing.{known_code, nothing, IsBefore, IsSamePart}

abbrev pub sight_code : Coded Sight
sight_code =
    code_by (Bool × (Bool × (Bool × (Option ℕ × (Option ℕ × (ℕ × (HubFacts × HubFacts)))))))
    (coded× coded_bool (coded× coded_bool (coded× coded_bool (coded× (coded_option coded_ℕ) (coded× (coded_option coded_ℕ) (coded× coded_ℕ (coded× known_code known_code)))))))
    (λ v. (v.keeps, (v.pubs, (v.gives, (v.member, (v.met, (v.owed, (v.all, v.was))))))))
    (λ p. record { keeps = p.0; pubs = p.1.0; gives = p.1.1.0; member = p.1.1.1.0; met = p.1.1.1.1.0; owed = p.1.1.1.1.1.0; all = p.1.1.1.1.1.1.0; was = p.1.1.1.1.1.1.1 })
    (λ _. refl)

-- What names a hub: its table, and the ledger of its tickets with the number of its parts.
pub record Naming : Type 0 where
  pub table : TableId
  pub name : ℕ
  pub parts : ℕ

abbrev pub naming_code : Coded Naming
naming_code =
    code_by (TableId × (ℕ × ℕ)) (coded× table_id_coded (coded× coded_ℕ coded_ℕ)) (λ n. (n.table, (n.name, n.parts)))
    (λ p. record { table = p.0; name = p.1.0; parts = p.1.1 }) (λ _. refl)

-- the room stands for what was opened
abbrev pub IsRoomOf : Naming → TableId → ℕ → ℕ → Type 0
IsRoomOf n table name parts = (n.table ≡ table) × (n.name ≡ name) × (n.parts ≡ parts)

-- the name of no table
abbrev pub no_table : TableId
no_table = record { words = 0; slots = 0; views_name = 0; atom = 0; block = 0; offset = 0; slot_names = [] }

-- the one that keeps, publishes and gives out
abbrev pub opener : Sight
opener = record { keeps = true; pubs = true; gives = true; member = None; met = None; owed = 0; all = nothing; was = nothing }

abbrev pub nobody : Sight
nobody = record { keeps = false; pubs = false; gives = false; member = None; met = None; owed = 0; all = nothing; was = nothing }

-- what the rule says of one seat
abbrev pub Fits : ℕ → ℕ → ℕ → HubFacts → ℕ → Sight → Type 0
Fits keeper publisher giver now by v =
    (v.keeps ≡ true → (by ≡ keeper) × (v.all ≡ now)) × (v.pubs ≡ true → (by ≡ publisher) × IsSamePart v.was now) × (v.gives ≡ true → (by ≡ giver) × (v.was.given ≡ now.given)) × IsBefore v.was now

-- the number of a seat that it met is another one
abbrev pub IsApart : Sight → Type 0
IsApart v = (n : ℕ) → v.met ≡ Some n → v.member ≢ Some n

-- Each number of a submitter is below how many were given, and one seat has it: so two seats have two numbers.
abbrev pub AreNumbered : ℕ → List Sight → Type 0
AreNumbered members views =
    (seat : (ℕ → ℕ)) × ((by : ℕ) (v : Sight) → get_elem? views by ≡ some v → ((n : ℕ) → v.member ≡ Some n → (n < members) × (seat n ≡ by)) × IsApart v)

-- how many answers are owed to these seats
abbrev pub owed_in : List Sight → ℕ
owed_in [] = 0
owed_in (v ∷ vs) = v.owed + owed_in vs

-- Each submission whose answer wasn't fetched is owed to one of the seats, and to one alone.
abbrev pub AreOwed : HubFacts → List Sight → Type 0
AreOwed now views = owed_in views + now.fetched ≡ length now.asked

-- The word is the length of the history. One seat at most keeps, one publishes, one gives tasks out, and one has a submitter's number;
-- and each answer that wasn't fetched is owed to one.
abbrev pub Kept : State HubFacts Sight → Type 0
Kept s =
    (keeper : ℕ) × (publisher : ℕ) × (giver : ℕ) × (now : HubFacts) × (s.words ≡ length now.history ∷ []) × ((by : ℕ) (v : Sight) → get_elem? s.views by ≡ some v → Fits keeper publisher giver now by v)
    × AreNumbered now.members s.views × AreOwed now s.views

abbrev pub said_of : Said HubFacts → HubFacts
said_of none = nothing
said_of (some k) = k

-- what a keeper with what another saw is told of it
abbrev pub Knows : Sight → Type 0
Knows v = IsBefore v.was v.all × (v.pubs ≡ true → IsSamePart v.was v.all) × (v.gives ≡ true → v.was.given ≡ v.all.given) × (v.owed + v.all.fetched ≤ length v.all.asked)

-- how many answers are owed behind a store to a seat: one more for what was asked since, one fewer for what was fetched
abbrev pub owed_after : ℕ → HubFacts → HubFacts → ℕ
owed_after n old new = (n + (length new.asked + old.fetched)) - (length old.asked + new.fetched)

-- none is fetched that isn't owed
abbrev pub IsOwing : ℕ → HubFacts → HubFacts → Type 0
IsOwing n old new = length old.asked + new.fetched ≤ n + (length new.asked + old.fetched)

abbrev pub added : Sight → Option ℕ → HubFacts → Sight
added v member k = record { keeps = v.keeps; pubs = v.pubs; gives = v.gives; member = member; met = None; owed = owed_after v.owed v.all k; all = k; was = k }

abbrev pub adding : Sight → HubFacts → Sight
adding v k = added v v.member k

-- the number that nobody had is the seat's
abbrev pub admitting : Sight → HubFacts → Sight
admitting v k = added v (Some v.all.members) k

-- the publisher's store: the word and what is known grow
abbrev pub Adds : Step HubFacts → Me HubFacts Sight → ℕ → Me HubFacts Sight → Type 0
Adds s v n w = (w ≡ (adding v.0 (said_of s.said), v.1)) × Knows v.0

-- the store under the lock that gives a number: one submitter more is known of
abbrev pub Admits : Step HubFacts → Me HubFacts Sight → ℕ → Me HubFacts Sight → Type 0
Admits s v n w = (w ≡ (admitting v.0 (said_of s.said), v.1)) × Knows v.0

-- a load: what is seen begins with what was seen, and has as many lines as the word says
abbrev pub Looks : Step HubFacts → Me HubFacts Sight → ℕ → Me HubFacts Sight → Type 0
Looks s v n w = (w.0.keeps ≡ v.0.keeps) × (w.0.pubs ≡ v.0.pubs) × (w.0.gives ≡ v.0.gives) × (w.1 ≡ v.1) × IsBefore v.0.was w.0.was × (length w.0.was.history ≡ n)
    × (w.0.member ≡ v.0.member) × (w.0.met ≡ v.0.met) × (w.0.owed ≡ v.0.owed) × IsApart w.0

-- A seat takes in what another saw, what is owed to it and whether it publishes and gives out. The other is spent, and its number noted.
abbrev pub lent : Sight → Sight → Sight
lent v w = record { keeps = v.keeps; pubs = w.pubs; gives = w.gives; member = v.member; met = w.member; owed = v.owed + w.owed; all = v.all; was = w.was }

abbrev pub keeps_left : Sight → Sight
keeps_left v = record { keeps = v.keeps; pubs = false; gives = false; member = None; met = None; owed = 0; all = v.all; was = nothing }

abbrev pub handed_back : Sight → Sight
handed_back v = record { keeps = false; pubs = v.pubs; gives = v.gives; member = None; met = None; owed = v.owed; all = nothing; was = v.was }

-- what is left of a seat when giving out, and the number of a submitter, go to a seat of their own
abbrev pub hands_left : Sight → Sight
hands_left v = record { keeps = v.keeps; pubs = v.pubs; gives = false; member = None; met = None; owed = v.owed; all = v.all; was = v.was }

abbrev pub handed_over : Sight → Sight
handed_over v = record { keeps = false; pubs = false; gives = v.gives; member = v.member; met = None; owed = 0; all = nothing; was = v.was }

-- the seat under the lock, which knows all
abbrev pub keeping : HubFacts → Sight
keeping k = record { keeps = true; pubs = false; gives = false; member = None; met = None; owed = 0; all = k; was = nothing }

-- a submitter's seat to which so many answers are owed, at `pubs` the publisher's, or at `gives` that of whoever gives tasks out
abbrev pub seeing : Bool → Bool → ℕ → HubFacts → Sight
seeing pubs gives n k = record { keeps = false; pubs = pubs; gives = gives; member = None; met = None; owed = n; all = nothing; was = k }

abbrev pub IsSubmitters : Sight → Type 0
IsSubmitters v = (v.keeps ≡ false) × (v.pubs ≡ false) × (v.gives ≡ false)

abbrev pub IsPublishers : Sight → Type 0
IsPublishers v = (v.keeps ≡ false) × (v.pubs ≡ true) × (v.gives ≡ false) × (v.owed ≡ 0)

abbrev pub IsGivers : Sight → Type 0
IsGivers v = (v.keeps ≡ false) × (v.pubs ≡ false) × (v.gives ≡ true) × (v.owed ≡ 0)

-- the one under the lock; to itself nothing is owed
abbrev pub IsKeepers : Sight → Type 0
IsKeepers v = (v.keeps ≡ true) × (v.owed ≡ 0)
