-- The keys that the publisher has are those of what it has posted, but for what is of runs that are gone: from call to call.
use Rattle.std.proofs.Common.{◌≡◌, ◌≤◌, ℕ, ◌&&◌, not, false, List, [], ◌++◌, length, take, Result, Ok, Err, sym, ap, ◌∙◌, subst, arith}
use Rattle.std.specs.Prelude.{OnOk}
use Rattle.std.proofs.lemmas.List.{take_all}
use Rattle.std.specs.BTreeSet.{BTreeSet, contains}
use Rattle.flow_base.specs.declared.code.Code.{Code}
use Rattle.flow_base.specs.declared.fault.Fault.{Fault}
use Rattle.flow_base.specs.declared.submission.Taken.{Taken}
use Rattle.flow_base.specs.declared.task.Task.{Task}
use Rattle.flow_base.specs.Keys.{Key}
use Rattle.flow_commit.specs.Boards.{Boarded}
use Rattle.flow_hub.specs.declared.known.HubFacts.{HubFacts}
use Rattle.flow_hub.specs.Knowing.{IsSamePart}
use Rattle.flow_hub.specs.Publishing.{HasEnded, HasPosted, HasRefused, HasRest, HasSkipped, HasTaken, left_on}
use Rattle.flow_queues.specs.Posting.{HasStill, apart_of, is_of, key_cmp, names_of}
use Rattle.flow_queues.proofs.Still.{all_apart, none_still, still_without}

pub rest_on : (s : BTreeSet Key) (gone : List ℕ) (k old new : HubFacts) → old ≡ k → new.gone ≡ old.gone → new.posted ≡ old.posted → HasRest s gone k → HasRest s gone new
rest_on s gone k old new seen same posted h =
    let there : HasRest s gone old = subst (HasRest s gone) (sym seen) h in (
      subst (λ (ts : List Task). HasStill new.gone s ts) (sym posted) (subst (λ (runs : List ℕ). HasStill runs s old.posted) (sym same) there.0),
      there.1 ∙ sym same,
    )

pub rest_taken : (s : BTreeSet Key) (gone : List ℕ) (k old new : HubFacts) (xs : List Taken) → old ≡ k → HasTaken old new xs → HasRest s gone k → HasRest s gone new
rest_taken s gone k old new xs seen h = rest_on s gone k old new seen h.gone h.posted

pub rest_refused : (s : BTreeSet Key) (gone : List ℕ) (k old new : HubFacts) (xs : List Taken) (code : Code) → old ≡ k → HasRefused old new xs code → HasRest s gone k → HasRest s gone new
rest_refused s gone k old new xs code seen h = rest_on s gone k old new seen h.gone h.posted

pub rest_skipped : (s : BTreeSet Key) (gone : List ℕ) (k old new : HubFacts) (f : Fault) → old ≡ k → HasSkipped old new f → HasRest s gone k → HasRest s gone new
rest_skipped s gone k old new f seen h = rest_on s gone k old new seen h.rest.gone h.posted

pub rest_ended : (s : BTreeSet Key) (gone : List ℕ) (k old new : HubFacts) → old ≡ k → HasEnded old new → HasRest s gone k → HasRest s gone new
rest_ended s gone k old new seen h = rest_on s gone k old new seen h.gone h.posted

pub rest_same : (s : BTreeSet Key) (gone : List ℕ) (k old new : HubFacts) → old ≡ k → IsSamePart old new → HasRest s gone k → HasRest s gone new
rest_same s gone k old new seen h = rest_on s gone k old new seen (sym h.gone) (sym h.posted)

-- the keys of these runs are let go of
pub rest_published : (s n : BTreeSet Key) (was is : List ℕ) (k old new : HubFacts) (closed : List ℕ) → old ≡ k → new.posted ≡ old.posted → new.gone ≡ old.gone ++ closed → is ≡ was ++ closed
    → ((q : Key) → contains key_cmp n q ≡ (contains key_cmp s q && not (is_of closed q.0))) → HasRest s was k → HasRest n is new
rest_published s n was is k old new closed seen same more told drops h =
    let posted : new.posted ≡ k.posted = same ∙ ap (λ (x : HubFacts). x.posted) seen in
    let gone : new.gone ≡ k.gone ++ closed = more ∙ ap (λ (x : HubFacts). x.gone ++ closed) seen in (
      subst (λ (ts : List Task). HasStill new.gone n ts) (sym posted)
          (subst (λ (runs : List ℕ). HasStill runs n k.posted) (sym gone) (still_without k.gone closed s n k.posted drops h.0)),
      told ∙ ap (λ (runs : List ℕ). runs ++ closed) h.1 ∙ sym gone,
    )

pub rest_none : (s : BTreeSet Key) (gone : List ℕ) (k : HubFacts) → s.keys ≡ [] → gone ≡ [] → k.posted ≡ [] → k.gone ≡ [] → HasRest s gone k
rest_none s gone k empty none posted same = (subst (λ (ts : List Task). HasStill k.gone s ts) (sym posted) (none_still k.gone s empty), none ∙ sym same)

-- what the publisher's seat has of a board that was posted
pub left_posted : (l was new : HubFacts) (board : Boarded) → was.gone ≡ l.gone → HasPosted was new (left_on l board) → HasPosted was new (left_on was board)
left_posted l was new board same h = subst (λ (runs : List ℕ). HasPosted was new (record board { tasks = apart_of runs board.tasks })) (sym same) h

-- and if it names nothing of these runs, it is the whole board
pub whole_posted : (was new : HubFacts) (board : Boarded) → HasPosted was new (left_on was board) → names_of was.gone board.tasks ≡ false → HasPosted was new board
whole_posted was new board h apart = subst (λ (ts : List Task). HasPosted was new (record board { tasks = ts })) (all_apart was.gone board.tasks apart) h

-- all runs that the stamp names are gone, if memory wasn't refused
pub all_gone : {A E : Type 0} (r : Result A E) (count : ℕ) (was seen new closed told : List ℕ) → seen ≡ was → new ≡ seen ++ take count closed → told ≡ closed → OnOk r (count ≡ length told) → OnOk r (new ≡ was ++ closed)
all_gone (Ok a) count was seen new closed told same gone is all =
    let many : length closed ≤ count = let long : length told ≡ length closed = ap (λ (runs : List ℕ). length runs) is in omega (arith, all, long) in
    gone ∙ ap (λ (runs : List ℕ). runs ++ take count closed) same ∙ ap (λ (runs : List ℕ). was ++ runs) (take_all count closed many)
all_gone (Err e) count was seen new closed told same gone is all = tt
