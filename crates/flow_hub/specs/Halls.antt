-- What lies under the lock, as plain data.
use Rattle.std.specs.Prelude.{ℕ, ◌+◌, ◌≡◌, Bool, true, false, List, [], ◌∷◌, ◌++◌, length, map, All, Result, Ok, Err, Some, slice_get, remove, refl}
use Rattle.std.specs.Coded.{Coded, code_by, coded×, coded_ℕ, coded_bool}
use Rattle.flow_base.specs.declared.code.Code.{Code}
use Rattle.flow_base.specs.declared.fault.Fault.{Fault}
use Rattle.flow_base.specs.declared.command.Command.{Command}
use Rattle.flow_base.specs.declared.submission.Receipt.{Receipt}
use Rattle.flow_base.specs.declared.submission.Taken.{Taken}
use Rattle.flow_base.specs.declared.task.Task.{Task}
use Rattle.flow_commit.specs.Accounts.{log_code}
use Rattle.flow_commit.specs.Stamps.{Stamped}
use Rattle.flow_commit.specs.Keeping.{batch_code, count_from}
use Rattle.flow_hub.specs.declared.fed.Until.{Until}
use Rattle.flow_hub.specs.declared.fed.Until.TheVariants as until
use Rattle.flow_hub.specs.declared.known.HubFacts.{HubFacts}
use Rattle.flow_hub.specs.declared.known.BoardSummary.{BoardSummary}
use Rattle.flow_queues.specs.declared.refused.Refused.{Refused}
use Rattle.flow_hub.specs.Asks.{Rises, tickets_in, tickets_of, tickets_gone, IsAsked, IsOwn, IsGone, IsTold, Stands}
use Rattle.flow_queues.specs.Refusing.{refused_by}
use Rattle.flow_hub.specs.Knowing.{IsHistory, answered_in, known_code, refusals_code, task_list_code, with_ask, with_taken, with_published, with_refused, with_fetched, with_member, with_closed, with_ended, with_posted, with_skipped, with_given}
use Rattle.flow_queues.specs.Posting.{IsOnce, new_ones}

-- What is known of the hub, the four lists that its calls work on (what waits, the answers that were not fetched, and the tasks that were
-- posted and not given out), and whether somebody rang.
pub record Hall : Type 0 where
  pub known : HubFacts
  pub waiting : List Taken
  pub answered : List Receipt
  pub refused : List Refused
  pub given : ℕ  -- how many tickets were given
  pub shares : ℕ  -- the sum of the submitters' shares
  pub tasks : List Task
  pub rung : Bool  -- whether somebody rang for who gives tasks out, and was not heard yet

abbrev pub hall_code : Coded Hall
hall_code =
    code_by (HubFacts × (List Taken × (List Receipt × (List Refused × (ℕ × (ℕ × (List Task × Bool)))))))
    (coded× known_code (coded× batch_code (coded× log_code (coded× refusals_code (coded× coded_ℕ (coded× coded_ℕ (coded× task_list_code coded_bool)))))))
    (λ h. (h.known, (h.waiting, (h.answered, (h.refused, (h.given, (h.shares, (h.tasks, h.rung))))))))
    (λ p. record { known = p.0; waiting = p.1.0; answered = p.1.1.0; refused = p.1.1.1.0; given = p.1.1.1.1.0; shares = p.1.1.1.1.1.0; tasks = p.1.1.1.1.1.1.0; rung = p.1.1.1.1.1.1.1 })
    (λ _. refl)

-- submissions whose answer was not fetched
abbrev pub unfetched : Hall → ℕ
unfetched h = length h.waiting + length h.known.held + length h.answered + length h.refused

-- What holds whenever the lock is free.
pub record IsSound (h : Hall) : Type 0 where
  pub legal : IsHistory h.known  -- one history
  pub order : tickets_in (h.known.held ++ h.waiting) ≡ count_from (answered_in h.known) (length h.known.held + length h.waiting)
  pub counts : h.given ≡ answered_in h.known + (length h.known.held + length h.waiting)  -- each ticket is answered, taken or waits
  pub shared : h.shares ≡ h.given
  pub asked : length h.known.asked ≡ h.given
  pub fetched : h.given ≡ h.known.fetched + unfetched h
  pub taken : All (IsAsked h.known.asked) h.known.held
  pub pending : All (IsAsked h.known.asked) h.waiting
  pub own : All (IsOwn h.known.asked) h.answered
  pub gone : All (IsGone h.known.asked) h.refused
  pub stand : All (Stands h.known.history) h.answered
  pub told : All (IsTold h.known.refused) h.refused
  pub queued : h.known.posted ≡ h.known.given ++ h.tasks  -- what was posted was given out or waits for that
  pub once : IsOnce h.known.posted
  pub rises : Rises 0 (tickets_of h.answered) (answered_in h.known)  -- the answers stand in the order of their tickets
  pub gone_rises : Rises 0 (tickets_gone h.refused) (answered_in h.known)

abbrev pub new_ask : Hall → Command → Taken
new_ask h c = record { ticket = h.given; command = c }

-- a command joins those that wait
abbrev pub submitted : Hall → Command → Hall
submitted h c = record h { known = with_ask h.known (new_ask h c); waiting = h.waiting ++ new_ask h c ∷ []; given = h.given + 1; shares = h.shares + 1 }

-- these are taken, and the rest waits on
abbrev pub took : Hall → List Taken → List Taken → Hall
took h xs rest = record h { known = with_taken h.known xs (length rest); waiting = rest }

-- the receipts answer all that was taken, and so many of the runs that the stamp names as closed are gone
abbrev pub published : Hall → Stamped → ℕ → List Receipt → Hall
published h stamp count rs = record h { known = with_published h.known stamp count rs; answered = h.answered ++ rs }

-- all that was taken is answered by a code
abbrev pub refused_all : Hall → Code → Hall
refused_all h code = record h { known = with_refused h.known h.known.held code; refused = h.refused ++ map (refused_by code) h.known.held }

-- one answer fewer, which was fetched
abbrev pub fetched_receipt : Hall → List Receipt → Hall
fetched_receipt h rs = record h { known = with_fetched h.known; answered = rs }

abbrev pub fetched_refusal : Hall → List Refused → Hall
fetched_refusal h rs = record h { known = with_fetched h.known; refused = rs }

-- this answer is handed out: of those that weren't fetched it is left out, and nothing else is changed but their count
abbrev pub HandsOut : Hall → Hall → Result Receipt Refused → Type 0
HandsOut old new (Ok r) = (k : ℕ) × (slice_get old.answered k ≡ Some r) × (new ≡ fetched_receipt old (remove old.answered k))
HandsOut old new (Err r) = (k : ℕ) × (slice_get old.refused k ≡ Some r) × (new ≡ fetched_refusal old (remove old.refused k))

abbrev pub enrolled : Hall → Hall
enrolled h = record h { known = with_member h.known }

abbrev pub closed : Hall → Hall
closed h = record h { known = with_closed h.known }

abbrev pub ended : Hall → Hall
ended h = record h { known = with_ended h.known }

-- Of these tasks those are posted that weren't before, each once.
abbrev pub posted_on : Hall → List Task → BoardSummary → Hall
posted_on h ts outlook = let more = new_ones h.known.posted ts in record h { known = with_posted h.known more outlook; tasks = h.tasks ++ more }

abbrev pub skipped : Hall → Fault → Hall
skipped h f = record h { known = with_skipped h.known f }

-- a task is given out, and the rest waits on
abbrev pub gave : Hall → Task → List Task → Hall
gave h t rest = record h { known = with_given h.known t; tasks = rest }

-- somebody rang
abbrev pub rings : Hall → Hall
rings h = record h { rung = true }

-- and was heard: whoever rings later is heard anew
abbrev pub hears : Hall → Hall
hears h = record h { rung = false }

-- Who looks for a ring has heard it, and nobody else changes anything by looking.
abbrev pub looks : Until → Hall → Hall
looks until.There h = h
looks until.Rung h = hears h
looks until.Boarded h = h
