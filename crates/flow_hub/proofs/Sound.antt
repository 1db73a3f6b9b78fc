-- Each call keeps the hall sound.
use Rattle.std.proofs.Common.{◌≡◌, ℕ, suc, ◌+◌, ◌≤◌, ◌<◌, Bool, true, false, List, [], ◌∷◌, ◌++◌, length, map, refl, ap, sym, ◌∙◌, subst, arith, length-append, append_assoc, Option, Some, None, slice_get, take, drop}
use Rattle.std.specs.Prelude.{All}
use Rattle.std.proofs.lemmas.List.{append-nil}
use Rattle.std.proofs.lemmas.List.Elements.{All-append, All-weaker, All-push, All-head, All-tail, All-nil, All-cons, All-take, All-drop}
use Rattle.flow_base.specs.declared.code.Code.{Code}
use Rattle.flow_base.specs.declared.fault.Fault.{Fault}
use Rattle.flow_base.specs.declared.command.Command.{Command}
use Rattle.flow_base.specs.declared.submission.Receipt.{Receipt}
use Rattle.flow_base.specs.declared.submission.Taken.{Taken}
use Rattle.flow_base.specs.declared.task.Task.{Task}
use Rattle.flow_commit.specs.Boards.{Boarded}
use Rattle.flow_commit.specs.Keeping.{count_from, place_of}
use Rattle.flow_commit.specs.Committing.{taken_of}
use Rattle.flow_commit.specs.Stamps.{Stamped, IsLawful}
use Rattle.flow_hub.specs.declared.known.HubFacts.{HubFacts}
use Rattle.flow_hub.specs.declared.known.BoardSummary.{BoardSummary}
use Rattle.flow_queues.specs.declared.refused.Refused.{Refused}
use Rattle.flow_hub.specs.Asks.{ticket_in, ticket_of, ticket_gone, tickets_in, tickets_of, tickets_gone, takens_of, IsAsked, IsOwn, IsGone, IsTold, Stands}
use Rattle.flow_queues.specs.Refusing.{refused_by}
use Rattle.flow_hub.specs.Knowing.{IsSamePart, IsHistory, IsOver, answered_in, nothing, taken_at_once, with_taken, with_published, with_refused, with_posted, with_skipped, with_given, with_ended}
use Rattle.flow_hub.specs.Feeding.{HasGiven, IsIdle, given_with}
use Rattle.flow_queues.specs.Posting.{IsOnce, new_ones}
use Rattle.flow_hub.specs.Halls.{Hall, IsSound, new_ask, submitted, took, published, refused_all, fetched_receipt, fetched_refusal, enrolled, closed, ended, posted_on, skipped, gave}
use Rattle.flow_hub.specs.Publishing.{Answers, HasTaken, HasPublished, HasRefused, HasPosted, HasSkipped, HasEnded, IsAllTaken, IsDone, IsWhole, TakesAll}
use Rattle.flow_queues.proofs.Once.{still_once}
use Rattle.flow_hub.proofs.Lists.{map-both, length-mapped, from_same, long_same, count_from-next, count_split, rises_higher, rises_on, rises_without, tickets_same, get_front, get_next, stands_on, stand_next}

pub begins_sound : IsSound (record { known = nothing; waiting = []; answered = []; refused = []; given = 0; shares = 0; tasks = []; rung = false })
begins_sound = record {
  legal = record { kept = refl; rising = omega arith };
  order = refl;
  counts = refl;
  shared = refl;
  asked = refl;
  fetched = refl;
  taken = All-nil (IsAsked []);
  pending = All-nil (IsAsked []);
  own = All-nil (IsOwn []);
  gone = All-nil (IsGone []);
  stand = All-nil (Stands []);
  told = All-nil (IsTold []);
  queued = refl;
  once = tt;
  rises = omega arith;
  gone_rises = omega arith;
}

pub submits : (h : Hall) (c : Command) → IsSound h → IsSound (submitted h c)
submits h c s =
    let x = new_ask h c in
    let held = h.known.held in
    let first = answered_in h.known in
    let n = length held + length h.waiting in
    let longer : length (h.waiting ++ x ∷ []) ≡ length h.waiting + 1 = length-append h.waiting (x ∷ []) in
    let all : tickets_in (held ++ (h.waiting ++ x ∷ [])) ≡ count_from first n ++ h.given ∷ [] =
    ap tickets_in (sym (append_assoc held h.waiting (x ∷ []))) ∙ (map-both ticket_in (held ++ h.waiting) (x ∷ []) ∙ ap (λ ts. ts ++ h.given ∷ []) s.order) in
    let next : count_from first n ++ h.given ∷ [] ≡ count_from first (suc n) = ap (λ k. count_from first n ++ k ∷ []) s.counts ∙ sym (count_from-next first n) in
    let asked = h.known.asked in
    let more = asked ++ x ∷ [] in
    let still : (t : Taken) → IsAsked asked t → IsAsked more t = λ t a. get_front asked (x ∷ []) t.ticket t a in
    record {
      legal = record { kept = s.legal.kept; rising = s.legal.rising };
      order = all ∙ (next ∙ long_same first (suc n) (length held + length (h.waiting ++ x ∷ [])) (omega (arith, longer)));
      counts = omega (arith, longer, s.counts);
      shared = omega (arith, s.shared);
      asked = length-append asked (x ∷ []) ∙ ap (λ k. k + 1) s.asked;
      fetched = omega (arith, longer, s.fetched);
      taken = All-weaker (IsAsked asked) (IsAsked more) still held s.taken;
      pending = All-push (IsAsked more) h.waiting x (All-weaker (IsAsked asked) (IsAsked more) still h.waiting s.pending) (subst (λ k. slice_get more k ≡ Some x) s.asked (get_next asked [] x));
      own = All-weaker (IsOwn asked) (IsOwn more) (λ r. still (taken_of r)) h.answered s.own;
      gone = All-weaker (IsGone asked) (IsGone more) (λ r. still r.asked) h.refused s.gone;
      stand = s.stand;
      told = s.told;
      queued = s.queued;
      once = s.once;
      rises = s.rises;
      gone_rises = s.gone_rises;
    }

all_front : (P : Taken → Type 0) (xs ys : List Taken) → All P (xs ++ ys) → All P xs
all_front P [] ys a = All-nil P
all_front P (x ∷ xs) ys a = All-cons P x xs (All-head P x (xs ++ ys) a) (all_front P xs ys (All-tail P x (xs ++ ys) a))

all_back : (P : Taken → Type 0) (xs ys : List Taken) → All P (xs ++ ys) → All P ys
all_back P [] ys a = a
all_back P (x ∷ xs) ys a = all_back P xs ys (All-tail P x (xs ++ ys) a)

pub takes : (h : Hall) (xs rest : List Taken) → h.waiting ≡ xs ++ rest → IsSound h → IsSound (took h xs rest)
takes h xs rest is s =
    let held = h.known.held in
    let asked = h.known.asked in
    let first = answered_in h.known in
    let longer : length (held ++ xs) ≡ length held + length xs = length-append held xs in
    let shorter : length h.waiting ≡ length xs + length rest = ap length is ∙ length-append xs rest in
    let pending : All (IsAsked asked) (xs ++ rest) = subst (All (IsAsked asked)) is s.pending in
    record {
      legal = record { kept = s.legal.kept; rising = s.legal.rising };
      order = ap tickets_in (append_assoc held xs rest) ∙ (ap (λ w. tickets_in (held ++ w)) (sym is) ∙ (s.order ∙ long_same first (length held + length h.waiting) (length (held ++ xs) + length rest) (omega (arith, longer, shorter))));
      counts = omega (arith, longer, shorter, s.counts);
      shared = s.shared;
      asked = s.asked;
      fetched = omega (arith, longer, shorter, s.fetched);
      taken = All-append (IsAsked asked) held xs s.taken (all_front (IsAsked asked) xs rest pending);
      pending = all_back (IsAsked asked) xs rest pending;
      own = s.own;
      gone = s.gone;
      stand = s.stand;
      told = s.told;
      queued = s.queued;
      once = s.once;
      rises = s.rises;
      gone_rises = s.gone_rises;
    }

-- what the publisher's seat has of what was taken
pub has_taken : (h : Hall) (was : HubFacts) (xs rest : List Taken) → h.waiting ≡ xs ++ rest → IsSound h → IsSamePart was h.known → HasTaken was (with_taken h.known xs (length rest)) xs
has_taken h was xs rest is s same =
    let held = h.known.held in
    let first = answered_in h.known in
    let split = count_split ticket_in held h.waiting first (length h.waiting) s.order in
    let shorter : length h.waiting ≡ length xs + length rest = ap length is ∙ length-append xs rest in
    let mine : tickets_in (xs ++ rest) ≡ count_from (first + length held) (length xs + length rest) = ap tickets_in (sym is) ∙ (split.1 ∙ long_same (first + length held) (length h.waiting) (length xs + length rest) shorter) in
    let here = (count_split ticket_in xs rest (first + length held) (length rest) mine).0 in
    record {
      held = ap (λ l. l ++ xs) (sym same.held);
      history = sym same.history;
      refused = sym same.refused;
      last = sym same.last;
      ended = sym same.ended;
      posted = sym same.posted;
      gone = sym same.gone;
      boarded = sym same.boarded;
      outlook = sym same.outlook;
      skipped = sym same.skipped;
      left = length rest;
      takes = ap (λ ts. ts ++ taken_at_once xs (length rest)) (sym same.takes);
      asked = all_front (IsAsked h.known.asked) xs rest (subst (All (IsAsked h.known.asked)) is s.pending);
      order = here ∙ from_same (first + length held) (answered_in was + length was.held) (length xs)
          (omega (arith, ap length same.history, ap length same.refused, ap length same.held));
    }

whole : (most : ℕ) (xs rest : List Taken) → (length xs < most → rest ≡ []) → All (IsWhole most) (taken_at_once xs (length rest))
whole most [] rest all = All-nil (IsWhole most)
whole most (x ∷ xs) rest all = All-cons (IsWhole most) (record { taken = length (x ∷ xs); left = length rest }) [] (λ less. ap length (all less)) (All-nil (IsWhole most))

-- what was taken at once is all that waited, or so many
pub takes_all : (most : ℕ) (was k : HubFacts) (xs rest : List Taken) → IsSamePart was k → (length xs < most → rest ≡ []) → TakesAll most was (with_taken k xs (length rest))
takes_all most was k xs rest same all = record {
  more = taken_at_once xs (length rest);
  are = ap (λ ts. ts ++ taken_at_once xs (length rest)) (sym same.takes);
  each = whole most xs rest all;
}

pub takes_all_by : (most : ℕ) (was k l : HubFacts) → k ≡ l → TakesAll most was l → TakesAll most was k
takes_all_by most was k l e t = subst (λ x. TakesAll most was x) (sym e) t

pub takes_all_since : (most : ℕ) (j k l : HubFacts) → IsSamePart j k → TakesAll most k l → TakesAll most j l
takes_all_since most j k l same t = record { more = t.more; are = t.are ∙ ap (λ ts. ts ++ t.more) (sym same.takes); each = t.each }

-- where nothing was taken
pub takes_none : (most : ℕ) (old new : HubFacts) → new.takes ≡ old.takes → TakesAll most old new
takes_none most old new same = record { more = []; are = same ∙ sym (append-nil old.takes); each = All-nil (IsWhole most) }

-- and behind what was
pub takes_then : (most : ℕ) (old mid new : HubFacts) → TakesAll most old mid → TakesAll most mid new → TakesAll most old new
takes_then most old mid new s t = record {
  more = s.more ++ t.more;
  are = t.are ∙ (ap (λ ts. ts ++ t.more) s.are ∙ append_assoc old.takes s.more t.more);
  each = All-append (IsWhole most) s.more t.more s.each t.each;
}

-- where nothing waits, all is answered or taken
pub all_taken : (h : Hall) → h.waiting ≡ [] → IsSound h → IsAllTaken h.known
all_taken h none s = omega (arith, s.asked, s.counts, ap length none)

pub is_done : (h : Hall) → h.waiting ≡ [] → h.known.closed ≡ true → IsSound h → IsDone h.known
is_done h none c s = record { closed = c; empty = all_taken h none s }

pub all_taken_by : (k l : HubFacts) → k ≡ l → IsAllTaken l → IsAllTaken k
all_taken_by k l e a = subst (λ x. IsAllTaken x) (sym e) a

owned : (asked : List Taken) (rs : List Receipt) → All (IsAsked asked) (takens_of rs) → All (IsOwn asked) rs
owned asked [] a = All-nil (IsOwn asked)
owned asked (r ∷ rs) a = All-cons (IsOwn asked) r rs (All-head (IsAsked asked) (taken_of r) (takens_of rs) a) (owned asked rs (All-tail (IsAsked asked) (taken_of r) (takens_of rs) a))

-- what the publisher's seat saw is what lies under the lock
pub same_answers : (k l : HubFacts) (stamp : Stamped) (rs : List Receipt) → IsSamePart k l → Answers k stamp rs → Answers l stamp rs
same_answers k l stamp rs same a = record {
  asked = a.asked ∙ same.held;
  own = a.own;
  log = a.log ∙ ap (λ h. h ++ rs) same.history;
  over = subst (λ ks. IsOver ks (stamp.account ∷ [])) same.last a.over;
}

-- the receipts' tickets are the next ones
next_tickets : (h : Hall) (stamp : Stamped) (rs : List Receipt) → IsSound h → Answers h.known stamp rs → tickets_of rs ≡ count_from (answered_in h.known) (length rs)
next_tickets h stamp rs s a =
    let held = h.known.held in
    let first = answered_in h.known in
    let split = count_split ticket_in held h.waiting first (length h.waiting) s.order in
    let count : length held ≡ length rs = sym (ap length a.asked) ∙ length-mapped taken_of rs in
    tickets_same rs ∙ (ap tickets_in a.asked ∙ (split.0 ∙ ap (count_from first) count))

-- the history that is published, by the stamp's keeper
pub published_history : (h : Hall) (stamp : Stamped) (count : ℕ) (rs : List Receipt) → IsSound h → Answers h.known stamp rs → IsLawful stamp.account → IsHistory (with_published h.known stamp count rs)
published_history h stamp count rs s a lawful =
    let history = h.known.history in
    let first = answered_in h.known in
    let now = answered_in (with_published h.known stamp count rs) in
    record {
      kept = (sym a.log, lawful.legal);
      rising = rises_on ticket_of history rs first (length rs) now s.legal.rising (next_tickets h stamp rs s a) (omega (arith, length-append history rs));
    }

pub publishes : (h : Hall) (stamp : Stamped) (count : ℕ) (rs : List Receipt) → IsSound h → Answers h.known stamp rs → IsLawful stamp.account → IsSound (published h stamp count rs)
publishes h stamp count rs s a lawful =
    let held = h.known.held in
    let history = h.known.history in
    let asked = h.known.asked in
    let first = answered_in h.known in
    let now = answered_in (with_published h.known stamp count rs) in
    let split = count_split ticket_in held h.waiting first (length h.waiting) s.order in
    let many : length held ≡ length rs = sym (ap length a.asked) ∙ length-mapped taken_of rs in
    let longer : length (history ++ rs) ≡ length history + length rs = length-append history rs in
    let more : length (h.answered ++ rs) ≡ length h.answered + length rs = length-append h.answered rs in
    let kept : stamp.account.kept ≡ length history + length rs = lawful.counts ∙ (ap length a.log ∙ longer) in
    let places : map place_of (history ++ rs) ≡ count_from 1 (length history + length rs) = ap (map place_of) (sym a.log) ∙ (lawful.places ∙ ap (count_from 1) kept) in
    let next : map place_of rs ≡ count_from (length history + 1) (length rs) = (count_split place_of history rs 1 (length rs) places).1 ∙ from_same (1 + length history) (length history + 1) (length rs) (omega arith) in
    record {
      legal = published_history h stamp count rs s a lawful;
      order = split.1 ∙ (from_same (first + length held) now (length h.waiting) (omega (arith, many, longer)) ∙ long_same now (length h.waiting) (0 + length h.waiting) (omega arith));
      counts = omega (arith, s.counts, many, longer);
      shared = s.shared;
      asked = s.asked;
      fetched = omega (arith, s.fetched, many, more);
      taken = All-nil (IsAsked asked);
      pending = s.pending;
      own = All-append (IsOwn asked) h.answered rs s.own (owned asked rs (subst (All (IsAsked asked)) (sym a.asked) s.taken));
      gone = s.gone;
      stand = All-append (Stands (history ++ rs)) h.answered rs
          (All-weaker (Stands history) (Stands (history ++ rs)) (stands_on history rs) h.answered s.stand)
          (stand_next rs history next);
      told = s.told;
      queued = s.queued;
      once = s.once;
      rises = rises_on ticket_of h.answered rs first (length rs) now s.rises (next_tickets h stamp rs s a) (omega (arith, longer));
      gone_rises = rises_higher 0 first now (tickets_gone h.refused) (omega (arith, longer)) s.gone_rises;
    }

-- what the publisher's seat has of what was published
pub has_published : (l was : HubFacts) (stamp : Stamped) (count : ℕ) (rs : List Receipt) → IsSamePart was l → Answers was stamp rs → HasPublished was (with_published l stamp count rs) stamp rs
has_published l was stamp count rs same a = record {
  history = ap (λ h. h ++ rs) (sym same.history);
  log = ap (λ h. h ++ rs) (sym same.history) ∙ sym a.log;
  last = refl;
  held = refl;
  takes = sym same.takes;
  refused = sym same.refused;
  ended = sym same.ended;
  posted = sym same.posted;
  count = count;
  gone = ap (λ runs. runs ++ take count stamp.closed) (sym same.gone);
  boarded = refl;
  outlook = refl;
  skipped = sym same.skipped;
}

pub history_by : (k l : HubFacts) → k ≡ l → IsHistory l → IsHistory k
history_by k l e h = subst (IsHistory) (sym e) h

pub All-without : {X : Type 0} (P : X → Type 0) (xs ys : List X) (k : ℕ) → ys ≡ take k xs ++ drop (k + 1) xs → All P xs → All P ys
All-without P xs ys k e a = subst (All P) (sym e) (All-append P (take k xs) (drop (k + 1) xs) (All-take P k xs a) (All-drop P (k + 1) xs a))

-- one receipt fewer, which was fetched
pub fetches : (h : Hall) (rs : List Receipt) (k : ℕ) → rs ≡ take k h.answered ++ drop (k + 1) h.answered → length rs + 1 ≡ length h.answered → IsSound h → IsSound (fetched_receipt h rs)
fetches h rs k e fewer s = record {
  legal = record { kept = s.legal.kept; rising = s.legal.rising };
  order = s.order;
  counts = s.counts;
  shared = s.shared;
  asked = s.asked;
  fetched = omega (arith, s.fetched, fewer);
  taken = s.taken;
  pending = s.pending;
  own = All-without (IsOwn h.known.asked) h.answered rs k e s.own;
  gone = s.gone;
  stand = All-without (Stands h.known.history) h.answered rs k e s.stand;
  told = s.told;
  queued = s.queued;
  once = s.once;
  rises = rises_without ticket_of 0 (answered_in h.known) h.answered rs k e s.rises;
  gone_rises = s.gone_rises;
}

-- one refusal fewer, which was fetched
pub lets_go : (h : Hall) (rs : List Refused) (k : ℕ) → rs ≡ take k h.refused ++ drop (k + 1) h.refused → length rs + 1 ≡ length h.refused → IsSound h → IsSound (fetched_refusal h rs)
lets_go h rs k e fewer s = record {
  legal = record { kept = s.legal.kept; rising = s.legal.rising };
  order = s.order;
  counts = s.counts;
  shared = s.shared;
  asked = s.asked;
  fetched = omega (arith, s.fetched, fewer);
  taken = s.taken;
  pending = s.pending;
  own = s.own;
  gone = All-without (IsGone h.known.asked) h.refused rs k e s.gone;
  stand = s.stand;
  told = All-without (IsTold h.known.refused) h.refused rs k e s.told;
  queued = s.queued;
  once = s.once;
  rises = s.rises;
  gone_rises = rises_without ticket_gone 0 (answered_in h.known) h.refused rs k e s.gone_rises;
}

refused_own : (asked : List Taken) (code : Code) (xs : List Taken) → All (IsAsked asked) xs → All (IsGone asked) (map (refused_by code) xs)
refused_own asked code [] a = All-nil (IsGone asked)
refused_own asked code (x ∷ xs) a = All-cons (IsGone asked) (refused_by code x) (map (refused_by code) xs) (All-head (IsAsked asked) x xs a) (refused_own asked code xs (All-tail (IsAsked asked) x xs a))

told_on : (told more : List Refused) (r : Refused) → IsTold told r → IsTold (told ++ more) r
told_on told more r t = record { at = t.at; is = get_front told more t.at r t.is }

-- those at the end of the list are in it
told_next : (rs : List Refused) (told : List Refused) → All (IsTold (told ++ rs)) rs
told_next [] told = All-nil (IsTold (told ++ []))
told_next (r ∷ rs) told =
    let same : (told ++ r ∷ []) ++ rs ≡ told ++ r ∷ rs = append_assoc told (r ∷ []) rs in
    All-cons (IsTold (told ++ r ∷ rs)) r rs (record { at = length told; is = get_next told rs r }) (subst (λ l. All (IsTold l) rs) same (told_next rs (told ++ r ∷ [])))

gone_same : (code : Code) (xs : List Taken) → tickets_gone (map (refused_by code) xs) ≡ tickets_in xs
gone_same code [] = refl
gone_same code (x ∷ xs) = ap (λ ts. x.ticket ∷ ts) (gone_same code xs)

pub refuses : (h : Hall) (code : Code) → IsSound h → IsSound (refused_all h code)
refuses h code s =
    let held = h.known.held in
    let more = map (refused_by code) held in
    let first = answered_in h.known in
    let now = answered_in (with_refused h.known held code) in
    let split = count_split ticket_in held h.waiting first (length h.waiting) s.order in
    let count : length more ≡ length held = length-mapped (refused_by code) held in
    let longer : length (h.known.refused ++ more) ≡ length h.known.refused + length more = length-append h.known.refused more in
    let left : length (h.refused ++ more) ≡ length h.refused + length more = length-append h.refused more in
    record {
      legal = record { kept = s.legal.kept; rising = rises_higher 0 first now (tickets_of h.known.history) (omega (arith, longer)) s.legal.rising };
      order = split.1 ∙ (from_same (first + length held) now (length h.waiting) (omega (arith, count, longer)) ∙ long_same now (length h.waiting) (0 + length h.waiting) (omega arith));
      counts = omega (arith, s.counts, count, longer);
      shared = s.shared;
      asked = s.asked;
      fetched = omega (arith, s.fetched, count, left);
      taken = All-nil (IsAsked h.known.asked);
      pending = s.pending;
      own = s.own;
      gone = All-append (IsGone h.known.asked) h.refused more s.gone (refused_own h.known.asked code held s.taken);
      stand = s.stand;
      told = All-append (IsTold (h.known.refused ++ more)) h.refused more
          (All-weaker (IsTold h.known.refused) (IsTold (h.known.refused ++ more)) (told_on h.known.refused more) h.refused s.told)
          (told_next more h.known.refused);
      queued = s.queued;
      once = s.once;
      rises = rises_higher 0 first now (tickets_of h.answered) (omega (arith, longer)) s.rises;
      gone_rises = rises_on ticket_gone h.refused more first (length held) now s.gone_rises (gone_same code held ∙ split.0) (omega (arith, count, longer));
    }

-- what the publisher's seat has of what was refused
pub has_refused : (l was : HubFacts) (xs : List Taken) (code : Code) → IsSamePart was l → HasRefused was (with_refused l xs code) xs code
has_refused l was xs code same = record {
  refused = ap (λ r. r ++ map (refused_by code) xs) (sym same.refused);
  held = refl;
  takes = sym same.takes;
  history = sym same.history;
  last = sym same.last;
  ended = sym same.ended;
  posted = sym same.posted;
  gone = sym same.gone;
  boarded = refl;
  outlook = refl;
  skipped = sym same.skipped;
}

pub enrolls : (h : Hall) → IsSound h → IsSound (enrolled h)
enrolls h s = record {
  legal = record { kept = s.legal.kept; rising = s.legal.rising };
  order = s.order;
  counts = s.counts;
  shared = s.shared;
  asked = s.asked;
  fetched = s.fetched;
  taken = s.taken;
  pending = s.pending;
  own = s.own;
  gone = s.gone;
  stand = s.stand;
  told = s.told;
  queued = s.queued;
  once = s.once;
  rises = s.rises;
  gone_rises = s.gone_rises;
}

pub closes : (h : Hall) → IsSound h → IsSound (closed h)
closes h s = record {
  legal = record { kept = s.legal.kept; rising = s.legal.rising };
  order = s.order;
  counts = s.counts;
  shared = s.shared;
  asked = s.asked;
  fetched = s.fetched;
  taken = s.taken;
  pending = s.pending;
  own = s.own;
  gone = s.gone;
  stand = s.stand;
  told = s.told;
  queued = s.queued;
  once = s.once;
  rises = s.rises;
  gone_rises = s.gone_rises;
}

pub ends : (h : Hall) → IsSound h → IsSound (ended h)
ends h s = record {
  legal = record { kept = s.legal.kept; rising = s.legal.rising };
  order = s.order;
  counts = s.counts;
  shared = s.shared;
  asked = s.asked;
  fetched = s.fetched;
  taken = s.taken;
  pending = s.pending;
  own = s.own;
  gone = s.gone;
  stand = s.stand;
  told = s.told;
  queued = s.queued;
  once = s.once;
  rises = s.rises;
  gone_rises = s.gone_rises;
}

---- Tasks

pub posts : (h : Hall) (ts : List Task) (outlook : BoardSummary) → IsSound h → IsSound (posted_on h ts outlook)
posts h ts outlook s = record {
  legal = record { kept = s.legal.kept; rising = s.legal.rising };
  order = s.order;
  counts = s.counts;
  shared = s.shared;
  asked = s.asked;
  fetched = s.fetched;
  taken = s.taken;
  pending = s.pending;
  own = s.own;
  gone = s.gone;
  stand = s.stand;
  told = s.told;
  queued = ap (λ l. l ++ new_ones h.known.posted ts) s.queued ∙ append_assoc h.known.given h.tasks (new_ones h.known.posted ts);
  once = still_once h.known.posted ts s.once;
  rises = s.rises;
  gone_rises = s.gone_rises;
}

pub rung_still : (h : Hall) (b : Bool) → IsSound h → IsSound (record h { rung = b })
rung_still h b s = record {
  legal = s.legal;
  order = s.order;
  counts = s.counts;
  shared = s.shared;
  asked = s.asked;
  fetched = s.fetched;
  taken = s.taken;
  pending = s.pending;
  own = s.own;
  gone = s.gone;
  stand = s.stand;
  told = s.told;
  queued = s.queued;
  once = s.once;
  rises = s.rises;
  gone_rises = s.gone_rises;
}

pub skips : (h : Hall) (f : Fault) → IsSound h → IsSound (skipped h f)
skips h f s = record {
  legal = record { kept = s.legal.kept; rising = s.legal.rising };
  order = s.order;
  counts = s.counts;
  shared = s.shared;
  asked = s.asked;
  fetched = s.fetched;
  taken = s.taken;
  pending = s.pending;
  own = s.own;
  gone = s.gone;
  stand = s.stand;
  told = s.told;
  queued = s.queued;
  once = s.once;
  rises = s.rises;
  gone_rises = s.gone_rises;
}

pub gives : (h : Hall) (t : Task) (rest : List Task) → h.tasks ≡ t ∷ rest → IsSound h → IsSound (gave h t rest)
gives h t rest is s = record {
  legal = record { kept = s.legal.kept; rising = s.legal.rising };
  order = s.order;
  counts = s.counts;
  shared = s.shared;
  asked = s.asked;
  fetched = s.fetched;
  taken = s.taken;
  pending = s.pending;
  own = s.own;
  gone = s.gone;
  stand = s.stand;
  told = s.told;
  queued = s.queued ∙ (ap (λ l. h.known.given ++ l) is ∙ sym (append_assoc h.known.given (t ∷ []) rest));
  once = s.once;
  rises = s.rises;
  gone_rises = s.gone_rises;
}

-- what the publisher's seat has of what was posted
pub has_posted : (l was : HubFacts) (board : Boarded) → IsSamePart was l
    → HasPosted was (with_posted l (new_ones l.posted board.tasks) (record { due = board.due; open_runs = board.open_runs })) board
has_posted l was board same = record {
  rest = record { history = sym same.history; refused = sym same.refused; last = sym same.last; held = sym same.held; takes = sym same.takes; ended = sym same.ended; gone = sym same.gone };
  posted = ap (λ ts. ts ++ new_ones ts board.tasks) (sym same.posted);
  boarded = refl;
  outlook = refl;
  skipped = sym same.skipped;
}

pub has_skipped : (l was : HubFacts) (f : Fault) → IsSamePart was l → HasSkipped was (with_skipped l f) f
has_skipped l was f same = record {
  rest = record { history = sym same.history; refused = sym same.refused; last = sym same.last; held = sym same.held; takes = sym same.takes; ended = sym same.ended; gone = sym same.gone };
  posted = sym same.posted;
  boarded = refl;
  outlook = sym same.outlook;
  skipped = ap (λ fs. f ∷ fs) (sym same.skipped);
}

pub has_ended : (l was : HubFacts) → IsSamePart was l → HasEnded was (with_ended l)
has_ended l was same = record {
  ended = refl;
  history = sym same.history;
  refused = sym same.refused;
  last = sym same.last;
  held = sym same.held;
  takes = sym same.takes;
  posted = sym same.posted;
  gone = sym same.gone;
  boarded = sym same.boarded;
  outlook = sym same.outlook;
  skipped = sym same.skipped;
}

-- what the giver's seat has of what was given out
pub has_given : (h : Hall) (was : HubFacts) (t : Task) (rest : List Task) → h.tasks ≡ t ∷ rest → IsSound h → was.given ≡ h.known.given → HasGiven was (with_given h.known t) (Some t)
has_given h was t rest is s same = record {
  next = ap (λ l. l ++ t ∷ []) (sym same);
  first = (rest, append_assoc h.known.given (t ∷ []) rest ∙ (ap (λ l. h.known.given ++ l) (sym is) ∙ sym s.queued));
  once = s.once;
}

pub has_given_none : (h : Hall) (was : HubFacts) → IsSound h → was.given ≡ h.known.given → HasGiven was h.known None
has_given_none h was s same = record {
  next = sym same;
  first = (h.tasks, sym s.queued);
  once = s.once;
}

-- where nothing waits and nothing is taken, all is answered
pub is_idle : (h : Hall) (o : BoardSummary) → h.known.outlook ≡ Some o → o.open_runs ≡ 0 → h.waiting ≡ [] → h.known.held ≡ [] → IsSound h → IsIdle h.known
is_idle h o named none waits held s = record {
  outlook = o;
  named = named;
  none_open = none;
  answered = omega (arith, s.asked, s.counts, ap length waits, ap length held);
  none = held;
}

-- what was taken since
pub taken_since : (j k l : HubFacts) (xs : List Taken) → IsSamePart j k → HasTaken k l xs → HasTaken j l xs
taken_since j k l xs same t = record {
  held = t.held ∙ ap (λ h. h ++ xs) (sym same.held);
  history = t.history ∙ sym same.history;
  refused = t.refused ∙ sym same.refused;
  last = t.last ∙ sym same.last;
  ended = t.ended ∙ sym same.ended;
  posted = t.posted ∙ sym same.posted;
  gone = t.gone ∙ sym same.gone;
  boarded = t.boarded ∙ sym same.boarded;
  outlook = t.outlook ∙ sym same.outlook;
  skipped = t.skipped ∙ sym same.skipped;
  left = t.left;
  takes = t.takes ∙ ap (λ ts. ts ++ taken_at_once xs t.left) (sym same.takes);
  asked = t.asked;
  order = t.order ∙ from_same (answered_in k + length k.held) (answered_in j + length j.held) (length xs)
      (omega (arith, ap length same.history, ap length same.refused, ap length same.held));
}

-- the same of an equal one
pub taken_by : (was k l : HubFacts) (xs : List Taken) → k ≡ l → HasTaken was l xs → HasTaken was k xs
taken_by was k l xs e t = subst (λ x. HasTaken was x xs) (sym e) t

pub published_by : (was k l : HubFacts) (stamp : Stamped) (rs : List Receipt) → k ≡ l → HasPublished was l stamp rs → HasPublished was k stamp rs
published_by was k l stamp rs e t = subst (λ x. HasPublished was x stamp rs) (sym e) t

pub none_taken : (j k l : HubFacts) (xs : List Taken) → xs ≡ [] → IsSamePart j k → HasTaken k l xs → IsSamePart j l
none_taken j k l xs none same t = record {
  history = same.history ∙ sym t.history;
  refused = same.refused ∙ sym t.refused;
  last = same.last ∙ sym t.last;
  held = same.held ∙ sym (t.held ∙ (ap (λ x. k.held ++ x) none ∙ append-nil k.held));
  ended = same.ended ∙ sym t.ended;
  posted = same.posted ∙ sym t.posted;
  gone = same.gone ∙ sym t.gone;
  boarded = same.boarded ∙ sym t.boarded;
  outlook = same.outlook ∙ sym t.outlook;
  takes = same.takes ∙ sym (t.takes ∙ (ap (λ x. k.takes ++ taken_at_once x t.left) none ∙ append-nil k.takes));
  skipped = same.skipped ∙ sym t.skipped;
}

pub posted_by : (was k l : HubFacts) (board : Boarded) → k ≡ l → HasPosted was l board → HasPosted was k board
posted_by was k l board e t = subst (λ x. HasPosted was x board) (sym e) t

pub skipped_by : (was k l : HubFacts) (f : Fault) → k ≡ l → HasSkipped was l f → HasSkipped was k f
skipped_by was k l f e t = subst (λ x. HasSkipped was x f) (sym e) t

pub ended_by : (was k l : HubFacts) → k ≡ l → HasEnded was l → HasEnded was k
ended_by was k l e t = subst (λ x. HasEnded was x) (sym e) t

pub given_by : (was k l : HubFacts) (t : Option Task) → k ≡ l → HasGiven was l t → HasGiven was k t
given_by was k l t e h = subst (λ x. HasGiven was x t) (sym e) h

pub idle_by : (k l : HubFacts) → k ≡ l → IsIdle l → IsIdle k
idle_by k l e h = subst (λ x. IsIdle x) (sym e) h

pub none_given : (j k l : HubFacts) (t : Option Task) → t ≡ None → j.given ≡ k.given → HasGiven k l t → j.given ≡ l.given
none_given j k l t none same h = same ∙ sym (subst (λ (o : Option Task). given_with k l o) none h.next)

pub once_by : (k l : HubFacts) → k ≡ l → IsOnce l.posted → IsOnce k.posted
once_by k l e o = subst (λ (x : HubFacts). IsOnce x.posted) (sym e) o

-- what was given out since
pub given_since : (j k l : HubFacts) (t : Option Task) → j.given ≡ k.given → HasGiven k l t → HasGiven j l t
given_since j k l None same h = record { next = h.next ∙ sym same; first = h.first; once = h.once }
given_since j k l (Some t) same h = record { next = h.next ∙ ap (λ xs. xs ++ t ∷ []) (sym same); first = h.first; once = h.once }
