-- What is known only grows.
use Rattle.std.proofs.Common.{ℕ, ◌≡◌, ◌≤◌, ◌<◌, List, [], ◌∷◌, ◌++◌, length, map, refl, sym, ap, ◌∙◌, subst, arith, le_trans, append_assoc, length-append}
use Rattle.std.proofs.lemmas.List.{append-nil}
use mathlib.Core.List.{IsPrefix}
use Rattle.flow_base.specs.declared.code.Code.{Code}
use Rattle.flow_base.specs.declared.fault.Fault.{Fault}
use Rattle.flow_base.specs.declared.submission.Receipt.{Receipt}
use Rattle.flow_base.specs.declared.submission.Taken.{Taken}
use Rattle.flow_commit.specs.Accounts.{Accounted}
use Rattle.flow_commit.specs.Stamps.{Stamped}
use Rattle.flow_base.specs.declared.task.Task.{Task}
use Rattle.flow_hub.specs.declared.known.HubFacts.{HubFacts}
use Rattle.flow_hub.specs.declared.known.BoardSummary.{BoardSummary}
use Rattle.flow_queues.specs.Refusing.{refused_by}
use Rattle.flow_hub.specs.Knowing.{nothing, with_ask, with_taken, with_published, with_refused, with_fetched, with_member, with_closed, with_ended, with_posted, with_skipped, with_given, IsOver, IsBefore, IsSamePart}

pub prefix_self : {A : Type 0} (xs : List A) → IsPrefix xs xs
prefix_self xs = ([], append-nil xs)

pub prefix_trans : {A : Type 0} (xs ys zs : List A) → IsPrefix xs ys → IsPrefix ys zs → IsPrefix xs zs
prefix_trans xs ys zs p q = (p.0 ++ q.0, sym (append_assoc xs p.0 q.0) ∙ (ap (λ w. w ++ q.0) p.1 ∙ q.1))

pub prefix_length : {A : Type 0} (xs ys : List A) → IsPrefix xs ys → length xs ≤ length ys
prefix_length xs ys p = omega (arith, sym (ap length p.1) ∙ length-append xs p.0)

pub over_self : (ks : List Accounted) → IsOver ks ks
over_self [] = tt
over_self (k ∷ ks) = refl

pub over_trans : (js ks ls : List Accounted) → IsOver js ks → IsOver ks ls → IsOver js ls
over_trans [] ks ls p q = tt
over_trans (j ∷ js) [] ls p q = absurd p
over_trans (j ∷ js) (k ∷ ks) [] p q = absurd q
over_trans (j ∷ js) (k ∷ ks) (l ∷ ls) p q = q ∙ p

pub before_self : (k : HubFacts) → IsBefore k k
before_self k = record {
  asked = prefix_self k.asked;
  history = prefix_self k.history;
  refused = prefix_self k.refused;
  over = over_self k.last;
  fetched = omega arith;
  members = omega arith;
  closed = λ c. c;
  posted = prefix_self k.posted;
  given = prefix_self k.given;
}

pub before_trans : (j k l : HubFacts) → IsBefore j k → IsBefore k l → IsBefore j l
before_trans j k l p q = record {
  asked = prefix_trans j.asked k.asked l.asked p.asked q.asked;
  history = prefix_trans j.history k.history l.history p.history q.history;
  refused = prefix_trans j.refused k.refused l.refused p.refused q.refused;
  over = over_trans j.last k.last l.last p.over q.over;
  fetched = le_trans p.fetched q.fetched;
  members = le_trans p.members q.members;
  closed = λ c. q.closed (p.closed c);
  posted = prefix_trans j.posted k.posted l.posted p.posted q.posted;
  given = prefix_trans j.given k.given l.given p.given q.given;
}

pub before_all : (k : HubFacts) → IsBefore nothing k
before_all k = record {
  asked = (k.asked, refl);
  history = (k.history, refl);
  refused = (k.refused, refl);
  over = tt;
  fetched = omega arith;
  members = omega arith;
  closed = λ c. absurd (cc c);
  posted = (k.posted, refl);
  given = (k.given, refl);
}

pub same_part : (k : HubFacts) → IsSamePart k k
same_part k = record { history = refl; refused = refl; last = refl; held = refl; takes = refl; ended = refl; posted = refl; gone = refl; boarded = refl; outlook = refl; skipped = refl }

-- two that agree with a third on the publisher's part agree
pub part_of : (x now y k : HubFacts) → IsSamePart x now → y ≡ now → IsSamePart k y → IsSamePart x k
part_of x now y k p e q = record {
  history = p.history ∙ (ap (λ (l : HubFacts). l.history) (sym e) ∙ sym q.history);
  refused = p.refused ∙ (ap (λ (l : HubFacts). l.refused) (sym e) ∙ sym q.refused);
  last = p.last ∙ (ap (λ (l : HubFacts). l.last) (sym e) ∙ sym q.last);
  held = p.held ∙ (ap (λ (l : HubFacts). l.held) (sym e) ∙ sym q.held);
  takes = p.takes ∙ (ap (λ (l : HubFacts). l.takes) (sym e) ∙ sym q.takes);
  ended = p.ended ∙ (ap (λ (l : HubFacts). l.ended) (sym e) ∙ sym q.ended);
  posted = p.posted ∙ (ap (λ (l : HubFacts). l.posted) (sym e) ∙ sym q.posted);
  gone = p.gone ∙ (ap (λ (l : HubFacts). l.gone) (sym e) ∙ sym q.gone);
  boarded = p.boarded ∙ (ap (λ (l : HubFacts). l.boarded) (sym e) ∙ sym q.boarded);
  outlook = p.outlook ∙ (ap (λ (l : HubFacts). l.outlook) (sym e) ∙ sym q.outlook);
  skipped = p.skipped ∙ (ap (λ (l : HubFacts). l.skipped) (sym e) ∙ sym q.skipped);
}

---- Each change lets it grow

pub asks_on : (k : HubFacts) (t : Taken) → IsBefore k (with_ask k t)
asks_on k t = record {
  asked = (t ∷ [], refl);
  history = prefix_self k.history;
  refused = prefix_self k.refused;
  over = over_self k.last;
  fetched = omega arith;
  members = omega arith;
  closed = λ c. c;
  posted = prefix_self k.posted;
  given = prefix_self k.given;
}

pub takes_on : (k : HubFacts) (xs : List Taken) (left : ℕ) → IsBefore k (with_taken k xs left)
takes_on k xs left = record {
  asked = prefix_self k.asked;
  history = prefix_self k.history;
  refused = prefix_self k.refused;
  over = over_self k.last;
  fetched = omega arith;
  members = omega arith;
  closed = λ c. c;
  posted = prefix_self k.posted;
  given = prefix_self k.given;
}

pub publishes_on : (k : HubFacts) (stamp : Stamped) (count : ℕ) (rs : List Receipt) → IsOver k.last (stamp.account ∷ []) → IsBefore k (with_published k stamp count rs)
publishes_on k stamp count rs o = record {
  asked = prefix_self k.asked;
  history = (rs, refl);
  refused = prefix_self k.refused;
  over = o;
  fetched = omega arith;
  members = omega arith;
  closed = λ c. c;
  posted = prefix_self k.posted;
  given = prefix_self k.given;
}

pub refuses_on : (k : HubFacts) (xs : List Taken) (code : Code) → IsBefore k (with_refused k xs code)
refuses_on k xs code = record {
  asked = prefix_self k.asked;
  history = prefix_self k.history;
  refused = (map (refused_by code) xs, refl);
  over = over_self k.last;
  fetched = omega arith;
  members = omega arith;
  closed = λ c. c;
  posted = prefix_self k.posted;
  given = prefix_self k.given;
}

pub fetches_on : (k : HubFacts) → IsBefore k (with_fetched k)
fetches_on k = record {
  asked = prefix_self k.asked;
  history = prefix_self k.history;
  refused = prefix_self k.refused;
  over = over_self k.last;
  fetched = omega arith;
  members = omega arith;
  closed = λ c. c;
  posted = prefix_self k.posted;
  given = prefix_self k.given;
}

-- where one answer more was fetched than what a seat saw a beginning of
pub fetches_more : (k all l m : HubFacts) → IsBefore k all → all ≡ l → m ≡ with_fetched l → k.fetched < m.fetched
fetches_more k all l m before same next =
    let upto = before.fetched in
    let here = ap (λ (x : HubFacts). x.fetched) same in
    let more = ap (λ (x : HubFacts). x.fetched) next in
    omega (arith, upto, here, more)

-- and where a seat had seen a beginning of what another one saw
pub fetches_later : (j k l : HubFacts) → IsBefore j k → k.fetched < l.fetched → j.fetched < l.fetched
fetches_later j k l before less = let upto = before.fetched in omega (arith, upto, less)

pub enrolls_on : (k : HubFacts) → IsBefore k (with_member k)
enrolls_on k = record {
  asked = prefix_self k.asked;
  history = prefix_self k.history;
  refused = prefix_self k.refused;
  over = over_self k.last;
  fetched = omega arith;
  members = omega arith;
  closed = λ c. c;
  posted = prefix_self k.posted;
  given = prefix_self k.given;
}

pub closes_on : (k : HubFacts) → IsBefore k (with_closed k)
closes_on k = record {
  asked = prefix_self k.asked;
  history = prefix_self k.history;
  refused = prefix_self k.refused;
  over = over_self k.last;
  fetched = omega arith;
  members = omega arith;
  closed = λ _. refl;
  posted = prefix_self k.posted;
  given = prefix_self k.given;
}

pub ends_on : (k : HubFacts) → IsBefore k (with_ended k)
ends_on k = record {
  asked = prefix_self k.asked;
  history = prefix_self k.history;
  refused = prefix_self k.refused;
  over = over_self k.last;
  fetched = omega arith;
  members = omega arith;
  closed = λ _. refl;
  posted = prefix_self k.posted;
  given = prefix_self k.given;
}

pub posts_on : (k : HubFacts) (ts : List Task) (outlook : BoardSummary) → IsBefore k (with_posted k ts outlook)
posts_on k ts outlook = record {
  asked = prefix_self k.asked;
  history = prefix_self k.history;
  refused = prefix_self k.refused;
  over = over_self k.last;
  fetched = omega arith;
  members = omega arith;
  closed = λ c. c;
  posted = (ts, refl);
  given = prefix_self k.given;
}

pub skips_on : (k : HubFacts) (f : Fault) → IsBefore k (with_skipped k f)
skips_on k f = record {
  asked = prefix_self k.asked;
  history = prefix_self k.history;
  refused = prefix_self k.refused;
  over = over_self k.last;
  fetched = omega arith;
  members = omega arith;
  closed = λ c. c;
  posted = prefix_self k.posted;
  given = prefix_self k.given;
}

pub gives_on : (k : HubFacts) (t : Task) → IsBefore k (with_given k t)
gives_on k t = record {
  asked = prefix_self k.asked;
  history = prefix_self k.history;
  refused = prefix_self k.refused;
  over = over_self k.last;
  fetched = omega arith;
  members = omega arith;
  closed = λ c. c;
  posted = prefix_self k.posted;
  given = (t ∷ [], refl);
}

---- What a submitter changes, hub and lock included, isn't the publisher's

pub asks_part : (k : HubFacts) (t : Taken) → IsSamePart (with_ask k t) k
asks_part k t = record { history = refl; refused = refl; last = refl; held = refl; takes = refl; ended = refl; posted = refl; gone = refl; boarded = refl; outlook = refl; skipped = refl }

pub fetches_part : (k : HubFacts) → IsSamePart (with_fetched k) k
fetches_part k = record { history = refl; refused = refl; last = refl; held = refl; takes = refl; ended = refl; posted = refl; gone = refl; boarded = refl; outlook = refl; skipped = refl }

pub enrolls_part : (k : HubFacts) → IsSamePart (with_member k) k
enrolls_part k = record { history = refl; refused = refl; last = refl; held = refl; takes = refl; ended = refl; posted = refl; gone = refl; boarded = refl; outlook = refl; skipped = refl }

pub closes_part : (k : HubFacts) → IsSamePart (with_closed k) k
closes_part k = record { history = refl; refused = refl; last = refl; held = refl; takes = refl; ended = refl; posted = refl; gone = refl; boarded = refl; outlook = refl; skipped = refl }

pub gives_part : (k : HubFacts) (t : Task) → IsSamePart (with_given k t) k
gives_part k t = record { history = refl; refused = refl; last = refl; held = refl; takes = refl; ended = refl; posted = refl; gone = refl; boarded = refl; outlook = refl; skipped = refl }

-- the same of equal ones
pub grows_by : (k l m n : HubFacts) → k ≡ l → n ≡ m → IsBefore l m → IsBefore k n
grows_by k l m n e f b = subst (λ x. IsBefore x n) (sym e) (subst (λ y. IsBefore l y) (sym f) b)

pub part_by : (k l m n : HubFacts) → k ≡ l → n ≡ m → IsSamePart m l → IsSamePart n k
part_by k l m n e f p = subst (λ x. IsSamePart n x) (sym e) (subst (λ y. IsSamePart y l) (sym f) p)
