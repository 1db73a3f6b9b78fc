-- What was printed by what a hub had told, by what is kept.
use Rattle.std.proofs.Common.{◌≡◌, ◌||◌, ℕ, Bool, true, false, List, [], ◌∷◌, ◌++◌, Option, Some, None, slice_get, inl, inr, refl, sym, ap, ◌∙◌, subst, append_assoc}
use Rattle.std.proofs.lemmas.Option.{same_Some, none-some}
use mathlib.Core.List.{IsPrefix}
use Rattle.sqlite_trees.specs.declared.store.Store.{Ghosts}
use Rattle.flow_base.specs.declared.command.Command.{Command}
use Rattle.flow_base.specs.declared.fault.Fault.{Fault}
use Rattle.flow_lines.specs.Commands.{line_command}
use Rattle.flow_lines.specs.declared.reply.Line.{Line}
use Rattle.flow_lines.specs.declared.reply.Line.TheVariants as line
use Rattle.flow_base.specs.declared.submission.Receipt.{Receipt}
use Rattle.flow_base.specs.declared.submission.Taken.{Taken}
use Rattle.flow_base.specs.declared.task.Task.{Task}
use Rattle.flow_base.specs.Keys.{Key, key_of}
use Rattle.flow_commit.specs.Keeping.{Keeping, account_of}
use Rattle.flow_queues.specs.Posting.{IsOnce, has_key}
use Rattle.flow_queues.proofs.Once.{has_both, off}
use Rattle.flow_queues.specs.declared.refused.Refused.{Refused}
use Rattle.flow_hub.specs.Asks.{IsTold, Stands}
use Rattle.flow_hub.specs.Knowing.{IsBefore, IsSamePart, nothing}
use Rattle.flow_hub.specs.Publishing.{Together}
use Rattle.flow_hub.specs.Submitting.{Member, IsReceipt, IsNotDone, IsFor}
use Rattle.flow_hub.specs.declared.known.HubFacts.{HubFacts}
use Rattle.flow_hub.specs.declared.ticket.NotDoneFacts.{NotDoneFacts}
use Rattle.flow_hub.specs.declared.ticket.TicketFacts.{TicketFacts}
use Rattle.flow_hub.specs.declared.ticket.Why.{Why}
use Rattle.flow_hub.specs.declared.ticket.Why.TheVariants as why
use Rattle.flow_hub.proofs.Growing.{prefix_trans}
use Rattle.flow_hub.proofs.Lists.{get_front, stands_on}
use Rattle.flow_serve.specs.Posting.{Posts}
use Rattle.flow_serve.specs.Serving.{EndsFor, GivesUp, HasServed}
use Rattle.flow_work.specs.Counting.{AreAnswered, AreShown, Answered, Counted, Holds, IsStatusOf, replies_in, tasks_in}
use Rattle.flow_work.specs.Endings.{EndsServing, HasServedAll, IsToldOf, line_instead}
use Rattle.flow_work.specs.Moments.{command_at}
use Rattle.flow_work.specs.Printing.{Printed}
use Rattle.flow_work.specs.Questions.{line_served}
use Rattle.flow_work.specs.Reading.{IsKnown, IsSubmitted, IsPendingOf}
use Rattle.flow_work.specs.Telling.{IsAnswer}
use Rattle.flow_work.specs.Serving.{IsReply, IsUnapplied, IsTelling, AreTold, PrintsReplies, ServedBy, Shows}
use Rattle.flow_work.specs.declared.queue.Pending.{Pending}
use Rattle.flow_work.specs.declared.queue.Pending.TheVariants as pending
use Rattle.flow_work.specs.declared.shown.Shown.{Shown}

-- ---- what stands later too

get_later : {A : Type 0} (xs ys : List A) (k : ℕ) (x : A) → IsPrefix xs ys → slice_get xs k ≡ Some x → slice_get ys k ≡ Some x
get_later xs ys k x p at = subst (λ l. slice_get l k ≡ Some x) p.1 (get_front xs p.0 k x at)

stands_later : (xs ys : List Receipt) (r : Receipt) → IsPrefix xs ys → Stands xs r → Stands ys r
stands_later xs ys r p s = subst (λ l. Stands l r) p.1 (stands_on xs p.0 r s)

told_later : (xs ys : List Refused) (r : Refused) → IsPrefix xs ys → IsTold xs r → IsTold ys r
told_later xs ys r p t = record { at = t.at; is = get_later xs ys t.at r p t.is }

or_front : (a b : Bool) → (a || b) ≡ false → a ≡ false
or_front true b e = off (sym e)
or_front false b e = refl

once_first : (xs ys : List Task) → IsOnce (xs ++ ys) → IsOnce xs
once_first [] ys o = tt
once_first (x ∷ xs) ys o = (or_front (has_key xs (key_of x)) (has_key ys (key_of x)) (sym (has_both xs ys (key_of x)) ∙ o.0), once_first xs ys o.1)

-- ---- one line

-- two submissions at one place have one command
same_command : (o : Option Taken) (x y : Taken) → o ≡ Some x → o ≡ Some y → x.command ≡ y.command
same_command o x y p q = let same : x ≡ y = cc (p, q) in ap (λ (t : Taken). t.command) same

-- what was submitted for a line is what has this number
asked_at : (reads : List ℕ → Option Command) (tells : ℕ → Type 0) (m seen : Member) (bytes : List ℕ) (t : TicketFacts) (x : Taken) (n : ℕ) → IsBefore seen.was m.was → (w : IsSubmitted reads tells m bytes t) → n ≡ t.number → slice_get seen.was.asked n ≡ Some x → x.command ≡ command_at w.command w.at
asked_at reads tells m seen bytes t x n before w is own =
    let there = w.ticket.1 in
    let later : slice_get m.was.asked n ≡ Some x = get_later seen.was.asked m.was.asked n x before.asked own in
    let now : slice_get m.was.asked t.number ≡ Some x = subst (λ k. slice_get m.was.asked k ≡ Some x) is later in
    same_command (slice_get m.was.asked t.number) x (record { ticket = t.number; command = command_at w.command w.at }) now there

by_receipt : (reads : List ℕ → Option Command) (tells : ℕ → Type 0) (m seen : Member) (log : List Receipt) (bytes : List ℕ) (told : Line) (t : TicketFacts) (r : Receipt) → IsBefore seen.was m.was → IsPrefix m.was.history log → IsSubmitted reads tells m bytes t → IsReceipt seen t r
    → Some told ≡ Some (line.Of r.reply) → IsReply reads tells log bytes told
by_receipt reads tells m seen log bytes told t r before on w is e = record {
  receipt = r;
  command = w.command;
  at = w.at;
  clock = w.told;
  is = w.is;
  kept = asked_at reads tells m seen bytes t (record { ticket = r.ticket; command = r.command }) r.ticket before w is.number is.own;
  stands = stands_later seen.was.history log r (prefix_trans seen.was.history m.was.history log before.history on) is.stands;
  told = same_Some told (line.Of r.reply) e;
}

by_why : (reads : List ℕ → Option Command) (tells : ℕ → Type 0) (m seen : Member) (refused : List Refused) (bytes : List ℕ) (told : Line) (t : TicketFacts) (n : NotDoneFacts) (w : Why) → IsBefore seen.was m.was → IsPrefix m.was.refused refused → IsSubmitted reads tells m bytes t → IsFor seen t n w
    → Some told ≡ line_instead w → IsUnapplied reads tells refused bytes told
by_why reads tells m seen refused bytes told t n why.NotMine before on sent is e = absurd (cc e)
by_why reads tells m seen refused bytes told t n (why.Refused code) before on sent is e =
    let r = is.1.0 in record {
      answer = r;
      command = sent.command;
      at = sent.at;
      clock = sent.told;
      is = sent.is;
      asked = asked_at reads tells m seen bytes t r.asked r.asked.ticket before sent is.1.2 is.1.4;
      stands = told_later seen.was.refused refused r (prefix_trans seen.was.refused m.was.refused refused before.refused on) is.1.5;
      told = subst (λ c. Some told ≡ line_instead (why.Refused c)) (sym is.1.1) e;
    }

by_ticket : (reads : List ℕ → Option Command) (tells : ℕ → Type 0) (m seen : Member) (log : List Receipt) (refused : List Refused) (bytes : List ℕ) (told : Line) (t : TicketFacts) → IsBefore seen.was m.was → IsPrefix m.was.history log → IsPrefix m.was.refused refused
    → IsSubmitted reads tells m bytes t → IsToldOf seen t (Some told) → IsTelling reads tells log refused bytes told
by_ticket reads tells m seen log refused bytes told t before on off w (inl (r, is, e)) = inl (by_receipt reads tells m seen log bytes told t r before on w is e)
by_ticket reads tells m seen log refused bytes told t before on off w (inr (n, is, e)) = inr (inl (by_why reads tells m seen refused bytes told t n n.code before off w is.1 e))

by_pending : (reads : List ℕ → Option Command) (tells : ℕ → Type 0) (m seen : Member) (log : List Receipt) (refused : List Refused) (bytes : List ℕ) (told : Line) (p : Pending) → IsBefore seen.was m.was → IsPrefix m.was.history log → IsPrefix m.was.refused refused
    → IsPendingOf reads tells m bytes p → IsAnswer seen p (Some told) → IsTelling reads tells log refused bytes told
by_pending reads tells m seen log refused bytes told (pending.Submitted t) before on off w a = by_ticket reads tells m seen log refused bytes told t before on off w a
by_pending reads tells m seen log refused bytes told (pending.Known known) before on off w a = inr (inr (subst (IsKnown reads bytes) (sym (same_Some told known a)) w))

-- ---- all of them

are_told : (reads : List ℕ → Option Command) (tells : ℕ → Type 0) (m : Member) (log : List Receipt) (refused : List Refused) (ls : List (List ℕ)) (xs : List Line) (more : List (List ℕ)) → IsPrefix m.was.history log → IsPrefix m.was.refused refused → AreAnswered reads tells m ls xs
    → AreTold reads tells log refused xs (ls ++ more)
are_told reads tells m log refused [] [] more on off a = tt
are_told reads tells m log refused [] (x ∷ xs) more on off a = absurd a
are_told reads tells m log refused (l ∷ ls) [] more on off a = absurd a
are_told reads tells m log refused (l ∷ ls) (x ∷ xs) more on off a =
    (by_pending reads tells m a.0.seen log refused l x a.0.pending a.0.before on off a.0.waits a.0.answer, are_told reads tells m log refused ls xs more on off a.1)

-- what was printed, by what is kept and posted
shows_by : {S : Type 0} (g : Ghosts S) (tells : ℕ → Type 0) (old now : Keeping S) (first : Option (List ℕ)) (feed hub : HubFacts) (m : Member) (lines : List (List ℕ)) (page : Printed) → Counted line_served tells first feed m lines page → IsBefore m.was hub
    → IsBefore feed hub → ServedBy g tells old now hub → Shows g tells old now first page.bytes page.is_mute lines page.shown
shows_by g tells old now first feed hub m lines page c submitter giver b =
    let s = c.says in
    let on : IsPrefix m.was.history now.log = subst (IsPrefix m.was.history) (sym b.log) submitter.history in
    let more = s.silent ++ c.rest in
    let all : lines ≡ s.said ++ more = c.are ∙ ap (λ w. w ++ c.rest) s.are ∙ append_assoc s.said s.silent c.rest in
    record {
      bytes = s.bytes;
      refused = hub.refused;
      waiting = b.waiting;
      served = b.served;
      told = subst (AreTold line_served tells now.log hub.refused (replies_in page.shown)) (sym all) (are_told line_served tells m now.log hub.refused s.said (replies_in page.shown) more on submitter.refused s.replies);
      given = feed.given;
      posted = hub.posted;
      posts = b.posts;
      first_given = prefix_trans feed.given feed.posted hub.posted c.fed.first giver.posted;
      once = once_first feed.given c.fed.first.0 (subst IsOnce (sym c.fed.first.1) c.fed.once);
      tasks = s.tasks;
    }

-- what a publisher alone changes is as it was
still_served : {S : Type 0} (g : Ghosts S) (tells : ℕ → Type 0) (old now : Keeping S) (k l : HubFacts) → ServedBy g tells old now k → IsSamePart k l → ServedBy g tells old now l
still_served g tells old now k l b p = record {
  log = b.log ∙ p.history;
  waiting = b.waiting;
  served = subst (λ r. HasServed g old now [] r b.waiting) p.refused b.served;
  posts = subst (Posts g tells now []) p.posted b.posts;
}

pub shows : {S : Type 0} (g : Ghosts S) (tells : ℕ → Type 0) (old now : Keeping S) (first last : Option (List ℕ)) (is_mute : Bool) (lines ls : List (List ℕ)) (shown : List Shown) (feed k l : HubFacts) (m : Member) (page : Printed)
    → Counted line_served tells first feed m lines page → ServedBy g tells old now k → IsSamePart k l → IsBefore m.was l → IsBefore feed l → last ≡ page.bytes → is_mute ≡ page.is_mute → ls ≡ lines → shown ≡ page.shown
    → Shows g tells old now first last is_mute ls shown
shows g tells old now first last is_mute lines ls shown feed k l m page c b part submitter giver bytes mute same are =
    subst (λ x. Shows g tells old now first x is_mute ls shown) (sym bytes)
    (subst (λ x. Shows g tells old now first page.bytes x ls shown) (sym mute)
    (subst (λ x. Shows g tells old now first page.bytes page.is_mute x shown) (sym same)
    (subst (Shows g tells old now first page.bytes page.is_mute lines) (sym are) (shows_by g tells old now first feed l m lines page c submitter giver (still_served g tells old now k l b part)))))

-- ---- where no task is printed

front_none : {A : Type 0} (xs ys : List A) → xs ++ ys ≡ [] → xs ≡ []
front_none [] ys e = refl
front_none (x ∷ xs) ys e = absurd (cc e)

no_tasks : (is : Bool) (xs : List Shown) → AreShown is [] xs → tasks_in xs ≡ []
no_tasks false xs e = e
no_tasks true xs (rest, e) = front_none (tasks_in xs) rest e

-- what was printed where no task was given, and its status
pub prints : {S : Type 0} (g : Ghosts S) (tells : ℕ → Type 0) (old now : Keeping S) (first last : Option (List ℕ)) (status : ℕ) (lines : List (List ℕ)) (k l : HubFacts) (m : Member) (page : Printed)
    → Counted line_command tells first nothing m lines page → ServedBy g tells old now k → IsSamePart k l → IsBefore m.was l → last ≡ page.bytes → status ≡ page.status → PrintsReplies g tells old now first last status
prints g tells old now first last status lines k l m page c kept part submitter bytes is =
    let s = c.says in
    let b = still_served g tells old now k l kept part in
    let on : IsPrefix m.was.history now.log = subst (IsPrefix m.was.history) (sym b.log) submitter.history in
    let more = s.silent ++ c.rest in
    record {
      is_mute = page.is_mute;
      shown = page.shown;
      bytes = subst (λ x. Holds first page.is_mute x page.shown) (sym bytes) s.bytes;
      are = subst (IsStatusOf page.is_mute page.shown) (sym is) s.status;
      none = no_tasks page.is_mute page.shown s.tasks;
      lines = s.said ++ more;
      refused = l.refused;
      waiting = b.waiting;
      served = b.served;
      told = are_told line_command tells m now.log l.refused s.said (replies_in page.shown) more on submitter.refused s.replies;
    }

-- it served a hub to which nothing was submitted before
pub served_on : {S : Type 0} (g : Ghosts S) (tells : ℕ → Type 0) (old now : Keeping S) (k l : HubFacts) (waiting : List Taken) → k ≡ nothing → Together (account_of g now) l → HasServed g old now k.refused l.refused waiting
    → Posts g tells now k.posted l.posted → ServedBy g tells old now l
served_on g tells old now k l waiting none t h p = record {
  log = t.log;
  waiting = waiting;
  served = subst (λ (x : HubFacts). HasServed g old now x.refused l.refused waiting) none h;
  posts = subst (λ (x : HubFacts). Posts g tells now x.posted l.posted) none p;
}

-- it has served such a hub to the end
pub served_all : {S : Type 0} (g : Ghosts S) (old now : Keeping S) (k l : HubFacts) → k ≡ nothing → GivesUp k.refused l.refused → HasServed g old now k.refused l.refused [] → HasServedAll g old now
served_all g old now k l none gives h = record {
  now = l.refused;
  given_up = subst (λ (x : HubFacts). GivesUp x.refused l.refused) none gives;
  served = subst (λ (x : HubFacts). HasServed g old now x.refused l.refused []) none h;
}

-- or until a fault ended it
pub ends_serving : {S : Type 0} (g : Ghosts S) (old now : Keeping S) (k l : HubFacts) (f : Fault) → k ≡ nothing → (waiting : List Taken) × EndsFor old now k.refused l.refused waiting f
    → (waiting : List Taken) × HasServed g old now k.refused l.refused waiting → EndsServing g old now f
ends_serving g old now k l f none how h = record {
  now = l.refused;
  how = (how.0, subst (λ (x : HubFacts). EndsFor old now x.refused l.refused how.0 f) none how.1);
  served = (h.0, subst (λ (x : HubFacts). HasServed g old now x.refused l.refused h.0) none h.1);
}
