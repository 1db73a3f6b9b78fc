-- What was printed of lines and tasks, and one more.
use Rattle.std.proofs.Common.{◌≡◌, ℕ, List, [], ◌∷◌, ◌++◌, Bool, true, false, Option, Some, slice_get, inl, inr, refl, sym, ap, ◌∙◌, subst, append_assoc, append-nil}
use Rattle.std.specs.Prelude.{◌⊎◌, max}
use Rattle.std.specs.Io.KnownBytes.{Appends}
use Rattle.std.proofs.KnownBytes.{Appends-nil, Appends-trans}
use Rattle.std.proofs.Math.Nat.{max-zero}
use Rattle.flow_base.specs.declared.command.Command.{Command}
use Rattle.flow_lines.specs.Driving.{answer_status, final_status}
use Rattle.flow_lines.specs.declared.reply.Line.{Line}
use Rattle.flow_lines.specs.declared.reply.Line.TheVariants as line
use Rattle.flow_lines.proofs.Answering.{status-append}
use Rattle.flow_base.specs.declared.submission.Taken.{Taken}
use Rattle.flow_base.specs.declared.task.Task.{Task}
use Rattle.flow_hub.specs.declared.fed.Fed.{Fed}
use Rattle.flow_hub.specs.declared.fed.Fed.TheVariants as fed
use Rattle.flow_hub.specs.declared.known.HubFacts.{HubFacts}
use Rattle.flow_hub.specs.declared.ticket.TicketFacts.{TicketFacts}
use Rattle.flow_hub.specs.Knowing.{IsBefore, nothing}
use Rattle.flow_hub.specs.Feeding.{HasFed}
use Rattle.flow_hub.specs.Submitting.{Member}
use Rattle.flow_hub.proofs.Growing.{before_trans}
use Rattle.flow_hub.proofs.Lists.{get_front}
use Rattle.flow_work.specs.Moments.{command_at}
use Rattle.flow_work.specs.Printing.{Printed, PrintsBy, PrintsNow, PrintsLine, PrintsTask, blank, shown_line, status_by, status_with}
use Rattle.flow_work.specs.Inputs.{Takes, lines_in}
use Rattle.flow_work.specs.Reading.{IsOf, IsPendingOf}
use Rattle.flow_work.specs.Silence.{EndsTaking, IsOver, IsSilent, Quits}
use Rattle.flow_work.specs.Telling.{TellsAll, HasTold}
use Rattle.flow_work.specs.Counting.{shown_bytes, tasks_in, replies_in, Holds, AreShown, Answered, AreAnswered, AreWaiting, IsStatusOf, Says, IsFed, Counts, Counted, PrintsFed, Goes}
use Rattle.flow_work.specs.declared.input.InputMessage.{InputMessage}
use Rattle.flow_work.specs.declared.input.InputMessage.TheVariants as input
use Rattle.flow_work.specs.declared.queue.Pending.{Pending}
use Rattle.flow_work.specs.declared.queue.Pending.TheVariants as pending
use Rattle.flow_work.specs.declared.shown.Shown.{Shown}
use Rattle.flow_work.specs.declared.shown.Shown.TheVariants as shown
use Rattle.flow_work.proofs.Telling.{told_as}

-- ---- the bytes, the tasks and the replies of one line more

bytes_more : (xs : List Shown) (x : Shown) → shown_bytes (xs ++ x ∷ []) ≡ shown_bytes xs ++ shown_line x
bytes_more [] x = append-nil (shown_line x)
bytes_more (y ∷ ys) x = ap (λ b. shown_line y ++ b) (bytes_more ys x) ∙ sym (append_assoc (shown_line y) (shown_bytes ys) (shown_line x))

tasks_more : (xs : List Shown) (t : Task) → tasks_in (xs ++ shown.Task t ∷ []) ≡ tasks_in xs ++ t ∷ []
tasks_more [] t = refl
tasks_more (shown.Task s ∷ xs) t = ap (λ r. s ∷ r) (tasks_more xs t)
tasks_more (shown.Reply l ∷ xs) t = tasks_more xs t

tasks_same : (xs : List Shown) (l : Line) → tasks_in (xs ++ shown.Reply l ∷ []) ≡ tasks_in xs
tasks_same [] l = refl
tasks_same (shown.Task s ∷ xs) l = ap (λ r. s ∷ r) (tasks_same xs l)
tasks_same (shown.Reply k ∷ xs) l = tasks_same xs l

replies_more : (xs : List Shown) (l : Line) → replies_in (xs ++ shown.Reply l ∷ []) ≡ replies_in xs ++ l ∷ []
replies_more [] l = refl
replies_more (shown.Task s ∷ xs) l = replies_more xs l
replies_more (shown.Reply k ∷ xs) l = ap (λ r. k ∷ r) (replies_more xs l)

replies_same : (xs : List Shown) (t : Task) → replies_in (xs ++ shown.Task t ∷ []) ≡ replies_in xs
replies_same [] t = refl
replies_same (shown.Task s ∷ xs) t = replies_same xs t
replies_same (shown.Reply k ∷ xs) t = ap (λ r. k ∷ r) (replies_same xs t)

-- whole or begun
holds_now : (first : Option (List ℕ)) (x : Shown) (old new : Printed) (is : Bool) → Holds first false old.bytes old.shown → PrintsNow x is old new → Holds first is new.bytes new.shown
holds_now first x old new false h p =
    subst (λ (s : List Shown). Appends first new.bytes (shown_bytes s)) (sym p.1)
    (subst (Appends first new.bytes) (sym (bytes_more old.shown x)) (Appends-trans first old.bytes new.bytes (shown_bytes old.shown) (shown_line x) h p.0))
holds_now first x old new true h p = (
  x,
  p.0.front,
  p.0.back,
  sym p.0.bytes_are,
  subst (λ (s : List Shown). Appends first new.bytes (shown_bytes s ++ p.0.front)) (sym p.1) (Appends-trans first old.bytes new.bytes (shown_bytes old.shown) p.0.front h p.0.written_are),
)

shown_task : (given : List Task) (t : Task) (old new : Printed) (is : Bool) → tasks_in old.shown ≡ given → PrintsNow (shown.Task t) is old new → AreShown is (given ++ t ∷ []) new.shown
shown_task given t old new false e p = ap tasks_in p.1 ∙ (tasks_more old.shown t ∙ ap (λ g. g ++ t ∷ []) e)
shown_task given t old new true e p = (t ∷ [], ap (λ (s : List Shown). tasks_in s ++ t ∷ []) p.1 ∙ ap (λ g. g ++ t ∷ []) e)

shown_reply : (given : List Task) (l : Line) (old new : Printed) (is : Bool) → tasks_in old.shown ≡ given → PrintsNow (shown.Reply l) is old new → AreShown is given new.shown
shown_reply given l old new false e p = ap tasks_in p.1 ∙ (tasks_same old.shown l ∙ e)
shown_reply given l old new true e p = ([], append-nil (tasks_in new.shown) ∙ (ap tasks_in p.1 ∙ e))

more_rest : (given : List Task) (t : Task) (xs : List Shown) → AreShown true given xs → AreShown true (given ++ t ∷ []) xs
more_rest given t xs e = (e.0 ++ t ∷ [], sym (append_assoc (tasks_in xs) e.0 (t ∷ [])) ∙ ap (λ g. g ++ t ∷ []) e.1)

-- ---- the status

status_more : (xs : List Line) (x : Line) → max (final_status xs) (answer_status x) ≡ final_status (xs ++ x ∷ [])
status_more xs x = ap (λ n. max (final_status xs) n) (sym (max-zero (answer_status x))) ∙ sym (status-append xs (x ∷ []))

pub three_most : (x : Line) → max 3 (answer_status x) ≡ 3
three_most (line.Of r) = refl
three_most line.Bad = refl
three_most (line.NotApplied c) = refl

status_most : (xs : List Shown) (x : Line) (was now : ℕ) → IsStatusOf false xs was → now ≡ max was (answer_status x) → IsStatusOf false (xs ++ shown.Reply x ∷ []) now
status_most xs x was now (inl e) is = inl (is ∙ (ap (λ n. max n (answer_status x)) e ∙ three_most x))
status_most xs x was now (inr e) is =
    inr (is ∙ (ap (λ n. max n (answer_status x)) e ∙ (status_more (replies_in xs) x ∙ ap final_status (sym (replies_more xs x)))))

status_same : (xs : List Shown) (t : Task) (n : ℕ) → IsStatusOf false xs n → IsStatusOf false (xs ++ shown.Task t ∷ []) n
status_same xs t n (inl e) = inl e
status_same xs t n (inr e) = inr (e ∙ ap final_status (sym (replies_same xs t)))

status_failed : (is : Bool) (xs : List Shown) → IsStatusOf is xs 3
status_failed false xs = inl refl
status_failed true xs = refl

-- behind a reply
status_reply : (x : Line) (old new : Printed) (was is : Bool) → is ≡ new.is_mute → PrintsBy (shown.Reply x) was old new → new.status ≡ status_with old.status x is → IsStatusOf was old.shown old.status
    → IsStatusOf new.is_mute new.shown new.status
status_reply x old new was true same p e s = subst (λ b. IsStatusOf b new.shown new.status) same e
status_reply x old new true false same p e s = absurd (cc (same, p.0))
status_reply x old new false false same p e s =
    let now : PrintsNow (shown.Reply x) false old new = subst (λ b. PrintsNow (shown.Reply x) b old new) (sym same) p in
    subst (λ b. IsStatusOf b new.shown new.status) same
    (subst (λ (xs : List Shown). IsStatusOf false xs new.status) (sym now.1) (status_most old.shown x old.status new.status s e))

-- behind a task
status_task : (t : Task) (old new : Printed) (was is : Bool) → is ≡ new.is_mute → PrintsBy (shown.Task t) was old new → new.status ≡ status_by old.status is → IsStatusOf was old.shown old.status
    → IsStatusOf new.is_mute new.shown new.status
status_task t old new was true same p e s = subst (λ b. IsStatusOf b new.shown new.status) same e
status_task t old new true false same p e s = absurd (cc (same, p.0))
status_task t old new false false same p e s =
    let now : PrintsNow (shown.Task t) false old new = subst (λ b. PrintsNow (shown.Task t) b old new) (sym same) p in
    subst (λ b. IsStatusOf b new.shown new.status) same
    (subst (λ (xs : List Shown). IsStatusOf false xs new.status) (sym now.1)
    (subst (IsStatusOf false (old.shown ++ shown.Task t ∷ [])) (sym e) (status_same old.shown t old.status s)))

-- ---- what stands later too

of_later : (k m : Member) → k.id ≡ m.id → IsBefore k.was m.was → (c : Command) (t : TicketFacts) → IsOf k c t → IsOf m c t
of_later k m same later c t is =
    let x : Taken = record { ticket = t.number; command = c } in
    (is.0 ∙ same, subst (λ (l : List Taken). slice_get l t.number ≡ Some x) later.asked.1 (get_front k.was.asked later.asked.0 t.number x is.1))

pub pending_later : (reads : List ℕ → Option Command) (tells : ℕ → Type 0) (k m : Member) → k.id ≡ m.id → IsBefore k.was m.was → (bytes : List ℕ) (p : Pending) → IsPendingOf reads tells k bytes p → IsPendingOf reads tells m bytes p
pending_later reads tells k m same later bytes (pending.Submitted t) w =
    record { command = w.command; at = w.at; told = w.told; is = w.is; ticket = of_later k m same later (command_at w.command w.at) t w.ticket }
pending_later reads tells k m same later bytes (pending.Known line) w = w

one_later : (reads : List ℕ → Option Command) (tells : ℕ → Type 0) (k m : Member) → k.id ≡ m.id → IsBefore k.was m.was → (bytes : List ℕ) (told : Line) → Answered reads tells k bytes told → Answered reads tells m bytes told
one_later reads tells k m same later bytes told a = record {
  pending = a.pending;
  seen = a.seen;
  waits = pending_later reads tells k m same later bytes a.pending a.waits;
  same = a.same ∙ same;
  before = before_trans a.seen.was k.was m.was a.before later;
  answer = a.answer;
}

answered_later : (reads : List ℕ → Option Command) (tells : ℕ → Type 0) (k m : Member) → k.id ≡ m.id → IsBefore k.was m.was → (ls : List (List ℕ)) (xs : List Line) → AreAnswered reads tells k ls xs → AreAnswered reads tells m ls xs
answered_later reads tells k m same later [] [] a = tt
answered_later reads tells k m same later [] (x ∷ xs) a = absurd a
answered_later reads tells k m same later (l ∷ ls) [] a = absurd a
answered_later reads tells k m same later (l ∷ ls) (x ∷ xs) a = (one_later reads tells k m same later l x a.0, answered_later reads tells k m same later ls xs a.1)

waiting_later : (reads : List ℕ → Option Command) (tells : ℕ → Type 0) (k m : Member) → k.id ≡ m.id → IsBefore k.was m.was → (ls : List (List ℕ)) (ps : List Pending) → AreWaiting reads tells k ls ps → AreWaiting reads tells m ls ps
waiting_later reads tells k m same later [] [] a = tt
waiting_later reads tells k m same later [] (p ∷ ps) a = absurd a
waiting_later reads tells k m same later (l ∷ ls) [] a = absurd a
waiting_later reads tells k m same later (l ∷ ls) (p ∷ ps) a = (pending_later reads tells k m same later l p a.0, waiting_later reads tells k m same later ls ps a.1)

says_later : (reads : List ℕ → Option Command) (tells : ℕ → Type 0) (first : Option (List ℕ)) (given : List Task) (k m : Member) (lines : List (List ℕ)) (page : Printed) → k.id ≡ m.id → IsBefore k.was m.was
    → Says reads tells first given k lines page → Says reads tells first given m lines page
says_later reads tells first given k m lines page same later s = record {
  bytes = s.bytes;
  tasks = s.tasks;
  said = s.said;
  silent = s.silent;
  are = s.are;
  replies = answered_later reads tells k m same later s.said (replies_in page.shown) s.replies;
  all = s.all;
  status = s.status;
}

-- ---- lists of lines by their parts

answered_more : (reads : List ℕ → Option Command) (tells : ℕ → Type 0) (m : Member) (ls : List (List ℕ)) (xs : List Line) (l : List ℕ) (x : Line) → AreAnswered reads tells m ls xs → Answered reads tells m l x → AreAnswered reads tells m (ls ++ l ∷ []) (xs ++ x ∷ [])
answered_more reads tells m [] [] l x a one = (one, tt)
answered_more reads tells m [] (y ∷ ys) l x a one = absurd a
answered_more reads tells m (k ∷ ks) [] l x a one = absurd a
answered_more reads tells m (k ∷ ks) (y ∷ ys) l x a one = (a.0, answered_more reads tells m ks ys l x a.1 one)

waiting_more : (reads : List ℕ → Option Command) (tells : ℕ → Type 0) (m : Member) (ls : List (List ℕ)) (ps : List Pending) (l : List ℕ) (p : Pending) → AreWaiting reads tells m ls ps → IsPendingOf reads tells m l p → AreWaiting reads tells m (ls ++ l ∷ []) (ps ++ p ∷ [])
waiting_more reads tells m [] [] l p a one = (one, tt)
waiting_more reads tells m [] (q ∷ qs) l p a one = absurd a
waiting_more reads tells m (k ∷ ks) [] l p a one = absurd a
waiting_more reads tells m (k ∷ ks) (q ∷ qs) l p a one = (a.0, waiting_more reads tells m ks qs l p a.1 one)

waiting_split : (reads : List ℕ → Option Command) (tells : ℕ → Type 0) (m : Member) (ls : List (List ℕ)) (ps qs : List Pending) → AreWaiting reads tells m ls (ps ++ qs)
    → (front : List (List ℕ)) × (back : List (List ℕ)) × (ls ≡ front ++ back) × AreWaiting reads tells m front ps × AreWaiting reads tells m back qs
waiting_split reads tells m ls [] qs a = ([], ls, refl, tt, a)
waiting_split reads tells m [] (p ∷ ps) qs a = absurd a
waiting_split reads tells m (l ∷ ls) (p ∷ ps) qs a =
    let r = waiting_split reads tells m ls ps qs a.1 in
    (l ∷ r.0, r.1, ap (λ x. l ∷ x) r.2, (a.0, r.3), r.4)

-- ---- one line that was read is told of

-- which lines are told of, behind one more
abbrev Tallied : (List ℕ → Option Command) → (ℕ → Type 0) → Member → List (List ℕ) → Bool → List Shown → Type 0
Tallied reads tells m lines is xs = (said : List (List ℕ)) × (silent : List (List ℕ)) × (lines ≡ said ++ silent) × AreAnswered reads tells m said (replies_in xs) × (is ≡ false → silent ≡ [])

tally_line : (reads : List ℕ → Option Command) (tells : ℕ → Type 0) (m : Member) (said : List (List ℕ)) (l : List ℕ) (x : Line) (old new : Printed) (is : Bool) → AreAnswered reads tells m said (replies_in old.shown) → Answered reads tells m l x → PrintsNow (shown.Reply x) is old new
    → Tallied reads tells m (said ++ l ∷ []) is new.shown
tally_line reads tells m said l x old new false a one p = (
  said ++ l ∷ [],
  [],
  sym (append-nil (said ++ l ∷ [])),
  subst (λ (s : List Shown). AreAnswered reads tells m (said ++ l ∷ []) (replies_in s)) (sym p.1)
      (subst (AreAnswered reads tells m (said ++ l ∷ [])) (sym (replies_more old.shown x)) (answered_more reads tells m said (replies_in old.shown) l x a one)),
  λ _. refl,
)
tally_line reads tells m said l x old new true a one p =
    (said, l ∷ [], refl, subst (λ (s : List Shown). AreAnswered reads tells m said (replies_in s)) (sym p.1) a, λ e. absurd (cc e))

line_by : (reads : List ℕ → Option Command) (tells : ℕ → Type 0) (first : Option (List ℕ)) (given : List Task) (m : Member) (said silent : List (List ℕ)) (l : List ℕ) (x : Line) (old new : Printed) (was : Bool) → Holds first was old.bytes old.shown → AreShown was given old.shown
    → AreAnswered reads tells m said (replies_in old.shown) → (was ≡ false → silent ≡ []) → Answered reads tells m l x → PrintsBy (shown.Reply x) was old new → IsStatusOf new.is_mute new.shown new.status → Says reads tells first given m ((said ++ silent) ++ l ∷ []) new
line_by reads tells first given m said silent l x old new false h t a all one p status =
    let r = tally_line reads tells m said l x old new new.is_mute a one p in
    let none : said ++ silent ≡ said = ap (λ w. said ++ w) (all refl) ∙ append-nil said in
    record {
      bytes = holds_now first (shown.Reply x) old new new.is_mute h p;
      tasks = shown_reply given x old new new.is_mute t p;
      said = r.0;
      silent = r.1;
      are = ap (λ w. w ++ l ∷ []) none ∙ r.2;
      replies = r.3;
      all = r.4;
      status = status;
    }
line_by reads tells first given m said silent l x old new true h t a all one p status = record {
  bytes =
      subst (λ b. Holds first b new.bytes new.shown) (sym p.0)
      (subst (λ b. Holds first true b new.shown) (sym p.1) (subst (Holds first true old.bytes) (sym p.2) h));
  tasks = subst (λ b. AreShown b given new.shown) (sym p.0) (subst (AreShown true given) (sym p.2) t);
  said = said;
  silent = silent ++ l ∷ [];
  are = append_assoc said silent (l ∷ []);
  replies = subst (λ (s : List Shown). AreAnswered reads tells m said (replies_in s)) (sym p.2) a;
  all = λ e. absurd (cc (p.0, e));
  status = status;
}

says_line : (reads : List ℕ → Option Command) (tells : ℕ → Type 0) (first : Option (List ℕ)) (given : List Task) (m : Member) (lines : List (List ℕ)) (l : List ℕ) (x : Line) (old new : Printed) → Says reads tells first given m lines old → Answered reads tells m l x → PrintsLine x old new
    → Says reads tells first given m (lines ++ l ∷ []) new
says_line reads tells first given m lines l x old new s one p =
    subst (λ w. Says reads tells first given m (w ++ l ∷ []) new) (sym s.are)
    (line_by reads tells first given m s.said s.silent l x old new old.is_mute s.bytes s.tasks s.replies s.all one p.0 (status_reply x old new old.is_mute new.is_mute refl p.0 p.1 s.status))

-- these lines are told of, one after the other
says_all : (reads : List ℕ → Option Command) (tells : ℕ → Type 0) (first : Option (List ℕ)) (given : List Task) (m : Member) (ls : List (List ℕ)) (ps : List Pending) (lines : List (List ℕ)) (old new : Printed) → AreWaiting reads tells m ls ps → TellsAll m ps old new
    → Says reads tells first given m lines old → Says reads tells first given m (lines ++ ls) new
says_all reads tells first given m [] [] lines old new w t s =
    subst (Says reads tells first given m (lines ++ [])) (sym t) (subst (λ x. Says reads tells first given m x old) (sym (append-nil lines)) s)
says_all reads tells first given m [] (p ∷ ps) lines old new w t s = absurd w
says_all reads tells first given m (l ∷ ls) [] lines old new w t s = absurd w
says_all reads tells first given m (l ∷ ls) (p ∷ ps) lines old new w t s =
    let one : Answered reads tells m l t.1.line = record { pending = p; seen = t.1.seen; waits = w.0; same = t.1.same; before = t.1.before; answer = t.1.answer } in
    subst (λ x. Says reads tells first given m x new) (append_assoc lines (l ∷ []) ls)
    (says_all reads tells first given m ls ps (lines ++ l ∷ []) t.0 new w.1 t.2 (says_line reads tells first given m lines l t.1.line old t.0 s one t.1.printed))

-- ---- a task is printed

task_by : (reads : List ℕ → Option Command) (tells : ℕ → Type 0) (first : Option (List ℕ)) (given : List Task) (m : Member) (lines said silent : List (List ℕ)) (t : Task) (old new : Printed) (was : Bool) → Holds first was old.bytes old.shown → AreShown was given old.shown
    → lines ≡ said ++ silent → AreAnswered reads tells m said (replies_in old.shown) → (was ≡ false → silent ≡ []) → PrintsBy (shown.Task t) was old new → IsStatusOf new.is_mute new.shown new.status → Says reads tells first (given ++ t ∷ []) m lines new
task_by reads tells first given m lines said silent t old new false h g are a all p status = record {
  bytes = holds_now first (shown.Task t) old new new.is_mute h p;
  tasks = shown_task given t old new new.is_mute g p;
  said = said;
  silent = silent;
  are = are;
  replies = answered_task new.is_mute p;
  all = λ _. all refl;
  status = status;
}
  where
    answered_task : (is : Bool) → PrintsNow (shown.Task t) is old new → AreAnswered reads tells m said (replies_in new.shown)
    answered_task false q = subst (λ (s : List Shown). AreAnswered reads tells m said (replies_in s)) (sym q.1) (subst (AreAnswered reads tells m said) (sym (replies_same old.shown t)) a)
    answered_task true q = subst (λ (s : List Shown). AreAnswered reads tells m said (replies_in s)) (sym q.1) a
task_by reads tells first given m lines said silent t old new true h g are a all p status = record {
  bytes =
      subst (λ b. Holds first b new.bytes new.shown) (sym p.0)
      (subst (λ b. Holds first true b new.shown) (sym p.1) (subst (Holds first true old.bytes) (sym p.2) h));
  tasks = subst (λ b. AreShown b (given ++ t ∷ []) new.shown) (sym p.0) (subst (AreShown true (given ++ t ∷ [])) (sym p.2) (more_rest given t old.shown g));
  said = said;
  silent = silent;
  are = are;
  replies = subst (λ (s : List Shown). AreAnswered reads tells m said (replies_in s)) (sym p.2) a;
  all = λ e. absurd (cc (p.0, e));
  status = status;
}

says_task : (reads : List ℕ → Option Command) (tells : ℕ → Type 0) (first : Option (List ℕ)) (given : List Task) (m : Member) (lines : List (List ℕ)) (t : Task) (old new : Printed) → Says reads tells first given m lines old → PrintsTask t old new → Says reads tells first (given ++ t ∷ []) m lines new
says_task reads tells first given m lines t old new s p = task_by reads tells first given m lines s.said s.silent t old new old.is_mute s.bytes s.tasks s.are s.replies s.all p.0 (status_task t old new old.is_mute new.is_mute refl p.0 p.1 s.status)

-- what was given out is printed
says_fed : (reads : List ℕ → Option Command) (tells : ℕ → Type 0) (first : Option (List ℕ)) (feed then : HubFacts) (m : Member) (lines : List (List ℕ)) (f : Fed) (old new : Printed) → HasFed feed then f → PrintsFed f old new → Says reads tells first feed.given m lines old
    → Says reads tells first then.given m lines new
says_fed reads tells first feed then m lines (fed.Task t) old new h p s = subst (λ g. Says reads tells first g m lines new) (sym h.next) (says_task reads tells first feed.given m lines t old new s p)
says_fed reads tells first feed then m lines fed.Nothing old new h p s = subst (λ g. Says reads tells first g m lines new) (sym h.0.next) (subst (Says reads tells first feed.given m lines) (sym p) s)
says_fed reads tells first feed then m lines fed.Closed old new h p s = subst (λ g. Says reads tells first g m lines new) (sym h.0.next) (subst (Says reads tells first feed.given m lines) (sym p) s)

is_fed : (feed then : HubFacts) (f : Fed) → HasFed feed then f → IsFed then
is_fed feed then (fed.Task t) h = record { first = h.first; once = h.once }
is_fed feed then fed.Nothing h = record { first = h.0.first; once = h.0.once }
is_fed feed then fed.Closed h = record { first = h.0.first; once = h.0.once }

-- ---- what the counter has, behind each of its steps

-- it has read and printed nothing
pub counts_none : (reads : List ℕ → Option Command) (tells : ℕ → Type 0) (first : Option (List ℕ)) (m : Member) → Counts reads tells first nothing m [] [] (blank first)
counts_none reads tells first m = record {
  done = [];
  waiting = [];
  are = refl;
  says = record { bytes = Appends-nil first; tasks = refl; said = []; silent = []; are = refl; replies = tt; all = λ _. refl; status = inr refl };
  waits = tt;
  fed = record { first = ([], refl); once = tt };
}

pub counted : (reads : List ℕ → Option Command) (tells : ℕ → Type 0) (first : Option (List ℕ)) (feed : HubFacts) (m : Member) (ps : List Pending) (lines : List (List ℕ)) (page : Printed) → Counts reads tells first feed m ps lines page → Counted reads tells first feed m lines page
counted reads tells first feed m ps lines page c = record { done = c.done; rest = c.waiting; are = c.are; says = c.says; fed = c.fed }

-- it is over
pub goes_over : (reads : List ℕ → Option Command) (tells : ℕ → Type 0) (first : Option (List ℕ)) (feed : HubFacts) (m : Member) (ps : List Pending) (lines : List (List ℕ)) (page : Printed) → Counted reads tells first feed m lines page → Goes reads tells first false feed m ps lines page
goes_over reads tells first feed m ps lines page c = ((λ e. absurd (cc e)), c)

-- the oldest lines are told of
told_part : (reads : List ℕ → Option Command) (tells : ℕ → Type 0) (first : Option (List ℕ)) (feed : HubFacts) (k m : Member) (on : Bool) (ps rest : List Pending) (lines : List (List ℕ)) (old new : Printed) → m.id ≡ k.id → IsBefore k.was m.was → HasTold m on ps rest old new
    → Counts reads tells first feed k ps lines old → Counted reads tells first feed m lines new
told_part reads tells first feed k m on ps rest lines old new same later h c =
    let waits = waiting_later reads tells k m (sym same) later c.waiting ps c.waits in
    let r = waiting_split reads tells m c.waiting h.told (h.silent ++ rest) (subst (AreWaiting reads tells m c.waiting) (sym h.rest) waits) in
    record {
      done = c.done ++ r.0;
      rest = r.1;
      are = c.are ∙ (ap (λ w. c.done ++ w) r.2 ∙ sym (append_assoc c.done r.0 r.1));
      says = says_all reads tells first feed.given m r.0 h.told c.done old new r.3 h.printed (says_later reads tells first feed.given k m c.done old (sym same) later c.says);
      fed = c.fed;
    }

pub told_on : (reads : List ℕ → Option Command) (tells : ℕ → Type 0) (first : Option (List ℕ)) (feed : HubFacts) (k m : Member) (ps rest : List Pending) (lines : List (List ℕ)) (old new : Printed) → m.id ≡ k.id → IsBefore k.was m.was → HasTold m true ps rest old new
    → Counts reads tells first feed k ps lines old → Counts reads tells first feed m rest lines new
told_on reads tells first feed k m ps rest lines old new same later h c =
    let waits = waiting_later reads tells k m (sym same) later c.waiting ps c.waits in
    let all : h.told ++ rest ≡ ps = subst (λ s. h.told ++ (s ++ rest) ≡ ps) (h.all refl) h.rest in
    let r = waiting_split reads tells m c.waiting h.told rest (subst (AreWaiting reads tells m c.waiting) (sym all) waits) in
    record {
      done = c.done ++ r.0;
      waiting = r.1;
      are = c.are ∙ (ap (λ w. c.done ++ w) r.2 ∙ sym (append_assoc c.done r.0 r.1));
      says = says_all reads tells first feed.given m r.0 h.told c.done old new r.3 h.printed (says_later reads tells first feed.given k m c.done old (sym same) later c.says);
      waits = r.4;
      fed = c.fed;
    }

pub goes_told : (reads : List ℕ → Option Command) (tells : ℕ → Type 0) (first : Option (List ℕ)) (feed : HubFacts) (k m : Member) (on : Bool) (ps rest : List Pending) (lines : List (List ℕ)) (old new : Printed) → m.id ≡ k.id → IsBefore k.was m.was → HasTold m on ps rest old new
    → Counts reads tells first feed k ps lines old → Goes reads tells first on feed m rest lines new
goes_told reads tells first feed k m on ps rest lines old new same later h c =
    ((λ e. told_on reads tells first feed k m ps rest lines old new same later (told_as m on true e h) c), told_part reads tells first feed k m on ps rest lines old new same later h c)

pub all_told : (reads : List ℕ → Option Command) (tells : ℕ → Type 0) (first : Option (List ℕ)) (feed : HubFacts) (k m : Member) (ps rest : List Pending) (lines : List (List ℕ)) (old new : Printed) → m.id ≡ k.id → IsBefore k.was m.was → HasTold m false ps rest old new
    → Counts reads tells first feed k ps lines old → Counted reads tells first feed m lines new
all_told reads tells first feed k m ps rest lines old new same later h c = told_part reads tells first feed k m false ps rest lines old new same later h c

-- one more is read
counts_more : (reads : List ℕ → Option Command) (tells : ℕ → Type 0) (first : Option (List ℕ)) (feed : HubFacts) (m : Member) (ps : List Pending) (p : Pending) (lines : List (List ℕ)) (l : List ℕ) (page : Printed) → IsPendingOf reads tells m l p → Counts reads tells first feed m ps lines page
    → Counts reads tells first feed m (ps ++ p ∷ []) (lines ++ l ∷ []) page
counts_more reads tells first feed m ps p lines l page one c = record {
  done = c.done;
  waiting = c.waiting ++ l ∷ [];
  are = ap (λ w. w ++ l ∷ []) c.are ∙ append_assoc c.done c.waiting (l ∷ []);
  says = c.says;
  waits = waiting_more reads tells m c.waiting ps l p c.waits one;
  fed = c.fed;
}

counted_more : (reads : List ℕ → Option Command) (tells : ℕ → Type 0) (first : Option (List ℕ)) (feed : HubFacts) (m : Member) (lines : List (List ℕ)) (l : List ℕ) (page : Printed) → Counted reads tells first feed m lines page → Counted reads tells first feed m (lines ++ l ∷ []) page
counted_more reads tells first feed m lines l page c = record {
  done = c.done;
  rest = c.rest ++ l ∷ [];
  are = ap (λ w. w ++ l ∷ []) c.are ∙ append_assoc c.done c.rest (l ∷ []);
  says = c.says;
  fed = c.fed;
}

-- a line is taken in, or it isn't
pub taken_in : (reads : List ℕ → Option Command) (tells : ℕ → Type 0) (first : Option (List ℕ)) (feed : HubFacts) (k m : Member) (ps now : List Pending) (lines : List (List ℕ)) (l : List ℕ) (old new : Printed) → m.id ≡ k.id → IsBefore k.was m.was
    → (p : Pending) × (rest : List Pending) × IsPendingOf reads tells m l p × (now ≡ rest ++ p ∷ []) × HasTold m true ps rest old new
    → Counts reads tells first feed k ps lines old → Counts reads tells first feed m now (lines ++ l ∷ []) new
taken_in reads tells first feed k m ps now lines l old new same later (p, rest, one, is, h) c =
    subst (λ w. Counts reads tells first feed m w (lines ++ l ∷ []) new) (sym is)
    (counts_more reads tells first feed m rest p lines l new one (told_on reads tells first feed k m ps rest lines old new same later h c))

pub taken_goes : (reads : List ℕ → Option Command) (tells : ℕ → Type 0) (first : Option (List ℕ)) (feed : HubFacts) (k m : Member) (on : Bool) (ps now : List Pending) (lines : List (List ℕ)) (l : List ℕ) (old new : Printed) → m.id ≡ k.id → IsBefore k.was m.was
    → (on ≡ true → (p : Pending) × (rest : List Pending) × IsPendingOf reads tells m l p × (now ≡ rest ++ p ∷ []) × HasTold m true ps rest old new)
    → (on ≡ false → HasTold m false ps now old new)
    → Counts reads tells first feed k ps lines old → Goes reads tells first on feed m now (lines ++ l ∷ []) new
taken_goes reads tells first feed k m true ps now lines l old new same later taken not_taken c =
    let more = taken_in reads tells first feed k m ps now lines l old new same later (taken refl) c in
    ((λ _. more), counted reads tells first feed m now (lines ++ l ∷ []) new more)
taken_goes reads tells first feed k m false ps now lines l old new same later taken not_taken c =
    ((λ e. absurd (cc e)), counted_more reads tells first feed m lines l new (told_part reads tells first feed k m false ps now lines old new same later (not_taken refl) c))

-- what was given out is printed
counts_fed : (reads : List ℕ → Option Command) (tells : ℕ → Type 0) (first : Option (List ℕ)) (feed then : HubFacts) (k m : Member) (ps rest : List Pending) (lines : List (List ℕ)) (f : Fed) (old new : Printed) → m ≡ k → rest ≡ ps → HasFed feed then f → PrintsFed f old new
    → Counts reads tells first feed k ps lines old → Counts reads tells first then m rest lines new
counts_fed reads tells first feed then k m ps rest lines f old new same left h p c =
    subst (λ x. Counts reads tells first then x rest lines new) (sym same)
    (subst (λ x. Counts reads tells first then k x lines new) (sym left) (record {
      done = c.done;
      waiting = c.waiting;
      are = c.are;
      says = says_fed reads tells first feed then k c.done f old new h p c.says;
      waits = c.waits;
      fed = is_fed feed then f h;
    }))

pub goes_fed : (reads : List ℕ → Option Command) (tells : ℕ → Type 0) (first : Option (List ℕ)) (on : Bool) (feed then : HubFacts) (k m : Member) (ps rest : List Pending) (lines : List (List ℕ)) (f : Fed) (old new : Printed) → m ≡ k → rest ≡ ps → HasFed feed then f
    → PrintsFed f old new → Counts reads tells first feed k ps lines old → Goes reads tells first on then m rest lines new
goes_fed reads tells first on feed then k m ps rest lines f old new same left h p c =
    let now = counts_fed reads tells first feed then k m ps rest lines f old new same left h p c in
    ((λ _. now), counted reads tells first then m rest lines new now)

pub counted_fed : (reads : List ℕ → Option Command) (tells : ℕ → Type 0) (first : Option (List ℕ)) (feed then : HubFacts) (k m : Member) (lines : List (List ℕ)) (f : Fed) (old new : Printed) → m ≡ k → HasFed feed then f → PrintsFed f old new
    → Counted reads tells first feed k lines old → Counted reads tells first then m lines new
counted_fed reads tells first feed then k m lines f old new same h p c =
    subst (λ x. Counted reads tells first then x lines new) (sym same) (record {
      done = c.done;
      rest = c.rest;
      are = c.are;
      says = says_fed reads tells first feed then k c.done f old new h p c.says;
      fed = is_fed feed then f h;
    })

-- something couldn't be read, and nothing is printed of it
pub counts_failed : (reads : List ℕ → Option Command) (tells : ℕ → Type 0) (first : Option (List ℕ)) (feed : HubFacts) (k m : Member) (ps rest : List Pending) (lines : List (List ℕ)) (old new : Printed) → m ≡ k → rest ≡ ps → new ≡ record old { status = 3 }
    → Counts reads tells first feed k ps lines old → Counts reads tells first feed m rest lines new
counts_failed reads tells first feed k m ps rest lines old new same left is c =
    let s = c.says in
    let now : Counts reads tells first feed k ps lines (record old { status = 3 }) = record {
      done = c.done;
      waiting = c.waiting;
      are = c.are;
      says = record { bytes = s.bytes; tasks = s.tasks; said = s.said; silent = s.silent; are = s.are; replies = s.replies; all = s.all; status = status_failed old.is_mute old.shown };
      waits = c.waits;
      fed = c.fed;
    } in
    subst (λ x. Counts reads tells first feed x rest lines new) (sym same)
    (subst (λ x. Counts reads tells first feed k x lines new) (sym left) (subst (Counts reads tells first feed k ps lines) (sym is) now))

-- ---- the same, of what is the same

pub counts_as : (reads : List ℕ → Option Command) (tells : ℕ → Type 0) (first : Option (List ℕ)) (feed : HubFacts) (m : Member) (ps : List Pending) (lines : List (List ℕ)) (page : Printed) → feed ≡ nothing → ps ≡ [] → lines ≡ [] → page ≡ blank first
    → Counts reads tells first feed m ps lines page
counts_as reads tells first feed m ps lines page a b d e =
    subst (λ x. Counts reads tells first x m ps lines page) (sym a)
    (subst (λ x. Counts reads tells first nothing m x lines page) (sym b)
    (subst (λ x. Counts reads tells first nothing m [] x page) (sym d) (subst (Counts reads tells first nothing m [] []) (sym e) (counts_none reads tells first m))))

pub counted_as : (reads : List ℕ → Option Command) (tells : ℕ → Type 0) (first : Option (List ℕ)) (feed then : HubFacts) (k m : Member) (lines ls : List (List ℕ)) (page now : Printed) → then ≡ feed → m ≡ k → ls ≡ lines → now ≡ page
    → Counted reads tells first feed k lines page → Counted reads tells first then m ls now
counted_as reads tells first feed then k m lines ls page now a b d e c =
    subst (λ x. Counted reads tells first x m ls now) (sym a)
    (subst (λ x. Counted reads tells first feed x ls now) (sym b) (subst (λ x. Counted reads tells first feed k x now) (sym d) (subst (Counted reads tells first feed k lines) (sym e) c)))

-- and later
pub counted_later : (reads : List ℕ → Option Command) (tells : ℕ → Type 0) (first : Option (List ℕ)) (feed : HubFacts) (k m : Member) (lines : List (List ℕ)) (page : Printed) → m.id ≡ k.id → IsBefore k.was m.was
    → Counted reads tells first feed k lines page → Counted reads tells first feed m lines page
counted_later reads tells first feed k m lines page same later c =
    record { done = c.done; rest = c.rest; are = c.are; says = says_later reads tells first feed.given k m c.done page (sym same) later c.says; fed = c.fed }

-- ---- why no line is taken in any more

-- the first of these that wait was read
first_waits : (reads : List ℕ → Option Command) (tells : ℕ → Type 0) (m : Member) (ls : List (List ℕ)) (p : Pending) (ps : List Pending) → AreWaiting reads tells m ls (p ∷ ps) → (bytes : List ℕ) × IsPendingOf reads tells m bytes p
first_waits reads tells m [] p ps a = absurd a
first_waits reads tells m (l ∷ ls) p ps a = (l, a.0)

silent_waits : (reads : List ℕ → Option Command) (tells : ℕ → Type 0) (m : Member) (ls : List (List ℕ)) (ps : List Pending) → AreWaiting reads tells m ls ps → IsSilent m ps → Quits reads tells m
silent_waits reads tells m ls ps a (inl closed) = inl closed
silent_waits reads tells m ls ps a (inr u) =
    let r = waiting_split reads tells m ls u.front (u.line ∷ u.back) (subst (AreWaiting reads tells m ls) u.are a) in
    let one = first_waits reads tells m r.1 u.line u.back r.4 in
    inr (record { bytes = one.0; line = u.line; waits = one.1; seen = u.seen; same = u.same; before = u.before; without = u.without })

-- one of the lines that waited has no answer
pub quits : (reads : List ℕ → Option Command) (tells : ℕ → Type 0) (first : Option (List ℕ)) (feed : HubFacts) (k m : Member) (ps : List Pending) (lines : List (List ℕ)) (page : Printed) → m.id ≡ k.id → IsBefore k.was m.was → IsSilent m ps → Counts reads tells first feed k ps lines page
    → Quits reads tells m
quits reads tells first feed k m ps lines page same later silent c =
    silent_waits reads tells m c.waiting ps (waiting_later reads tells k m (sym same) later c.waiting ps c.waits) silent

-- none waits, or one of them has no answer
pub over : (reads : List ℕ → Option Command) (tells : ℕ → Type 0) (first : Option (List ℕ)) (feed : HubFacts) (k m : Member) (ps rest : List Pending) (lines : List (List ℕ)) (page : Printed) → m.id ≡ k.id → IsBefore k.was m.was → (rest ≡ []) ⊎ IsSilent m ps
    → Counts reads tells first feed k ps lines page → (rest ≡ []) ⊎ Quits reads tells m
over reads tells first feed k m ps rest lines page same later (inl e) c = inl e
over reads tells first feed k m ps rest lines page same later (inr s) c = inr (quits reads tells first feed k m ps lines page same later s c)

pub ends_given : (reads : List ℕ → Option Command) (tells : ℕ → Type 0) (m : Member) (ps : List Pending) (n : ℕ) (given was : List InputMessage) (x : InputMessage) → given ≡ was ++ x ∷ [] → IsOver x ps n ⊎ Quits reads tells m → EndsTaking reads tells m ps n given
ends_given reads tells m ps n given was x e (inl off) = inl (was, x, e, off)
ends_given reads tells m ps n given was x e (inr q) = inr q

-- ---- the lines of what was given, and one more

lines_more : (xs : List InputMessage) (x : InputMessage) → lines_in (xs ++ x ∷ []) ≡ lines_in xs ++ lines_in (x ∷ [])
lines_more [] x = refl
lines_more (input.Line l ∷ xs) x = ap (λ r. l.items ∷ r) (lines_more xs x)
lines_more (input.Ended ∷ xs) x = lines_more xs x
lines_more (input.Failed ∷ xs) x = lines_more xs x
lines_more (input.Stopped ∷ xs) x = lines_more xs x

one_taken : (x : InputMessage) (was now : List (List ℕ)) → Takes x was now → now ≡ was ++ lines_in (x ∷ [])
one_taken (input.Line l) was now t = t
one_taken input.Ended was now t = t ∙ sym (append-nil was)
one_taken input.Failed was now t = t ∙ sym (append-nil was)
one_taken input.Stopped was now t = t ∙ sym (append-nil was)

pub lines_given : (given was : List InputMessage) (x : InputMessage) (old now : List (List ℕ)) → given ≡ was ++ x ∷ [] → Takes x old now → old ≡ lines_in was → now ≡ lines_in given
lines_given given was x old now e t is =
    one_taken x old now t ∙ (ap (λ l. l ++ lines_in (x ∷ [])) is ∙ (sym (lines_more was x) ∙ ap lines_in (sym e)))
