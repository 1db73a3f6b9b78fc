-- What is known of positions that deciding may use stays known.
use Rattle.std.proofs.Common.{◌≡◌, ◌≤◌, ℕ, suc, arith, List, [], ◌∷◌, refl, sym, ap, ◌∙◌, subst, append-nil, length-append, Option, Some, None, Contains, inl, inr}
use Rattle.std.specs.Prelude.{◌⊎◌, ◌+◌, length, max, IfSome}
use Rattle.std.proofs.Math.Nat.{le-max_right}
use Rattle.std.proofs.lemmas.Option.{none-some, same_Some}
use Rattle.flow_base.specs.Syntax.{Bytes, Program}
use Rattle.flow_base.specs.declared.event.Cmd.{Cmd}
use Rattle.flow_base.specs.declared.event.Input.{Input}
use Rattle.flow_base.specs.declared.event.Input.TheVariants.{Started}
use Rattle.flow_base.specs.declared.value.Value.{Value}
use Rattle.flow_base.specs.declared.book.Change.{Change}
use Rattle.flow_base.specs.declared.book.Change.TheVariants.{AddRun, AddTurn}
use Rattle.flow_base.specs.declared.book.Run.{Run}
use Rattle.flow_base.specs.declared.book.Turn.{Turn}
use Rattle.flow_model.specs.Configuration.{Configuration}
use Rattle.flow_model.specs.Open.{moment_of}
use Rattle.flow_model.specs.Turn.{Fresh}
use Rattle.flow_model.specs.Turned.{turned}
use Rattle.flow_model.specs.Stands.{Stands}
use Rattle.flow_model.specs.Book.{Book, nth, changed, changed_by, unbegun_run, with_turn}
use Rattle.flow_model.specs.Apply.{program_at}
use Rattle.flow_run.specs.Position.{config_of}
use Rattle.flow_run.specs.declared.stance.Stance.{Stance}
use Rattle.flow_cache.specs.declared.positions.Entry.{Entry}
use Rattle.flow_cache.specs.Entries.{Entries, Kept, HasEvents, used, without_entry}
use Rattle.flow_cache.proofs.Entries.{found_has_it, used_have_it, used_keeps, kept_have_it, without_within}
use Rattle.flow_view.specs.Heads.{head_of, head_if, head_at}
use Rattle.flow_view.specs.declared.head.Head.{Head}
use Rattle.flow_machine.proofs.GoingOn.{first_turn_reaches, kept_text, reached_stands, reached_stays, turn_reaches, turn_texts}
use Rattle.flow_machine.proofs.Standing.{stands_moment}
use Rattle.flow_machine.specs.ByHead.{history_if, history_at}
use Rattle.flow_machine.specs.Reached.{Meaning, HasReached}
use Rattle.flow_machine.specs.Seated.{AreAlike, ReachedIn, FitSeats, HasNone, IsWithin, KeepsAlike, IsSame, IsCopy, IsCopyAhead, IsPlace, Grows, KeepsOne, KeepsAll, WasThere, Settles, without_entries, LeadsTo, LeadsNext, IsFirstLed, IsNextLed}
use Rattle.flow_machine.specs.declared.seats.Led.{Led}
use Rattle.flow_machine.specs.declared.seats.Seats.{Seats}

---- A position that is found

reached_same : (m : Meaning) (b : Book) (run text : ℕ) (s t : Stance) → IsSame s t → HasReached m b run text t → HasReached m b run text s
reached_same m b run text s t same h =
    record {
      its_run = h.its_run;
      there = h.there;
      program = h.program;
      reads = h.reads;
      before = h.before;
      later = h.later;
      cut = h.cut;
      stands = subst (Stands h.program h.before) (sym (same h.program)) h.stands;
    }

ahead_reached : (m : Meaning) (b : Book) (seats : Seats) (run text events : ℕ) (s : Stance) → FitSeats m b seats → IsCopyAhead seats.ahead.items run text events s → HasReached m b run text s
ahead_reached m b seats run text events s fit is =
    let l = is.0 in
    let at = is.1.1.0 in
    let h : HasReached m b l.run l.text l.stance = fit.ahead l is.1.0 in
    let its_run : HasReached m b run l.text l.stance = subst (λ n. HasReached m b n l.text l.stance) at.its_run h in
    let its_text : HasReached m b run text l.stance = subst (λ n. HasReached m b run n l.stance) at.its_text its_run in
    reached_same m b run text s l.stance is.1.1.1 its_text

kept_reached : (m : Meaning) (b : Book) (seats : Seats) (run text events : ℕ) (s : Stance) → FitSeats m b seats → IsCopy seats.kept.entries run text events s → HasReached m b run text s
kept_reached m b seats run text events s fit is =
    reached_same m b run text s is.0 is.1.1 (found_has_it (ReachedIn m b) seats.kept.entries run text events is.0 fit.kept is.1.0)

pub place_reached : (m : Meaning) (b : Book) (seats : Seats) (run text events : ℕ) (s : Stance) → FitSeats m b seats → IsPlace seats run text events s → HasReached m b run text s
place_reached m b seats run text events s fit (inl is) = ahead_reached m b seats run text events s fit is
place_reached m b seats run text events s fit (inr is) = kept_reached m b seats run text events s fit is

same_events : (s t : Stance) (events : ℕ) → IsSame s t → HasEvents t events → HasEvents s events
same_events s t events same counts p = ap (λ (k : Configuration). k.events) (same p) ∙ counts p

pub place_counts : (seats : Seats) (run text events : ℕ) (s : Stance) → IsPlace seats run text events s → HasEvents s events
place_counts seats run text events s (inl is) = same_events s is.0.stance events is.1.1.1 is.1.1.0.counts
place_counts seats run text events s (inr is) = same_events s is.0 events is.1.1 is.1.0.1

-- with as many events as the run's head has, it is where the whole history stands
pub head_stands : (m : Meaning) (b : Book) (run : ℕ) (h : Head) (s : Stance) (p : Program) → head_at b.runs run ≡ Some h → program_at m b h.text ≡ Some p → HasReached m b run h.text s → HasEvents s h.events
    → Stands p (history_at b.runs run) (config_of p s)
head_stands m b run h s p there reads reached counts =
    elim (nth b.runs run) as (λ (o : Option Run). nth b.runs run ≡ o → head_if o ≡ Some h → Stands p (history_if o) (config_of p s)) [
      | None ↦ λ at is. absurd (none-some h is)
      | Some r ↦ λ at is.
          let same : head_of r ≡ h = same_Some (head_of r) h is in
          let events : (config_of p s).events ≡ length r.history = counts p ∙ sym (ap (λ (x : Head). x.events) same) in
          reached_stands m b run h.text s r p reached at reads events
    ] refl there

pub place_stands : (m : Meaning) (b : Book) (seats : Seats) (run : ℕ) (h : Head) (s : Stance) (p : Program) → head_at b.runs run ≡ Some h → program_at m b h.text ≡ Some p → FitSeats m b seats → IsPlace seats run h.text h.events s
    → Stands p (history_at b.runs run) (config_of p s)
place_stands m b seats run h s p there reads fit is =
    head_stands m b run h s p there reads (place_reached m b seats run h.text h.events s fit is) (place_counts seats run h.text h.events s is)

-- a run that isn't there has no head
pub no_head : (b : Book) (run : ℕ) (h : Head) → None ≡ nth b.runs run → head_at b.runs run ≡ Some h → ⊥
no_head b run h none there = absurd (none-some h (ap head_if none ∙ there))

pub its_history : (b : Book) (run : ℕ) (r : Run) → Some r ≡ nth b.runs run → history_at b.runs run ≡ r.history
its_history b run r is = sym (ap history_if is)

---- Lists

pub none_in : {A : Type 0} (x : A) → Contains [] x → ⊥
none_in x c = let within = c.1 in absurd (omega (arith, within))

pub first_in : {A : Type 0} (x : A) (xs : List A) → Contains (x ∷ xs) x
first_in x xs = (0, omega arith, refl)

pub later_in : {A : Type 0} (x y : A) (xs : List A) → Contains xs x → Contains (y ∷ xs) x
later_in x y xs c = let within = c.1 in (suc c.0, omega (arith, within), c.2)

-- an iterator that gave one
pub gave_first : {A : Type 0} (before after : List A) (x : A) → before ≡ x ∷ after → Contains before x
gave_first {A = A} before after x is = subst (λ (xs : List A). Contains xs x) (sym is) (first_in x after)

pub gave_later : {A : Type 0} (before after : List A) (x y : A) → before ≡ x ∷ after → Contains after y → Contains before y
gave_later {A = A} before after x y is c = subst (λ (xs : List A). Contains xs y) (sym is) (later_in y x after c)

---- What is kept

within_used : (run : ℕ) (es : Entries) → IsWithin es (used run es)
within_used run es e there = used_have_it (λ n x. Contains es (n, x)) run es (λ n x c. c) e.0 e.1 there

pub alike_as : (run : ℕ) (old new : Kept) → new ≡ record { entries = used run old.entries; capacity = old.capacity } → AreAlike old.entries new.entries
alike_as run old new is = subst (λ (k : Kept). AreAlike old.entries k.entries) (sym is) (within_used run old.entries, used_keeps run old.entries)

-- and so by several calls
pub alike_on : (old mid new : Seats) → KeepsAlike old mid → KeepsAlike mid new → KeepsAlike old new
alike_on old mid new one two = (λ e there. one.0 e (two.0 e there), λ e there. two.1 e (one.1 e there))

-- of a list whose entries were there before, or stand in a list, one more from that list is kept
pub one_kept : (base : Entries) (ls : List Led) (old new : Kept) (l : Led) → ((e : ℕ × Entry) → Contains old.entries e → WasThere base ls e) → Contains ls l → KeepsOne old l new → (e : ℕ × Entry) → Contains new.entries e → WasThere base ls e
one_kept base ls old new l before there (inl is) e in_new =
    kept_have_it (λ n y. WasThere base ls (n, y)) l.run (record { text = l.text; stance = l.stance }) old (λ n y c. before (n, y) c) (inr there) e.0 e.1 (subst (λ (k : Kept). Contains k.entries e) is in_new)
one_kept base ls old new l before there (inr is) e in_new = before e (subst (λ (k : Kept). Contains k.entries e) is in_new)

---- Seats that change

-- seats that keep the same, and have nothing ahead but what was, and what the changes lead to
pub fit_on : (m : Meaning) (b : Book) (cs : List Change) (old between new : Seats) (o : Option Led) → FitSeats m b old → KeepsAlike old between → between.ahead.items ≡ old.ahead.items → Grows between o new → new.kept ≡ between.kept → IfSome o (LeadsTo m b cs)
    → FitSeats m (changed_by b cs) new
fit_on m b cs old between new o fit alike ahead grows kept leads =
    record {
      kept = λ run e there.
          let before = alike.0 (run, e) (subst (λ (k : Kept). Contains k.entries (run, e)) kept there) in
          reached_stays m b run e.text e.stance cs (fit.kept run e before);
      ahead = λ l there. led_on l (grows l there);
    }
  where
    led_by : (l : Led) → o ≡ Some l → HasReached m (changed_by b cs) l.run l.text l.stance
    led_by l is = subst (λ (q : Option Led). IfSome q (LeadsTo m b cs)) is leads

    led_on : (l : Led) → Contains between.ahead.items l ⊎ (o ≡ Some l) → HasReached m (changed_by b cs) l.run l.text l.stance
    led_on l (inl before) = reached_stays m b l.run l.text l.stance cs (fit.ahead l (subst (λ (ls : List Led). Contains ls l) ahead before))
    led_on l (inr is) = led_by l is

-- the same seats, over a book that went on
pub fit_still : (m : Meaning) (b : Book) (cs : List Change) (seats : Seats) → FitSeats m b seats → FitSeats m (changed_by b cs) seats
fit_still m b cs seats fit =
    record {
      kept = λ run e there. reached_stays m b run e.text e.stance cs (fit.kept run e there);
      ahead = λ l there. reached_stays m b l.run l.text l.stance cs (fit.ahead l there);
    }

-- seats that have none are fit for every book
pub none_fit : (m : Meaning) (b : Book) (seats : Seats) → HasNone seats → FitSeats m b seats
none_fit m b seats none =
    record {
      kept = λ run e there. absurd (none_in (run, e) (subst (λ (es : Entries). Contains es (run, e)) none.kept there));
      ahead = λ l there. absurd (none_in l (subst (λ (ls : List Led). Contains ls l) none.ahead there));
    }

-- each entry that is left was there
within_all : (runs : List ℕ) (k : Kept) → IsWithin k.entries (without_entries runs k).entries
within_all [] k e there = there
within_all (run ∷ runs) k e there = without_within run k e (within_all runs (without_entry run k) e there)

pub settles_all : (old new : Seats) → Settles old new → KeepsAll old.kept old.ahead.items new.kept
settles_all old new settles e there = settles.all e (within_all old.over.items settles.between e (subst (λ (k : Kept). Contains k.entries e) settles.gone there))

-- once what stands ahead is kept, all is fit that was
pub settle_fit : (m : Meaning) (b : Book) (old new : Seats) → FitSeats m b old → Settles old new → new.ahead.items ≡ [] → FitSeats m b new
settle_fit m b old new fit settles none =
    record {
      kept = λ run e there. was_fit run e (settles_all old new settles (run, e) there);
      ahead = λ l there. absurd (none_in l (subst (λ (ls : List Led). Contains ls l) none there));
    }
  where
    was_fit : (run : ℕ) (e : Entry) → WasThere old.kept.entries old.ahead.items (run, e) → ReachedIn m b run e
    was_fit run e (inl before) = fit.kept run e before
    was_fit run e (inr ahead) = fit.ahead (record { run = run; text = e.text; stance = e.stance }) ahead

---- Where a turn leads

-- a run with this head, which stands at s, takes its turn at the greater of two moments
module _ (m : Meaning) (b : Book) (run : ℕ) (h : Head) (s : Stance) (p : Program) (at : ℕ) (i : Input) (cs : List Cmd) (l : Led) where
  abbrev its_turn : Turn
  its_turn = record { at = max at h.moment; input = i; commands = cs }

  leads_here : (r : Run) → nth b.runs run ≡ Some r → head_of r ≡ h → program_at m b h.text ≡ Some p → Stands p r.history (config_of p s) → turned p Fresh (config_of p s) (max at h.moment) i ≡ Some (cs, config_of p l.stance)
      → HasReached m (changed b (AddTurn run its_turn)) run h.text l.stance
  leads_here r there same reads stands leads =
      let last : (config_of p s).moment ≤ max at (moment_of r.history) = subst (λ n. n ≤ max at (moment_of r.history)) (stands_moment p r.history (config_of p s) stands) (le-max_right at (moment_of r.history)) in
      let moment : (config_of p s).moment ≤ max at h.moment = subst (λ n. (config_of p s).moment ≤ max at n) (ap (λ (x : Head). x.moment) same) last in
      turn_reaches m b run h.text s l.stance r p (max at h.moment) i cs there reads stands moment leads

  pub turn_leads : (changes rest : List Change) → head_at b.runs run ≡ Some h → program_at m b h.text ≡ Some p → Stands p (history_at b.runs run) (config_of p s)
      → l.run ≡ run → l.text ≡ h.text → turned p Fresh (config_of p s) (max at h.moment) i ≡ Some (cs, config_of p l.stance)
      → changes ≡ AddTurn run (record { at = max at h.moment; input = i; commands = cs }) ∷ rest → LeadsTo m b changes l
  turn_leads changes rest there reads stands its_run its_text leads made =
      let reached : HasReached m (changed b (AddTurn run its_turn)) run h.text l.stance =
      elim (nth b.runs run) as (λ (o : Option Run). nth b.runs run ≡ o → head_if o ≡ Some h → Stands p (history_if o) (config_of p s) → HasReached m (changed b (AddTurn run its_turn)) run h.text l.stance) [
        | None ↦ λ at_none is st. absurd (none-some h is)
        | Some r ↦ λ at_run is st. leads_here r at_run (same_Some (head_of r) h is) reads st leads
      ] refl there stands
      in
      let later : HasReached m (changed_by b (AddTurn run its_turn ∷ rest)) run h.text l.stance = reached_stays m (changed b (AddTurn run its_turn)) run h.text l.stance rest reached in
      let over : HasReached m (changed_by b changes) run h.text l.stance = subst (λ (ds : List Change). HasReached m (changed_by b ds) run h.text l.stance) (sym made) later in
      let with_text : HasReached m (changed_by b changes) run l.text l.stance = subst (λ n. HasReached m (changed_by b changes) run n l.stance) (sym its_text) over in
      subst (λ n. HasReached m (changed_by b changes) n l.text l.stance) (sym its_run) with_text

-- a run that begins with its first turn
pub first_leads : (m : Meaning) (b : Book) (flow : Bytes) (request : Option Bytes) (text at : ℕ) (vs : List Value) (p : Program) (t : Turn) (s : Stance) (l : Led) (changes : List Change) → program_at m b text ≡ Some p → IsFirstLed p at vs t s
    → changes ≡ AddRun flow request text t ∷ [] → l ≡ record { run = length b.runs + 1; text = text; stance = s } → LeadsTo m b changes l
first_leads m b flow request text at vs p t s l changes reads led listed is =
    let turn : Turn = record { at = at; input = Started vs; commands = led.commands } in
    let reached : HasReached m (changed b (AddRun flow request text turn)) (length b.runs + 1) text s = first_turn_reaches m b flow request text s p at vs led.commands reads led.leads in
    let over : HasReached m (changed b (AddRun flow request text t)) (length b.runs + 1) text s = subst (λ (x : Turn). HasReached m (changed b (AddRun flow request text x)) (length b.runs + 1) text s) (sym led.made) reached in
    let here : HasReached m (changed_by b changes) (length b.runs + 1) text s = subst (λ (cs : List Change). HasReached m (changed_by b cs) (length b.runs + 1) text s) (sym listed) over in
    subst (λ (x : Led). HasReached m (changed_by b changes) x.run x.text x.stance) (sym is) here

pub begun_leads : (m : Meaning) (b : Book) (flow : Bytes) (request : Option Bytes) (text at number : ℕ) (vs : List Value) (p : Program) (t : Turn) (s : Stance) (o : Option Led) (changes : List Change) → program_at m b text ≡ Some p → IsFirstLed p at vs t s
    → changes ≡ AddRun flow request text t ∷ [] → number ≡ length b.runs + 1 → IfSome o (λ l. l ≡ record { run = number; text = text; stance = s }) → IfSome o (LeadsTo m b changes)
begun_leads m b flow request text at number vs p t s None changes reads led listed count is = tt
begun_leads m b flow request text at number vs p t s (Some l) changes reads led listed count is =
    first_leads m b flow request text at vs p t s l changes reads led listed (is ∙ ap (λ n. record { run = n; text = text; stance = s }) count)

-- and so is the run as which another one continues
pub next_leads : (m : Meaning) (b : Book) (h : Head) (p : Program) (run : ℕ) (cs : List Change) (o : Option Stance) → program_at m b h.text ≡ Some p → IfSome o (IsNextLed p h run cs) → IfSome o (LeadsNext m b cs h.text)
next_leads m b h p run cs None reads it = tt
next_leads m b h p run cs (Some s) reads it =
    let mid = changed b (AddTurn run it.turn) in
    let begun = it.led in
    let reads_on : program_at m mid h.text ≡ Some p = kept_text m b mid h.text p [] (turn_texts b run it.turn ∙ sym (append-nil b.texts)) reads in
    let led : IsFirstLed p begun.at begun.arguments begun.turn s = subst (IsFirstLed p begun.at begun.arguments begun.turn) it.there begun.led in
    let l : Led = record { run = length mid.runs + 1; text = h.text; stance = s } in
    let next : Change = AddRun h.flow None h.text begun.turn in
    let reached : HasReached m (changed mid next) (length mid.runs + 1) h.text s = first_leads m mid h.flow None h.text begun.at begun.arguments p begun.turn s l (next ∷ []) reads_on led refl refl in
    let count : length (changed mid next).runs ≡ length mid.runs + 1 = length-append mid.runs (with_turn begun.turn (unbegun_run h.flow None h.text) ∷ []) in
    let here : HasReached m (changed mid next) (length (changed mid next).runs) h.text s = subst (λ n. HasReached m (changed mid next) n h.text s) (sym count) reached in
    let made : cs ≡ AddTurn run it.turn ∷ next ∷ [] = it.made ∙ ap (λ (c : Change). AddTurn run it.turn ∷ c ∷ []) begun.made in
    subst (λ (ds : List Change). LeadsNext m b ds h.text s) (sym made) here

-- The run that was put last stands at a position, and no other seat has changed.
pub last_fit : (m : Meaning) (b : Book) (text number : ℕ) (s : Stance) (o : Option Led) (old new : Seats) → FitSeats m b old → number ≡ length b.runs → IfSome o (λ l. l ≡ record { run = number; text = text; stance = s }) → HasReached m b (length b.runs) text s
    → Grows old o new → new.kept ≡ old.kept → FitSeats m b new
last_fit m b text number s o old new fit count led reached grows kept = fit_on m b [] old old new o fit (λ e there. there, λ e there. there) refl grows kept (stands o led)
  where
    stands : (q : Option Led) → IfSome q (λ l. l ≡ record { run = number; text = text; stance = s }) → IfSome q (LeadsTo m b [])
    stands None is = tt
    stands (Some l) is = subst (λ (x : Led). HasReached m b x.run x.text x.stance) (sym is) (subst (λ n. HasReached m b n text s) (sym count) reached)

-- what the changes lead to is led to in the book that has them
pub next_over : (m : Meaning) (b now : Book) (cs : List Change) (text : ℕ) (o : Option Stance) → now ≡ changed_by b cs → IfSome o (LeadsNext m b cs text) → IfSome o (HasReached m now (length now.runs) text)
next_over m b now cs text None is led = tt
next_over m b now cs text (Some s) is led = subst (λ (c : Book). HasReached m c (length c.runs) text s) (sym is) led
