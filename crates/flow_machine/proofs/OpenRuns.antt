-- Open runs, listed: by their numbers, each at its place, with what it waits for.
use Rattle.std.proofs.Common.{◌≡◌, ℕ, zero, suc, ◌+◌, List, [], ◌∷◌, ◌++◌, length, map, take, drop, refl, sym, get_or, ap, ◌∙◌, ◌<◌, subst, arith, add-one, append_assoc, append-nil, drop-cons, Option, Some, None, Result, Ok, Err, Bool, true, false, inl, inr, Contains}
use Rattle.std.specs.Prelude.{◌⊎◌, slice_get, nat_le, ◌&&◌, if◌then◌else◌}
use Rattle.std.proofs.lemmas.List.{take-map}
use Rattle.std.proofs.lemmas.Option.{none-some}
use Rattle.flow_base.specs.Syntax.{Bytes, Program}
use Rattle.flow_base.specs.declared.event.Event.{Event}
use Rattle.flow_base.specs.declared.book.Run.{Run}
use Rattle.flow_base.specs.declared.book.OpenActivity.{OpenActivity}
use Rattle.flow_base.specs.declared.book.Change.{Change}
use Rattle.flow_base.specs.declared.command.Command.{Command}
use Rattle.flow_base.specs.declared.command.Command.TheVariants as command
use Rattle.flow_base.specs.declared.command.OpenRun.{OpenRun}
use Rattle.flow_base.specs.declared.command.OpenTask.{OpenTask}
use Rattle.flow_base.specs.declared.command.Reply.{Reply}
use Rattle.flow_base.specs.declared.command.Reply.TheVariants as reply
use Rattle.flow_model.specs.Configuration.{Configuration, is_open}
use Rattle.flow_model.specs.Rest as tree
use Rattle.flow_model.specs.Rest.{signals_awaited}
use Rattle.flow_model.specs.Open.{state_of}
use Rattle.flow_model.specs.Stands.{Stands}
use Rattle.flow_model.specs.Book.{Book, nth, run_number, open_from, open_runs, open_numbers}
use Rattle.flow_model.specs.Apply.{Rules, Outcome, program_at, with_named, named_by, named_tasks, signals_at, awaited, open_run_told, first_number, list_open, outcome}
use Rattle.flow_model.proofs.Positions.{position_computed}
use Rattle.flow_run.specs.Position.{config_of}
use Rattle.flow_run.specs.Shown.{waits_of}
use Rattle.flow_run.specs.declared.waits.OpenWait.{OpenWait}
use Rattle.flow_run.specs.declared.waits.OpenWait.TheVariants as wait
use Rattle.flow_run.specs.declared.stance.Stance.{Stance}
use Rattle.flow_view.specs.Heads.{head_of, head_if}
use Rattle.flow_view.specs.Reading.{Caused}
use Rattle.flow_view.specs.declared.fault.ViewFault.{ViewFault}
use Rattle.flow_view.specs.declared.fault.ViewFault.TheVariants as fault
use Rattle.flow_machine.proofs.Places.{nth_at}
use Rattle.flow_machine.proofs.Seating.{fit_on, its_history, place_stands}
use Rattle.flow_machine.specs.Deciding.{Decides}
use Rattle.flow_machine.specs.Fitting.{HasUnfit}
use Rattle.flow_machine.specs.Listed.{with_signal, signals_in, told_with, told_if, told_at, told_in, StuckAt, StuckIn}
use Rattle.flow_machine.specs.Reached.{Meaning}
use Rattle.flow_machine.specs.Seated.{FitSeats, IsPlace, KeepsAlike}
use Rattle.flow_machine.specs.Stuck.{HasMismatch, needs, StuckTold, StuckRuns, StuckOpen, IsStuck}
use Rattle.flow_machine.specs.declared.seats.Led.{Led}
use Rattle.flow_machine.specs.declared.seats.Seats.{Seats}

---- Lists, one element after the other

-- what an element gives, behind what those before it gave
pub put_more : {A B : Type 0} (f : List A → List B) (g : A → List B) → ((x : A) (xs : List A) → f (x ∷ xs) ≡ g x ++ f xs) → (whole : List B) (cut : List A) (x : A) (rest : List A) (before after : List B) → cut ≡ x ∷ rest
    → whole ≡ before ++ f cut → after ≡ before ++ g x → whole ≡ after ++ f rest
put_more f g step whole cut x rest before after is was now =
    was ∙ ap (λ l. before ++ f l) is ∙ ap (λ l. before ++ l) (step x rest) ∙ sym (append_assoc before (g x) (f rest)) ∙ ap (λ l. l ++ f rest) (sym now)

-- the elements at a place and behind it
pub cut_at : {A : Type 0} (xs : List A) (i : ℕ) (x : A) → i < length xs → x ≡ get_or xs i x → drop i xs ≡ x ∷ drop (i + 1) xs
cut_at xs i x within is = drop-cons xs i x within ∙ ap (λ y. y ∷ drop (suc i) xs) (sym is) ∙ ap (λ n. x ∷ drop n xs) (sym (add-one i))

-- behind the last of them there is none
pub all_done : {A B : Type 0} (f : List A → List B) → f [] ≡ [] → (whole : List B) (xs : List A) (i : ℕ) (before : List B) → drop i xs ≡ [] → whole ≡ before ++ f (drop i xs) → before ≡ whole
all_done f none whole xs i before ended was = sym (was ∙ ap (λ l. before ++ f l) ended ∙ ap (λ l. before ++ l) none ∙ append-nil before)

---- Open activities

behind_named : (o : Option OpenTask) (ts : List OpenTask) → with_named o ts ≡ with_named o [] ++ ts
behind_named None ts = refl
behind_named (Some t) ts = refl

pub one_named : (h : List Event) (whole : List OpenTask) (cut : List OpenActivity) (t : OpenActivity) (rest : List OpenActivity) (before after : List OpenTask) → cut ≡ t ∷ rest → whole ≡ before ++ named_tasks h cut → after ≡ before ++ with_named (named_by t (nth h t.event)) []
    → whole ≡ after ++ named_tasks h rest
one_named h = put_more (named_tasks h) (λ (t : OpenActivity). with_named (named_by t (nth h t.event)) []) (λ t ts. behind_named (named_by t (nth h t.event)) (named_tasks h ts))

---- What a run waits for

put_behind : (w : OpenWait) (xs ys : List Bytes) → with_signal w (xs ++ ys) ≡ with_signal w xs ++ ys
put_behind (wait.Activity n x k) xs ys = refl
put_behind (wait.Timer n) xs ys = refl
put_behind (wait.Signal x s) xs ys = refl
put_behind (wait.SignalFor x s n) xs ys = refl

pub one_signal : (whole : List Bytes) (cut : List OpenWait) (w : OpenWait) (rest : List OpenWait) (before after : List Bytes) → cut ≡ w ∷ rest → whole ≡ before ++ signals_in cut → after ≡ before ++ with_signal w []
    → whole ≡ after ++ signals_in rest
one_signal = put_more signals_in (λ (w : OpenWait). with_signal w []) (λ w ws. put_behind w [] (signals_in ws))

signals_joined : (a b : List OpenWait) → signals_in (a ++ b) ≡ signals_in a ++ signals_in b
signals_joined [] b = refl
signals_joined (w ∷ a) b = ap (with_signal w) (signals_joined a b) ∙ put_behind w (signals_in a) (signals_in b)

-- the signals among the open waits of a rest are those that it waits for
signals_are : (r : tree.Rest) → signals_in (waits_of r) ≡ signals_awaited r
signals_are tree.Done = refl
signals_are (tree.OnActivity n x k o) = refl
signals_are (tree.OnTimer n) = refl
signals_are (tree.OnSignal x s) = refl
signals_are (tree.OnSignalFor x s n b) = refl
signals_are (tree.Raised c t) = refl
signals_are (tree.Then r b) = signals_are r
signals_are (tree.Beside a b) = signals_joined (waits_of a) (waits_of b) ∙ (λ i. signals_are a i ++ signals_are b i)

pub awaited_are : (m : Meaning) (b : Book) (r : Run) (p : Program) (k : Configuration) → program_at m b r.text ≡ Some p → Stands p r.history k → signals_in (waits_of k.rest) ≡ awaited (program_at m b r.text) r
awaited_are m b r p k reads stands =
    signals_are k.rest ∙ sym (ap (λ (o : Option Program). awaited o r) reads ∙ ap signals_at (position_computed p r.history k stands))

-- where a run stands whose history was read
pub place_here : (m : Meaning) (b : Book) (seats : Seats) (run : ℕ) (r : Run) (s : Stance) (p : Program) → nth b.runs run ≡ Some r → program_at m b r.text ≡ Some p → FitSeats m b seats → IsPlace seats run r.text (length r.history) s
    → Stands p r.history (config_of p s)
place_here m b seats run r s p there reads fit is =
    subst (λ h. Stands p h (config_of p s)) (its_history b run r (sym there)) (place_stands m b seats run (head_of r) s p (ap head_if there) reads fit is)

-- seats that keep the same, and have the same ahead, are fit for the same book
pub fit_less : (m : Meaning) (b : Book) (old new : Seats) → FitSeats m b old → KeepsAlike old new → new.ahead.items ≡ old.ahead.items → FitSeats m b new
fit_less m b old new fit alike ahead = fit_on m b [] old new new None fit alike ahead (λ (l : Led) there. inl there) refl tt

---- Runs by their numbers

-- each stands at its number
abbrev pub AreThere : List Run → List (ℕ × Run) → Type 0
AreThere all [] = Unit {0}
AreThere all (p ∷ ps) = (nth all p.0 ≡ Some p.1) × AreThere all ps

put_there : (all : List Run) (n : ℕ) (r : Run) (ps : List (ℕ × Run)) (t : Bool) → nth all n ≡ Some r → AreThere all ps → AreThere all (if t then (n, r) ∷ ps else ps)
put_there all n r ps true here rest = (here, rest)
put_there all n r ps false here rest = rest

open_are_there : (all : List Run) (from n : ℕ) (rs : List Run) → ((i : ℕ) (r : Run) → slice_get rs i ≡ Some r → nth all (n + i) ≡ Some r) → AreThere all (open_from from n rs)
open_are_there all from n [] h = tt
open_are_there all from n (r ∷ rs) h =
    let none : n ≡ n + 0 = omega arith in
    let later : (i : ℕ) (q : Run) → slice_get rs i ≡ Some q → nth all (n + 1 + i) ≡ Some q = λ i q e. (let more : n + 1 + i ≡ n + suc i = omega arith in ap (nth all) more ∙ h (suc i) q e) in
    put_there all n r (open_from from (n + 1) rs) (nat_le from n && is_open (state_of r.history)) (ap (nth all) none ∙ h 0 r refl) (open_are_there all from (n + 1) rs later)

pub open_there : (b : Book) (from : ℕ) → AreThere b.runs (open_runs b from)
open_there b from = open_are_there b.runs from 1 b.runs (λ i r e. nth_at b.runs (1 + i) i (omega arith) ∙ e)

pub first_there : (all : List Run) (n : ℕ) (ps : List (ℕ × Run)) → AreThere all ps → AreThere all (take n ps)
first_there all zero ps h = tt
first_there all (suc n) [] h = tt
first_there all (suc n) (p ∷ ps) h = (h.0, first_there all n ps h.1)

module _ (m : Meaning) (b : Book) where
  told_are : (ps : List (ℕ × Run)) → AreThere b.runs ps → told_in m b (map run_number ps) ≡ map (open_run_told m b) ps
  told_are [] h = refl
  told_are (p ∷ ps) h = ap (λ o. told_if m b p.0 o ++ told_in m b (map run_number ps)) h.0 ∙ ap (λ l. open_run_told m b p ∷ l) (told_are ps h.1)

  stuck_are : (ps : List (ℕ × Run)) → AreThere b.runs ps → StuckIn m b (map run_number ps) → StuckRuns m b ps
  stuck_are [] h stuck = stuck
  stuck_are (p ∷ ps) h (inl stuck) = inl (subst (λ o. needs o (StuckTold m b)) h.0 stuck)
  stuck_are (p ∷ ps) h (inr stuck) = inr (stuck_are ps h.1 stuck)

  -- one run
  pub told_one : (n : ℕ) (r : Run) (o : OpenRun) (waits : List Bytes) → nth b.runs n ≡ Some r → waits ≡ awaited (program_at m b r.text) r → o ≡ told_with n r waits → told_at m b n ≡ o ∷ []
  told_one n r o waits there are is = ap (told_if m b n) there ∙ ap (λ (ws : List Bytes). told_with n r ws ∷ []) (sym are) ∙ ap (λ x. x ∷ []) (sym is)

  pub stuck_missing : (n : ℕ) → nth b.runs n ≡ None → StuckAt m b n
  stuck_missing n none = subst (λ o. needs o (StuckTold m b)) (sym none) tt

  pub stuck_unread : (n : ℕ) (r : Run) → nth b.runs n ≡ Some r → program_at m b r.text ≡ None → StuckAt m b n
  stuck_unread n r there none =
      subst (λ o. needs o (StuckTold m b)) (sym there) (subst (λ o. needs o (λ p. HasMismatch p r.history)) (sym none) tt)

  pub stuck_mismatch : (n : ℕ) (r : Run) (p : Program) → nth b.runs n ≡ Some r → program_at m b r.text ≡ Some p → HasMismatch p r.history → StuckAt m b n
  stuck_mismatch n r p there reads mismatch =
      subst (λ o. needs o (StuckTold m b)) (sym there) (subst (λ o. needs o (λ q. HasMismatch q r.history)) (sym reads) mismatch)

---- The list

cut_is : (n : ℕ) (xs : List ℕ) → take n (take (suc n) xs) ≡ take n xs
cut_is zero xs = refl
cut_is (suc n) [] = refl
cut_is (suc n) (x ∷ xs) = ap (λ l. x ∷ l) (cut_is n xs)

next_is : (n : ℕ) (ps : List (ℕ × Run)) → slice_get (take (suc n) (map run_number ps)) n ≡ first_number (drop n ps)
next_is zero [] = refl
next_is zero (p ∷ ps) = refl
next_is (suc n) [] = refl
next_is (suc n) (p ∷ ps) = next_is n ps

-- what was read is one number more than is told
module _ (m : Meaning) (old now : Book) (from most up : ℕ) (numbers cut : List ℕ) (one_more : up ≡ most + 1) (read : (now ≡ old) × (numbers ≡ open_numbers old from up)) (kept : cut ≡ take most numbers) where
  abbrev ps : List (ℕ × Run)
  ps = open_runs old from

  numbers_are : numbers ≡ take (suc most) (map run_number ps)
  numbers_are = read.1 ∙ ap (λ n. take n (map run_number ps)) (one_more ∙ add-one most)

  cut_are : cut ≡ map run_number (take most ps)
  cut_are = kept ∙ ap (take most) numbers_are ∙ cut_is most (map run_number ps) ∙ take-map run_number most ps

  there : AreThere old.runs (take most ps)
  there = first_there old.runs most ps (open_there old from)

  pub list_decides : (new : Book) (next : Option ℕ) (runs : List OpenRun) → next ≡ slice_get numbers most → runs ≡ told_in m now cut → new ≡ now → Decides old new (reply.Open runs next) [] (list_open m old from most)
  unfolding list_open
  list_decides new next runs at told still =
      let all : runs ≡ map (open_run_told m old) (take most ps) = told ∙ (λ i. told_in m (read.0 i) (cut_are i)) ∙ told_are m old (take most ps) there in
      let behind : next ≡ first_number (drop most ps) = at ∙ ap (λ (xs : List ℕ). slice_get xs most) numbers_are ∙ next_is most ps in
      record { reply_is = λ i. reply.Open (all i) (behind i); changes_are = refl; book_is = still ∙ read.0 }

  pub list_stuck : StuckIn m now cut → StuckOpen m old from most
  unfolding StuckOpen
  list_stuck stuck = stuck_are m old (take most ps) there (subst (StuckIn m old) cut_are (subst (λ (b : Book). StuckIn m b cut) read.0 stuck))

---- What is said of the list is said of the command.

pub caused_on : {A : Type 0} (r : Result A ViewFault) (X Y : Type 0) → (X → Y) → Caused r X → Caused r Y
caused_on (Ok x) X Y f h = tt
caused_on (Err (fault.NoMemory n)) X Y f h = tt
caused_on (Err fault.StoreRefused) X Y f h = f h

module _ (u : Rules) (b : Book) (from most : ℕ) (c : Command) (is : c ≡ command.Open from most) where
  pub open_decides : (P : Outcome → Type 0) → P (list_open u.program_of b from most) → P (outcome u b c)
  unfolding outcome
  open_decides P h = subst (λ (x : Command). P (outcome u b x)) (sym is) h

  side : (refuses unfit : Type 0) → refuses ⊎ StuckOpen u.program_of b from most → refuses ⊎ (IsStuck u b c ⊎ unfit)
  unfolding IsStuck
  side refuses unfit (inl h) = inl h
  side refuses unfit (inr h) = inr (inl (subst (λ (x : Command). IsStuck u b x) (sym is) h))

  pub open_cause : {A : Type 0} (result : Result A ViewFault) (refuses : Type 0) (unfit : Book → Change → Type 0) → Caused result (refuses ⊎ StuckOpen u.program_of b from most)
      → Caused result (refuses ⊎ (IsStuck u b c ⊎ HasUnfit unfit b (outcome u b c).changes))
  open_cause result refuses unfit h =
      caused_on result (refuses ⊎ StuckOpen u.program_of b from most) (refuses ⊎ (IsStuck u b c ⊎ HasUnfit unfit b (outcome u b c).changes)) (side refuses (HasUnfit unfit b (outcome u b c).changes)) h
