-- What a run has reached, it has reached for good.
use Rattle.std.proofs.Common.{◌≡◌, ℕ, zero, suc, ◌+◌, ◌-◌, List, [], ◌∷◌, ◌++◌, length, refl, sym, ap, ◌∙◌, subst, arith, Option, Some, None, length-append, append-nil, true, false}
use Rattle.std.specs.Prelude.{IfSome, slice_get, slice_set, nat_eq, if◌then◌else◌}
use Rattle.std.proofs.lemmas.Option.{none-some, same_Some}
use Rattle.std.proofs.lemmas.List.{append_assoc}
use Rattle.std.proofs.lemmas.Bool.{eqb-true, eqb-false}
use Rattle.flow_base.specs.Syntax.{Bytes, Program}
use Rattle.flow_base.specs.declared.event.Cmd.{Cmd}
use Rattle.flow_base.specs.declared.event.Event.{Event}
use Rattle.flow_base.specs.declared.event.Input.TheVariants.{Started}
use Rattle.flow_base.specs.declared.book.Run.{Run}
use Rattle.flow_base.specs.declared.book.Turn.{Turn}
use Rattle.flow_base.specs.declared.book.Change.{Change}
use Rattle.flow_base.specs.declared.book.Change.TheVariants.{AddText, AddRun, AddTurn, SetAttempt, SetText}
use Rattle.flow_model.specs.Configuration.{Configuration, first_configuration}
use Rattle.flow_model.specs.Turn.{Fresh}
use Rattle.flow_model.specs.Turned.{turn_events}
use Rattle.flow_model.specs.Stands.{Leads, Stands}
use Rattle.flow_model.specs.Book.{Book, nth, changed, changed_by, with_run, with_turn, with_attempt, with_text, unbegun_run}
use Rattle.flow_model.specs.Apply.{program_at, program_if, outcome}
use Rattle.flow_model.proofs.OneMore.{stands_on, stands_first}
use Rattle.flow_model.proofs.Positions.{turned_is}
use Rattle.flow_run.specs.Position.{config_of}
use Rattle.flow_run.specs.declared.stance.Stance.{Stance}
use Rattle.flow_machine.proofs.Places.{nth_kept, nth_place, nth_at, get_past, get_set_same}
use Rattle.flow_machine.specs.Seated.{IsTextLed, LeadsTo}
use Rattle.flow_machine.specs.declared.seats.Led.{Led}
use Rattle.flow_machine.specs.Reached.{Meaning, HasReached, ReachedStays, ReachedStaysAfter, ReachedStands, StandingIsReached, TurnReaches, FirstTurnReaches}

---- How many events a standing history has

leads_events : (p : Program) (n : ℕ) (due : List Cmd) (k : Configuration) (h : List Event) (k' : Configuration) → Leads p n due k h k' → k'.events + length due ≡ k.events + length h
leads_events p n due k [] k' l =
    let none : length due ≡ 0 = ap length l.0 in
    let same : k.events ≡ k'.events = ap (λ (q : Configuration). q.events) l.1 in
    omega (arith, none, same)
leads_events p n [] k (e ∷ later) k' l =
    let turn = l.1.1.0.2.2 in
    let next : l.1.0.events ≡ k.events + 1 + length turn.last.asked = ap (λ (q : Configuration). q.events) turn.leaves in
    let asked : length l.0 ≡ length turn.last.asked = ap length turn.asks in
    let rest = leads_events p (suc n) l.0 l.1.0 later k' l.1.1.1 in
    omega (arith, next, asked, rest)
leads_events p n (c ∷ due) k (e ∷ later) k' l =
    let same : l.1.0.events ≡ k.events = ap (λ (q : Configuration). q.events) l.1.1.0.4 in
    let left : length l.0 ≡ length due = ap length l.1.1.0.3 in
    let rest = leads_events p (suc n) l.0 l.1.0 later k' l.1.1.1 in
    omega (arith, same, left, rest)

-- where a history stands, the run has its events
pub stands_events : (p : Program) (h : List Event) (k : Configuration) → Stands p h k → k.events ≡ length h
stands_events p h k s = let all = leads_events p 1 [] first_configuration h k s.1 in omega (arith, all)

---- Later books

-- a list that is longer by nothing
same_front : {A : Type 0} (xs ys zs : List A) → zs ≡ xs ++ ys → length xs ≡ length zs → xs ≡ zs
same_front xs [] zs cut same = sym (append-nil xs) ∙ sym cut
same_front xs (y ∷ ys) zs cut same =
    let long : length zs ≡ length (xs ++ y ∷ ys) = ap length cut in
    let more = length-append xs (y ∷ ys) in
    absurd (omega (arith, same, long, more))

pub reached_stands : ReachedStands
reached_stands m b run text s r p h there reads events =
    let same_run : h.its_run ≡ r = same_Some h.its_run r (sym h.there ∙ there) in
    let same_program : h.program ≡ p = same_Some h.program p (sym h.reads ∙ reads) in
    let stands : Stands p h.before (config_of p s) = subst (λ (q : Program). Stands q h.before (config_of q s)) same_program h.stands in
    let cut : r.history ≡ h.before ++ h.later = sym (ap (λ (q : Run). q.history) same_run) ∙ h.cut in
    let whole : h.before ≡ r.history = same_front h.before h.later r.history cut (sym (stands_events p h.before (config_of p s) stands) ∙ events) in
    subst (λ (es : List Event). Stands p es (config_of p s)) whole stands

pub standing_is_reached : StandingIsReached
standing_is_reached m b run text s r p there reads stands =
    record { its_run = r; there = there; program = p; reads = reads; before = r.history; later = []; cut = sym (append-nil r.history); stands = stands }

-- Another book has the run with a history that goes on, and the text.
pub record GoesOn (b c : Book) (n : ℕ) (r : Run) : Type 0 where
  pub its_run : Run
  pub there : nth c.runs n ≡ Some its_run
  pub more : List Event
  pub grown : its_run.history ≡ r.history ++ more
  pub texts : List Bytes
  pub longer : c.texts ≡ b.texts ++ texts

pub kept_text : (m : Meaning) (b c : Book) (n : ℕ) (p : Program) (more : List Bytes) → c.texts ≡ b.texts ++ more → program_at m b n ≡ Some p → program_at m c n ≡ Some p
kept_text m b c n p more longer reads =
    elim (nth b.texts n) as (λ o. nth b.texts n ≡ o → elim o [ None ↦ None | Some body ↦ program_if (m body) ] ≡ Some p → program_at m c n ≡ Some p) [
      | None ↦ λ e v. absurd (none-some p v)
      | Some t ↦ λ e v. ap (λ (o : Option Bytes). elim o [ None ↦ None | Some body ↦ program_if (m body) ]) (ap (λ (ts : List Bytes). nth ts n) longer ∙ nth_kept b.texts more n t e) ∙ v
    ] refl reads

reached_on : (m : Meaning) (b c : Book) (run text : ℕ) (s : Stance) (h : HasReached m b run text s) → GoesOn b c run h.its_run → HasReached m c run text s
reached_on m b c run text s h g =
    record {
      its_run = g.its_run;
      there = g.there;
      program = h.program;
      reads = kept_text m b c text h.program g.texts g.longer h.reads;
      before = h.before;
      later = h.later ++ g.more;
      cut = g.grown ∙ ap (λ (es : List Event). es ++ g.more) h.cut ∙ append_assoc h.before h.later g.more;
      stands = h.stands;
    }

---- A run in another place of the list

get_set_other : {A : Type 0} (xs : List A) (i j : ℕ) (y : A) → (i ≡ j → ⊥) → slice_get (slice_set xs i y) j ≡ slice_get xs j
get_set_other [] i j y differ = refl
get_set_other (x ∷ xs) zero zero y differ = absurd (differ refl)
get_set_other (x ∷ xs) zero (suc j) y differ = refl
get_set_other (x ∷ xs) (suc i) zero y differ = refl
get_set_other (x ∷ xs) (suc i) (suc j) y differ = get_set_other xs i j y (λ e. differ (ap suc e))

-- what has a number has a place
placed : {A : Type 0} (xs : List A) (n : ℕ) (x : A) → nth xs n ≡ Some x → n ≡ suc (n - 1)
placed xs n x e =
    elim (nat_eq n 0) as (λ t. nat_eq n 0 ≡ t → (if t then None else slice_get xs (n - 1)) ≡ Some x → n ≡ suc (n - 1)) [
      | true ↦ λ t h. absurd (none-some x h)
      | false ↦ λ t h. let some = eqb-false n 0 t in omega (arith, some)
    ] refl e

nth_set_same : {A : Type 0} (xs : List A) (n : ℕ) (x y : A) → nth xs n ≡ Some x → nth (slice_set xs (n - 1) y) n ≡ Some y
nth_set_same xs n x y e = nth_at (slice_set xs (n - 1) y) n (n - 1) (placed xs n x e) ∙ get_set_same xs (n - 1) x y (nth_place xs n x e)

nth_set_other : {A : Type 0} (xs : List A) (i n : ℕ) (x z y : A) → nth xs i ≡ Some z → nth xs n ≡ Some x → (i ≡ n → ⊥) → nth (slice_set xs (i - 1) y) n ≡ Some x
nth_set_other xs i n x z y at e differ =
    let first = placed xs i z at in
    let second = placed xs n x e in
    nth_at (slice_set xs (i - 1) y) n (n - 1) second ∙ get_set_other xs (i - 1) (n - 1) y (λ same. differ (omega (arith, first, second, same))) ∙ nth_place xs n x e

---- Each change

stays : (b : Book) (n : ℕ) (r : Run) → nth b.runs n ≡ Some r → GoesOn b b n r
stays b n r there = record { its_run = r; there = there; more = []; grown = sym (append-nil r.history); texts = []; longer = sym (append-nil b.texts) }

-- what a change of a run makes of histories
abbrev Grows : (Run → Run) → Type 0
Grows f = (r : Run) → (more : List Event) × ((f r).history ≡ r.history ++ more)

put_in : (b : Book) (i n : ℕ) (f : Run → Run) (q r : Run) → Grows f → nth b.runs i ≡ Some q → nth b.runs n ≡ Some r → GoesOn b (record b { runs = slice_set b.runs (i - 1) (f q) }) n r
put_in b i n f q r grows at there =
    elim (nat_eq i n) as (λ t. nat_eq i n ≡ t → GoesOn b (record b { runs = slice_set b.runs (i - 1) (f q) }) n r) [
      | true ↦ λ t.
          let same : i ≡ n = eqb-true i n t in
          let one : q ≡ r = same_Some q r (sym at ∙ ap (nth b.runs) same ∙ there) in
          record {
            its_run = f q;
            there = subst (λ m. nth (slice_set b.runs (i - 1) (f q)) m ≡ Some (f q)) same (nth_set_same b.runs i q (f q) at);
            more = (grows q).0;
            grown = (grows q).1 ∙ ap (λ (x : Run). x.history ++ (grows q).0) one;
            texts = [];
            longer = sym (append-nil b.texts);
          }
      | false ↦ λ t.
          record {
            its_run = r;
            there = nth_set_other b.runs i n r q (f q) at there (eqb-false i n t);
            more = [];
            grown = sym (append-nil r.history);
            texts = [];
            longer = sym (append-nil b.texts);
          }
    ] refl

in_run : (b : Book) (i n : ℕ) (f : Run → Run) (r : Run) → Grows f → nth b.runs n ≡ Some r → GoesOn b (with_run b i f) n r
in_run b i n f r grows there =
    elim (nth b.runs i) as (λ o. nth b.runs i ≡ o → GoesOn b (elim o [ None ↦ b | Some q ↦ record b { runs = slice_set b.runs (i - 1) (f q) } ]) n r) [
      | None ↦ λ at. stays b n r there
      | Some q ↦ λ at. put_in b i n f q r grows at there
    ] refl

turn_grows : (t : Turn) → Grows (with_turn t)
turn_grows t r = (turn_events (length r.history + 1) t.at t.input t.commands, refl)

attempt_grows : (event attempt ready : ℕ) → Grows (with_attempt event attempt ready)
attempt_grows event attempt ready r = ([], sym (append-nil r.history))

text_grows : (text : ℕ) → Grows (with_text text)
text_grows text r = ([], sym (append-nil r.history))

goes_on : (b : Book) (c : Change) (n : ℕ) (r : Run) → nth b.runs n ≡ Some r → GoesOn b (changed b c) n r
goes_on b (AddText body) n r there = record { its_run = r; there = there; more = []; grown = sym (append-nil r.history); texts = body ∷ []; longer = refl }
goes_on b (AddRun flow request text t) n r there =
    record {
      its_run = r;
      there = nth_kept b.runs (with_turn t (unbegun_run flow request text) ∷ []) n r there;
      more = [];
      grown = sym (append-nil r.history);
      texts = [];
      longer = sym (append-nil b.texts);
    }
goes_on b (AddTurn run t) n r there = in_run b run n (with_turn t) r (turn_grows t) there
goes_on b (SetAttempt run event attempt ready) n r there = in_run b run n (with_attempt event attempt ready) r (attempt_grows event attempt ready) there
goes_on b (SetText run text) n r there = in_run b run n (with_text text) r (text_grows text) there

pub reached_changed : (m : Meaning) (b : Book) (run text : ℕ) (s : Stance) (c : Change) → HasReached m b run text s → HasReached m (changed b c) run text s
reached_changed m b run text s c h = reached_on m b (changed b c) run text s h (goes_on b c run h.its_run h.there)

pub reached_stays : ReachedStays
reached_stays m b run text s [] h = h
reached_stays m b run text s (c ∷ cs) h = reached_stays m (changed b c) run text s cs (reached_changed m b run text s c h)

pub reached_stays_after : ReachedStaysAfter
reached_stays_after u b run text s [] h = h
reached_stays_after u b run text s (c ∷ cs) h =
    reached_stays_after u (changed_by b (outcome u b c).changes) run text s cs (reached_stays u.program_of b run text s (outcome u b c).changes h)

---- One more turn

abbrev put_by : Book → ℕ → (Run → Run) → Option Run → Book
put_by b n f o = elim o [ None ↦ b | Some q ↦ record b { runs = slice_set b.runs (n - 1) (f q) } ]

turn_there : (b : Book) (run : ℕ) (r : Run) (t : Turn) → nth b.runs run ≡ Some r → nth (changed b (AddTurn run t)).runs run ≡ Some (with_turn t r)
turn_there b run r t there =
    elim (nth b.runs run) as (λ o. nth b.runs run ≡ o → o ≡ Some r → nth (put_by b run (with_turn t) o).runs run ≡ Some (with_turn t r)) [
      | None ↦ λ at e. absurd (none-some r e)
      | Some q ↦ λ at e. nth_set_same b.runs run q (with_turn t q) at ∙ ap (λ (x : Run). Some (with_turn t x)) (same_Some q r e)
    ] refl there

pub turn_texts : (b : Book) (run : ℕ) (t : Turn) → (changed b (AddTurn run t)).texts ≡ b.texts
turn_texts b run t = elim (nth b.runs run) as (λ o. (put_by b run (with_turn t) o).texts ≡ b.texts) [ None ↦ refl | Some q ↦ refl ]

pub turn_reaches : TurnReaches
turn_reaches m b run text s t r p at i cs there reads stands moment leads =
    let turn : Turn = record { at = at; input = i; commands = cs } in
    record {
      its_run = with_turn turn r;
      there = turn_there b run r turn there;
      program = p;
      reads = kept_text m b (changed b (AddTurn run turn)) text p [] (turn_texts b run turn ∙ sym (append-nil b.texts)) reads;
      before = r.history ++ turn_events (length r.history + 1) at i cs;
      later = [];
      cut = sym (append-nil (r.history ++ turn_events (length r.history + 1) at i cs));
      stands = stands_on p r.history (config_of p s) at i cs (config_of p t) stands moment (turned_is p Fresh (config_of p s) at i cs (config_of p t) leads);
    }

last_there : {A : Type 0} (xs : List A) (x : A) → nth (xs ++ x ∷ []) (length xs + 1) ≡ Some x
last_there xs x = nth_at (xs ++ x ∷ []) (length xs + 1) (length xs) (omega arith) ∙ get_past xs (x ∷ []) (length xs) 0 (omega arith)

pub first_turn_reaches : FirstTurnReaches
first_turn_reaches m b flow request text t p at vs cs reads leads =
    let turn : Turn = record { at = at; input = Started vs; commands = cs } in
    let one = with_turn turn (unbegun_run flow request text) in
    record {
      its_run = one;
      there = last_there b.runs one;
      program = p;
      reads = kept_text m b (changed b (AddRun flow request text turn)) text p [] (sym (append-nil b.texts)) reads;
      before = turn_events 1 at (Started vs) cs;
      later = [];
      cut = sym (append-nil (turn_events 1 at (Started vs) cs));
      stands = stands_first p at (Started vs) cs (config_of p t) (turned_is p Fresh first_configuration at (Started vs) cs (config_of p t) leads);
    }

-- A run that goes on under another text stands where its history does under that.
pub text_leads : (m : Meaning) (b : Book) (run text : ℕ) (r : Run) (p : Program) (cs : List Change) (o : Option Led)
    → nth b.runs run ≡ Some r → program_at m b text ≡ Some p → IfSome o (IsTextLed p r.history run text) → IfSome o (LeadsTo m b cs)
text_leads m b run text r p cs None there reads led = tt
text_leads m b run text r p cs (Some l) there reads led =
    reached_stays m b l.run l.text l.stance cs
    (subst (λ n. HasReached m b n l.text l.stance) (sym led.its_run) (subst (λ n. HasReached m b run n l.stance) (sym led.its_text) (standing_is_reached m b run text l.stance r p there reads led.stands)))
