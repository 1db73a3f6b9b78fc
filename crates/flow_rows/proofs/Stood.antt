-- Tables stand for a sound and orderly book that they tell: its texts are programs, and its runs keep the rules of the tables. What texts
-- mean is whatever keeps to `Means`.
use Rattle.std.proofs.Common.{◌≡◌, ℕ, zero, suc, ◌+◌, ◌<◌, ◌≤◌, pos, List, [], ◌∷◌, ◌++◌, map, length, Bool, true, false, not, if◌then◌else◌, Option, Some, None, Result, Ok, Err, is_ok, slice_get, refl, sym, ap, ◌∙◌, subst, arith}
use Rattle.std.specs.Prelude.{All}
use Rattle.std.specs.List.{AllByRecursion}
use Rattle.std.specs.Ordering.{int_eq}
use Rattle.std.proofs.lemmas.Option.{none-some, same_Some, slice_get_within}
use Rattle.std.proofs.lemmas.List.Elements.{All-head, All-tail, recursion_from_All}
use Rattle.flow_base.specs.Syntax.{Bytes, Program}
use Rattle.flow_base.specs.Limits.{Within}
use Rattle.flow_base.specs.declared.value.Value.{Value}
use Rattle.flow_base.specs.declared.value.Kind.{Kind}
use Rattle.flow_base.specs.declared.event.Cmd.TheVariants.{Schedule, StartTimer, CancelTimer, RecordMarker, Complete, Fail, ContinueAsNew}
use Rattle.flow_base.specs.declared.event.Input.TheVariants.{Started, Signaled, ActivityCompleted, ActivityFailed, TimerFired, Terminated}
use Rattle.flow_base.specs.declared.event.What.{What}
use Rattle.flow_base.specs.declared.event.What.TheVariants.{Came, Asked}
use Rattle.flow_base.specs.declared.event.Event.{Event}
use Rattle.flow_base.specs.declared.book.OpenActivity.{OpenActivity}
use Rattle.flow_base.specs.declared.book.Run.{Run}
use Rattle.flow_base.specs.declared.command.TextFault.{TextFault}
use Rattle.flow_events.specs.Kinds.{kind_number, kind_of}
use Rattle.flow_model.specs.WellFormed.{WellFormed}
use Rattle.flow_model.specs.Meaning.{Means}
use Rattle.flow_model.specs.Configuration.{is_open}
use Rattle.flow_model.specs.Open.{open_activities, state_of}
use Rattle.flow_model.specs.Book.{Book, nth}
use Rattle.flow_model.specs.Apply.{Rules, rules_of, program_if, program_at}
use Rattle.flow_model.specs.Sound.{IsSoundTask, IsSoundRun, IsSound, IsProgram, IsOrderly}
use Rattle.flow_model.proofs.Tries.{well_formed_tried}
use Rattle.flow_model.proofs.Starts.{is_start, StartNone, StartsOnce, starts_once, none_left}
use Rattle.flow_model.specs.Checked.{is_program_by}
use Rattle.flow_rows.specs.Rows.{Format, Two, activities_left}
use Rattle.flow_rows.specs.Damages.{tries_of, tries_at}
use Rattle.flow_rows.specs.Standing.{AreEvents, AreTasks, IsKept, AreApart, AreKept}
use Rattle.flow_rows.specs.Told.{AreReadIn, IsTold, IsToldIn}
use Rattle.flow_rows.specs.Typed.{IsTaskOfTypes}
use Rattle.flow_rows.proofs.Agreed.{get_middle}
use Rattle.flow_rows.proofs.BookTables.{nth_is}
use Rattle.flow_rows.proofs.Openness.{later}

---- The text of a run

abbrev program_by : (Bytes → Result Program TextFault) → Option Bytes → Option Program
program_by meaning o = elim o [ None ↦ None | Some body ↦ program_if (meaning body) ]

-- a text of the book, with its number, that is this program
record IsThere (meaning : Bytes → Result Program TextFault) (b : Book) (n : ℕ) (p : Program) : Type 0 where
  place : Within 1 (length b.texts) n
  body : Bytes
  means : meaning body ≡ Ok p

place_of : {A : Type 0} (xs : List A) (n : ℕ) (x : A) → nth xs n ≡ Some x → Within 1 (length xs) n
place_of xs zero x h = absurd (none-some x h)
place_of xs (suc k) x h = let less = slice_get_within xs k x (sym (nth_is xs k) ∙ h) in (omega arith, omega (arith, less))

of_program : (r : Result Program TextFault) (p : Program) → program_if r ≡ Some p → r ≡ Ok p
of_program (Ok q) p h = ap Ok (same_Some q p h)
of_program (Err f) p h = absurd (none-some p h)

text_there : (meaning : Bytes → Result Program TextFault) (b : Book) (n : ℕ) (p : Program) → program_at meaning b n ≡ Some p → IsThere meaning b n p
text_there meaning b n p h =
    elim (nth b.texts n) as (λ o. nth b.texts n ≡ o → program_by meaning o ≡ Some p → IsThere meaning b n p) [
      | None ↦ λ e v. absurd (none-some p v)
      | Some body ↦ λ e v. record { place = place_of b.texts n body e; body = body; means = of_program (meaning body) p v }
    ] refl h

text_well_formed : (meaning : Bytes → Result Program TextFault) → ((text : Bytes) → Means text (meaning text)) → (b : Book) (n : ℕ) (p : Program) → IsThere meaning b n p → WellFormed p
text_well_formed meaning means b n p there = (subst (Means there.body) there.means (means there.body)).1

---- Its events

start_is_first : (w : What) → int_eq (pos (kind_number (kind_of w))) (pos 1) ≡ is_start w
start_is_first (Came (Started vs)) = refl
start_is_first (Came (Signaled a r v)) = refl
start_is_first (Came (ActivityCompleted n v)) = refl
start_is_first (Came (ActivityFailed n t)) = refl
start_is_first (Came (TimerFired n)) = refl
start_is_first (Came (Terminated t)) = refl
start_is_first (Asked (Schedule a vs n m k)) = refl
start_is_first (Asked (StartTimer d)) = refl
start_is_first (Asked (CancelTimer n)) = refl
start_is_first (Asked (RecordMarker p)) = refl
start_is_first (Asked (Complete v)) = refl
start_is_first (Asked (Fail c t)) = refl
start_is_first (Asked (ContinueAsNew vs)) = refl

later_events : (f : Format) (i : ℕ) (es : List Event) → 1 < i → AreReadIn f i es → StartNone es → AreEvents f i es
later_events f i [] behind read none = tt
later_events f i (e ∷ es) behind read none = (
  read.0,
  rw (later i behind) (ap not (start_is_first e.what ∙ none.0)),
  read.1,
  later_events f (i + 1) es (omega (arith, behind)) read.2 none.1,
)

all_events : (f : Format) (es : List Event) → AreReadIn f 1 es → StartsOnce es → AreEvents f 1 es
all_events f [] read once = tt
all_events f (e ∷ es) read once = (read.0, start_is_first e.what ∙ once.0, read.1, later_events f 2 es (omega arith) read.2 once.1)

---- Its tasks

same_first : (x y : ℕ) (xs ys : List ℕ) → x ∷ xs ≡ y ∷ ys → x ≡ y
same_first x y xs ys h = let same = h in cc

same_rest : (x y : ℕ) (xs ys : List ℕ) → x ∷ xs ≡ y ∷ ys → xs ≡ ys
same_rest x y xs ys h = let same = h in cc

tries_are : (h : List Event) (n m : ℕ) (e : Event) (name : Bytes) (vs : List Value) (tries every : ℕ) (kind : Kind) → n ≡ m → nth h n ≡ Some e
    → e.what ≡ Asked (Schedule name vs tries every kind) → tries_at h m ≡ tries
tries_are h n m e name vs tries every kind same there asked =
    ap (tries_at h) (sym same) ∙ ap (λ (o : Option Event). elim o [ None ↦ 0 | Some d ↦ tries_of d.what ]) there ∙ ap tries_of asked

are_tasks : (r : Run) (ts others : List OpenActivity) → map (λ (t : OpenActivity). t.event) ts ≡ map (λ (t : OpenActivity). t.event) others → All (IsSoundTask r) ts → AllByRecursion IsTaskOfTypes ts
    → AreTasks r.history ts others
are_tasks r [] [] same sound types = tt
are_tasks r [] (a ∷ others) same sound types = absurd (let clash = same in cc)
are_tasks r (t ∷ ts) [] same sound types = absurd (let clash = same in cc)
are_tasks r (t ∷ ts) (a ∷ others) same sound types =
    let of : List OpenActivity → List ℕ = map (λ (x : OpenActivity). x.event) in
    let one : IsSoundTask r t = All-head (IsSoundTask r) t ts sound in
    let event : t.event ≡ a.event = same_first t.event a.event (of ts) (of others) same in
    let asked = one.asked in
    let tries : tries_at r.history a.event ≡ one.tries =
    tries_are r.history t.event a.event one.event asked.0 asked.1.0 one.tries asked.1.1.0 asked.1.1.1.0 event one.scheduled asked.1.1.1.1
    in (
      event,
      (one.first, subst (λ m. t.attempt ≤ m) (sym tries) one.last),
      (omega arith, types.0.1),
      are_tasks r ts others (same_rest t.event a.event (of ts) (of others) same) (All-tail (IsSoundTask r) t ts sound) types.1,
    )

left_is : (opened : Bool) (ts : List OpenActivity) → (opened ≡ false → ts ≡ []) → ts ≡ (if opened then ts else [])
left_is true ts none = refl
left_is false ts none = none refl

---- Each run

kept_run : (meaning : Bytes → Result Program TextFault) → ((text : Bytes) → Means text (meaning text)) → (f : Format) (b : Book) (r : Run) → IsSoundRun (rules_of meaning) b r → IsToldIn f r → IsKept f (length b.texts) r
kept_run meaning means f b r sound told =
    let there = text_there meaning b r.text sound.program sound.its_text in
    let tried = well_formed_tried sound.program (text_well_formed meaning means b r.text sound.program there) in
    let left : open_activities r.history ≡ activities_left r.history =
    left_is (is_open (state_of r.history)) (open_activities r.history) (none_left sound.program r.history sound.place tried sound.stands)
    in
    record {
      flow = told.types.flow;
      request = told.types.request;
      text = there.place;
      begun = sound.stands.0;
      events = all_events f r.history told.events (starts_once sound.program r.history sound.place tried sound.stands);
      tasks = are_tasks r r.tasks (activities_left r.history) (sound.activities ∙ ap (map (λ (t : OpenActivity). t.event)) left) sound.attempts told.types.tasks;
    }

kept_runs : (meaning : Bytes → Result Program TextFault) → ((text : Bytes) → Means text (meaning text)) → (f : Format) (b : Book) (rs : List Run) → AllByRecursion (IsSoundRun (rules_of meaning) b) rs → AllByRecursion (IsToldIn f) rs
    → AllByRecursion (IsKept f (length b.texts)) rs
kept_runs meaning means f b [] sound told = tt
kept_runs meaning means f b (r ∷ rs) sound told = (kept_run meaning means f b r sound.0 told.0, kept_runs meaning means f b rs sound.1 told.1)

---- One run beside another

get_front : (xs ys : List Run) (i : ℕ) (x : Run) → slice_get xs i ≡ Some x → slice_get (xs ++ ys) i ≡ Some x
get_front [] ys i x h = absurd (none-some x h)
get_front (y ∷ xs) ys zero x h = h
get_front (y ∷ xs) ys (suc i) x h = get_front xs ys i x h

each_at : (P : Run → Type 0) (xs : List Run) → ((i : ℕ) (x : Run) → slice_get xs i ≡ Some x → P x) → AllByRecursion P xs
each_at P [] f = tt
each_at P (x ∷ xs) f = (f 0 x refl, each_at P xs (λ i y there. f (suc i) y there))

module _ (u : Rules) (b : Book) (sound : IsSound u b) (orderly : IsOrderly u b) where
  apart : (i j : ℕ) (earlier r : Run) → i < j → slice_get b.runs i ≡ Some earlier → slice_get b.runs j ≡ Some r → AreApart earlier r
  apart i j earlier r less there here =
      record {
        request = λ q its same. let place = orderly.requests i j earlier r q there here its same in omega (arith, place, less);
        flow = λ same its opened. let place = sound.one_open i j earlier r there here same its opened in omega (arith, place, less);
      }

  all_apart : (before rest : List Run) (r : Run) → b.runs ≡ before ++ r ∷ rest → AllByRecursion (λ x. AreApart x r) before
  all_apart before rest r cut =
      each_at (λ x. AreApart x r) before
      (λ i x there. apart i (length before) x r (slice_get_within before i x there) (ap (λ rs. slice_get rs i) cut ∙ get_front before (r ∷ rest) i x there)
      (ap (λ rs. slice_get rs (length before)) cut ∙ get_middle before r rest))

  runs_kept : (f : Format) (count : ℕ) (before rs : List Run) → b.runs ≡ before ++ rs → AllByRecursion (IsKept f count) rs → AreKept f count before rs
  runs_kept f count before [] cut kept = tt
  runs_kept f count before (r ∷ rs) cut kept =
      (kept.0, all_apart before rs r cut, runs_kept f count (before ++ r ∷ []) rs (cut ∙ again before r rs) kept.1)
    where
      again : (xs : List Run) (x : Run) (ys : List Run) → xs ++ x ∷ ys ≡ (xs ++ x ∷ []) ++ ys
      again [] x ys = refl
      again (z ∷ zs) x ys = ap (λ w. z ∷ w) (again zs x ys)

---- The book

texts_are : (meaning : Bytes → Result Program TextFault) (ts : List Bytes) → AllByRecursion (IsProgram (rules_of meaning)) ts → AllByRecursion (λ text. is_program_by meaning text ≡ true) ts
texts_are meaning [] all = tt
texts_are meaning (t ∷ ts) all = (ap is_ok all.0.1, texts_are meaning ts all.1)

pub stood_in : (meaning : Bytes → Result Program TextFault) → ((text : Bytes) → Means text (meaning text)) → (f : Format) (b : Book)
    → AllByRecursion (IsToldIn f) b.runs → IsSound (rules_of meaning) b → IsOrderly (rules_of meaning) b
    → AllByRecursion (λ text. is_program_by meaning text ≡ true) b.texts × AreKept f (length b.texts) [] b.runs
stood_in meaning means f b told sound orderly = (
  texts_are meaning b.texts (recursion_from_All (IsProgram (rules_of meaning)) b.texts orderly.texts),
  runs_kept (rules_of meaning) b sound orderly f (length b.texts) [] b.runs refl
      (kept_runs meaning means f b b.runs (recursion_from_All (IsSoundRun (rules_of meaning) b) b.runs sound.runs) told),
)

pub stood : (meaning : Bytes → Result Program TextFault) → ((text : Bytes) → Means text (meaning text)) → (b : Book)
    → AllByRecursion IsTold b.runs → IsSound (rules_of meaning) b → IsOrderly (rules_of meaning) b
    → AllByRecursion (λ text. is_program_by meaning text ≡ true) b.texts × AreKept Two (length b.texts) [] b.runs
stood meaning means b told sound orderly = stood_in meaning means Two b told sound orderly
