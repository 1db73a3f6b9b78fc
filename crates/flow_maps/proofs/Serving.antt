-- What is found by the names of runs, and whether a turn leaves a run open.
use Rattle.std.specs.Prelude.{◌≡◌, ◌-◌, ◌+◌, ◌&&◌, if◌then◌else◌, ◌∷◌, ◌++◌}
use Rattle.flow_maps.proofs.Names.{ℕ, Bool, true, false, List, [], length, Option, Some, None, slice_set, bytes_eq, refl, sym, ap, ◌∙◌, IfSome, effect_of_input, effect_of_command, state_by, Bytes, Effect, Begins, OpensActivity, OpensTimer, EndsActivity, EndsTimer, Closes, Nothing, Cmd, Event, State, Run, Turn, is_open, state_after_one, state_after, state_of, traces, turn_events, Book, nth, with_run, with_turn, is_from, is_open_of, requested, open_run, is_key, IsFound, name_of, request_key, key_if, open_key, is_open_by, is_open_after, is_open_behind}
use Rattle.flow_base.specs.declared.event.State.TheVariants as state
use Rattle.flow_maps.proofs.Keys.{first_found}
use Rattle.flow_maps.proofs.Planning.{none_is, some_is}

---- What is found by a key

request_is : (q : Bytes) (r : Run) → is_key q (request_key r) ≡ is_from q r
request_is q r = go r.request
  where
    go : (o : Option Bytes) → is_key q o ≡ (elim o [ None ↦ false | Some k ↦ bytes_eq k q ])
    go None = refl
    go (Some k) = refl

pub request_found : (q : Bytes) (b : Book) (o : Option ℕ) → IsFound o q (λ n. name_of request_key (nth b.runs n)) → o ≡ requested b q
request_found q b o h = first_found request_key (is_from q) q (request_is q) o b.runs h

open_is : (q : Bytes) (r : Run) → is_key q (open_key r) ≡ is_open_of q r
open_is q r = go (is_open (state_of r.history)) (bytes_eq r.flow q) refl
  where
    both : (w : Bool) → (w && true) ≡ w
    both true = refl
    both false = refl

    neither : (w : Bool) → (w && false) ≡ false
    neither true = refl
    neither false = refl

    go : (v w : Bool) → bytes_eq r.flow q ≡ w → is_key q (key_if v r.flow) ≡ (bytes_eq r.flow q && v)
    go true w is = sym (both (bytes_eq r.flow q))
    go false w is = sym (neither (bytes_eq r.flow q))

pub open_found : (q : Bytes) (b : Book) (o : Option ℕ) → IsFound o q (λ n. name_of open_key (nth b.runs n)) → o ≡ open_run b q
open_found q b o h = first_found open_key (is_open_of q) q (open_is q) o b.runs h

pub some_weaker : {A : Type 0} (o : Option A) (P Q : A → Type 0) → ((a : A) → P a → Q a) → IfSome o P → IfSome o Q
some_weaker None P Q f h = tt
some_weaker (Some a) P Q f h = f a h

---- How a turn leaves a run

opened : (s : State) (e : Effect) → is_open (state_by s e) ≡ is_open_by (is_open s) e
opened s Begins = refl
opened s OpensActivity = refl
opened s (OpensTimer due) = refl
opened s (EndsActivity n) = refl
opened s (EndsTimer n) = refl
opened s (Closes t) = refl
opened s Nothing = refl

traced : (s : State) (n at : ℕ) (cs : List Cmd) → is_open (state_after s (traces n at cs)) ≡ is_open_after (is_open s) cs
traced s n at [] = refl
traced s n at (c ∷ cs) = traced (state_by s (effect_of_command c)) (n + 1) at cs ∙ ap (λ o. is_open_after o cs) (opened s (effect_of_command c))

appended : (s : State) (h es : List Event) → state_after s (h ++ es) ≡ state_after (state_after s h) es
appended s [] es = refl
appended s (e ∷ h) es = appended (state_after_one s e) h es

pub turn_open : (t : Turn) (r : Run) → is_open (state_of (with_turn t r).history) ≡ is_open_behind (is_open (state_of r.history)) t
turn_open t r =
    ap is_open (appended state.Unbegun r.history (turn_events (length r.history + 1) t.at t.input t.commands))
    ∙ traced (state_by (state_of r.history) (effect_of_input t.input)) (length r.history + 1 + 1) t.at t.commands
    ∙ ap (λ o. is_open_after o t.commands) (opened (state_of r.history) (effect_of_input t.input))

---- A book in which a run is another

pub run_is : (b : Book) (n : ℕ) (f : Run → Run) (r : Run) → nth b.runs n ≡ Some r → record b { runs = slice_set b.runs (n - 1) (f r) } ≡ with_run b n f
run_is b n f r at = go (nth b.runs n) at
  where
    go : (o : Option Run) → o ≡ Some r → record b { runs = slice_set b.runs (n - 1) (f r) } ≡ (elim o [ None ↦ b | Some x ↦ record b { runs = slice_set b.runs (n - 1) (f x) } ])
    go None e = absurd (none_is r e)
    go (Some x) e = ap (λ y. record b { runs = slice_set b.runs (n - 1) (f y) }) (sym (some_is x r e))

pub none_is_there : (b : Book) (n : ℕ) (f : Run → Run) → nth b.runs n ≡ None → b ≡ with_run b n f
none_is_there b n f at = go (nth b.runs n) at
  where
    go : (o : Option Run) → o ≡ None → b ≡ (elim o [ None ↦ b | Some x ↦ record b { runs = slice_set b.runs (n - 1) (f x) } ])
    go None e = refl
    go (Some x) e = absurd (none_is x (sym e))
