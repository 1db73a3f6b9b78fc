-- One step of the cells is one step of the rest that they stand for.
use Rattle.std.proofs.Common.{◌≡◌, ℕ, zero, suc, ◌+◌, ◌≤◌, List, [], ◌∷◌, ◌++◌, length, refl, sym, ap, ◌∙◌, subst, arith, Option, Some, None, Bool, true, false}
use Rattle.flow_base.specs.declared.event.Cmd.{Cmd}
use Rattle.flow_base.specs.declared.event.Cmd.TheVariants as cmd
use Rattle.flow_base.specs.declared.event.State.{State}
use Rattle.std.specs.Prelude.{if◌then◌else◌, min, slice_get}
use Rattle.flow_base.specs.declared.value.Value.TheVariants as value
use Rattle.flow_base.specs.declared.event.Cmd.TheVariants.{Complete}
use Rattle.flow_nodes.specs.declared.table.Listing.{Listing}
use Rattle.flow_model.specs.Configuration.{Configuration, is_open}
use Rattle.flow_model.specs.Deliver.{Progress}
use Rattle.flow_model.specs.Rest.{Rest, Done, is_done, open_waits}
use Rattle.flow_model.specs.Step.{Store, Setting, Move, Stays, Goes, Asks, Ends, move, wait_limit}
use Rattle.flow_model.specs.Turn.{Frame, after_move, ended, left_by, next, setting, state_after_command}
use Rattle.flow_run.specs.Marks.{Moves, Stay, Go, Ask, Finish, at_head, along, or_moves, moves, first_rest, onto, put}
use Rattle.flow_run.specs.Marks.{Mark, Counted}
use Rattle.flow_run.specs.Shown.{shown_store}
use Rattle.flow_run.specs.Flat.{AreFull, AreFullCells, AreSound, StepsFirst, mark_of, marks_of}
use Rattle.flow_run.specs.Position.{setting_with}
use Rattle.flow_run.specs.declared.store.Store.{Store as CStore}
use Rattle.flow_run.specs.declared.walk.Stepped.{Stepped}
use Rattle.flow_run.specs.declared.walk.Stepped.TheVariants as stepped
use Rattle.flow_run.specs.Waiting.{opens_in_all}
use Rattle.flow_run.specs.Whole.{IsWholeAt, is_unbegun, rest_at}
use Rattle.flow_run.specs.declared.cell.Cell.{Cell}
use Rattle.flow_run.proofs.OpenWaits.{opens_are}
use Rattle.flow_run.proofs.Overs.{counted_first}

-- what a list of at most one rest does
abbrev first_move : Moves → Move
first_move Stay = Stays
first_move (Go rs t) = Goes (first_rest rs) t
first_move (Ask rs t c) = Asks (first_rest rs) t c
first_move (Finish c) = Ends c

pub one_moves : (s : Setting) (t : Store) (rs : List Rest) → length rs ≤ 1 → move s t (first_rest rs) ≡ first_move (moves s t rs)
one_moves s t [] h = refl
one_moves s t (r ∷ []) h = by (move s t r)
  where
    by : (m : Move) → m ≡ first_move (or_moves (at_head [] m) Stay)
    by Stays = refl
    by (Goes q u) = refl
    by (Asks q u c) = refl
    by (Ends c) = refl
one_moves s t (r ∷ q ∷ rs) h = absurd (omega (arith, h))

-- and it stays one
abbrev length_of : Moves → ℕ
length_of Stay = 0
length_of (Go rs t) = length rs
length_of (Ask rs t c) = length rs
length_of (Finish c) = 0

pub stays_one : (s : Setting) (t : Store) (rs : List Rest) → length rs ≤ 1 → length_of (moves s t rs) ≤ 1
stays_one s t [] h = omega arith
stays_one s t (r ∷ []) h = by (move s t r)
  where
    by : (m : Move) → length_of (or_moves (at_head [] m) Stay) ≤ 1
    by Stays = omega arith
    by (Goes q u) = omega arith
    by (Asks q u c) = omega arith
    by (Ends c) = omega arith
stays_one s t (r ∷ q ∷ rs) h = absurd (omega (arith, h))

pub goes_one : (s : Setting) (t u : Store) (rs qs : List Rest) → length rs ≤ 1 → moves s t rs ≡ Go qs u → (move s t (first_rest rs) ≡ Goes (first_rest qs) u) × (length qs ≤ 1)
goes_one s t u rs qs h e = (one_moves s t rs h ∙ ap first_move e, subst (λ (m : Moves). length_of m ≤ 1) e (stays_one s t rs h))

pub asks_one : (s : Setting) (t u : Store) (rs qs : List Rest) (c : Cmd) → length rs ≤ 1 → moves s t rs ≡ Ask qs u c → (move s t (first_rest rs) ≡ Asks (first_rest qs) u c) × (length qs ≤ 1)
asks_one s t u rs qs c h e = (one_moves s t rs h ∙ ap first_move e, subst (λ (m : Moves). length_of m ≤ 1) e (stays_one s t rs h))

pub ends_one : (s : Setting) (t : Store) (rs : List Rest) (c : Cmd) → length rs ≤ 1 → moves s t rs ≡ Finish c → move s t (first_rest rs) ≡ Ends c
ends_one s t rs c h e = one_moves s t rs h ∙ ap first_move e

pub rests_one : (s : Setting) (t : Store) (rs : List Rest) → length rs ≤ 1 → moves s t rs ≡ Stay → move s t (first_rest rs) ≡ Stays
rests_one s t rs h e = one_moves s t rs h ∙ ap first_move e

-- a command leaves no run that hasn't begun
pub begun_after : (c : Cmd) → is_unbegun (state_after_command c) ≡ false
begun_after (cmd.Schedule a vs n m k) = refl
begun_after (cmd.StartTimer at) = refl
begun_after (cmd.CancelTimer n) = refl
begun_after (cmd.RecordMarker id) = refl
begun_after (cmd.Complete v) = refl
begun_after (cmd.Fail c t) = refl
begun_after (cmd.ContinueAsNew vs) = refl

-- One step of a run within a turn is one step of the definition.
pub next_closed : (f : Frame) (p : Progress) (b : Bool) → b ≡ is_open p.state → b ≡ false → None ≡ next f p
next_closed f p b is shut = by (is_open p.state) (sym is ∙ shut)
  where
    by : (o : Bool) → o ≡ false → ◌≡◌ {A = Option Progress} None (if o then (if is_done p.rest then Some (ended p (Complete (value.Text []))) else after_move p (move (setting f p) p.store p.rest)) else None)
    by false e = refl
    by true e = cc

pub next_ends : (f : Frame) (p q : Progress) → is_open p.state ≡ true → is_done p.rest ≡ true → q ≡ ended p (Complete (value.Text [])) → Some q ≡ next f p
next_ends f p q opened done is = ap Some is ∙ by (is_open p.state) (is_done p.rest) opened done
  where
    by : (o d : Bool) → o ≡ true → d ≡ true → Some (ended p (Complete (value.Text []))) ≡ (if o then (if d then Some (ended p (Complete (value.Text []))) else after_move p (move (setting f p) p.store p.rest)) else None)
    by true true e g = refl
    by true false e g = cc
    by false d e g = cc

pub next_moves : (f : Frame) (p : Progress) (s : Setting) (m : Move) → is_open p.state ≡ true → is_done p.rest ≡ false → s ≡ setting f p → move s p.store p.rest ≡ m → after_move p m ≡ next f p
next_moves f p s m opened going same is =
    ap (after_move p) (sym is) ∙ ap (λ (x : Setting). after_move p (move x p.store p.rest)) same ∙ by (is_open p.state) (is_done p.rest) opened going
  where
    by : (o d : Bool) → o ≡ true → d ≡ false → after_move p (move (setting f p) p.store p.rest) ≡ (if o then (if d then Some (ended p (Complete (value.Text []))) else after_move p (move (setting f p) p.store p.rest)) else None)
    by true false e g = refl
    by true true e g = cc
    by false d e g = cc

-- the setting of a step
setting_is : (ls : List Listing) (f : Frame) (p : Progress) (cs : List Cell) → p.rest ≡ first_rest (onto (marks_of ls cs) []) → length (onto (marks_of ls cs) []) ≤ 1 → setting_with f (min (opens_in_all cs) 32) (length p.asked) ≡ setting f p
setting_is ls f p cs rest one =
    ap (λ (n : ℕ). setting_with f (min n 32) (length p.asked)) (opens_are ls cs one ∙ ap open_waits (sym rest))

-- a run within a turn, by its parts
abbrev pub progress_at : List Listing → List Cell → CStore → List Cmd → State → Progress
progress_at ls cs t asked st = record { rest = rest_at ls cs; store = shown_store t; asked = asked; state = st }

module _ (ls : List Listing) (f : Frame) (s : Setting) (cs ds : List Cell) (t u : CStore) (asked : List Cmd) (st : State) (whole : IsWholeAt ls cs st) (opened : is_open st ≡ true) (going : is_done (rest_at ls cs) ≡ false) (is : s ≡ setting_with f (min (opens_in_all cs) 32) (length asked)) where
  same : s ≡ setting f (progress_at ls cs t asked st)
  same = is ∙ setting_is ls f (progress_at ls cs t asked st) cs refl whole.one

  pub step_stays : StepsFirst ls s t cs u ds stepped.Stays → None ≡ next f (progress_at ls cs t asked st)
  step_stays m = next_moves f (progress_at ls cs t asked st) s Stays opened going same (rests_one s (shown_store t) (onto (marks_of ls cs) []) whole.one m.0)

  pub step_keeps : StepsFirst ls s t cs u ds stepped.Stays → progress_at ls ds u asked st ≡ progress_at ls cs t asked st
  step_keeps m = λ x. record { rest = first_rest (onto (m.1.1 x) []); store = shown_store (m.1.0 x); asked = asked; state = st }

  pub whole_stays : StepsFirst ls s t cs u ds stepped.Stays → AreFullCells ls ds → IsWholeAt ls ds st
  whole_stays m full =
      record {
        sound = (full, subst (λ (ms : List Mark). Counted ms []) (sym m.1.1) whole.sound.1);
        one = subst (λ (ms : List Mark). length (onto ms []) ≤ 1) (sym m.1.1) whole.one;
        begun = whole.begun;
      }

  pub step_goes : StepsFirst ls s t cs u ds stepped.Goes → Some (progress_at ls ds u asked st) ≡ next f (progress_at ls cs t asked st)
  step_goes m =
      next_moves f (progress_at ls cs t asked st) s (Goes (rest_at ls ds) (shown_store u)) opened going same
      (goes_one s (shown_store t) (shown_store u) (onto (marks_of ls cs) []) (onto (marks_of ls ds) []) whole.one m).0

  pub whole_goes : StepsFirst ls s t cs u ds stepped.Goes → AreSound ls ds → IsWholeAt ls ds st
  whole_goes m sound =
      record { sound = sound; one = (goes_one s (shown_store t) (shown_store u) (onto (marks_of ls cs) []) (onto (marks_of ls ds) []) whole.one m).1; begun = whole.begun }

  pub step_asks : (c : Cmd) (more : List Cmd) → more ≡ asked ++ c ∷ [] → moves s (shown_store t) (onto (marks_of ls cs) []) ≡ Ask (onto (marks_of ls ds) []) (shown_store u) c → Some (progress_at ls ds u more st) ≡ next f (progress_at ls cs t asked st)
  step_asks c more added m =
      ap (λ (xs : List Cmd). Some (progress_at ls ds u xs st)) added
      ∙ next_moves f (progress_at ls cs t asked st) s (Asks (rest_at ls ds) (shown_store u) c) opened going same
      (asks_one s (shown_store t) (shown_store u) (onto (marks_of ls cs) []) (onto (marks_of ls ds) []) c whole.one m).0

  pub whole_asks : (c : Cmd) → moves s (shown_store t) (onto (marks_of ls cs) []) ≡ Ask (onto (marks_of ls ds) []) (shown_store u) c → AreSound ls ds → IsWholeAt ls ds st
  whole_asks c m sound =
      record { sound = sound; one = (asks_one s (shown_store t) (shown_store u) (onto (marks_of ls cs) []) (onto (marks_of ls ds) []) c whole.one m).1; begun = whole.begun }

  pub step_ends : (c : Cmd) (q : Progress) → q ≡ ended (progress_at ls ds u asked st) c → (moves s (shown_store t) (onto (marks_of ls cs) []) ≡ Finish c) × (u ≡ t) → Some q ≡ next f (progress_at ls cs t asked st)
  step_ends c q is m =
      ap Some is ∙ ap (λ (x : CStore). Some (ended (progress_at ls ds x asked st) c)) m.1
      ∙ next_moves f (progress_at ls cs t asked st) s (Ends c) opened going same (ends_one s (shown_store t) (onto (marks_of ls cs) []) c whole.one m.0)

-- The first task or join of all: where it is over, nothing is left.
abbrev cell_or : Cell → Option Cell → Cell
cell_or d None = d
cell_or d (Some c) = c

pub first_full : (ls : List Listing) (cs : List Cell) (c : Cell) → Some c ≡ slice_get cs 0 → AreSound ls cs → AreFull ls c
first_full ls [] c e s = cc
first_full ls (x ∷ cs) c e s = subst (AreFull ls) (sym (ap (cell_or c) e)) (s.0 0 x (omega arith))

pub finished_first : (ls : List Listing) (cs : List Cell) (c : Cell) (b : Bool) → Some c ≡ slice_get cs 0 → AreSound ls cs
    → ((rs : List Rest) → Counted (mark_of ls c ∷ []) rs → is_done (first_rest (put (mark_of ls c) rs)) ≡ b) → b ≡ is_done (rest_at ls cs)
finished_first ls [] c b e s f = cc
finished_first ls (x ∷ cs) c b e s f =
    let same : c ≡ x = ap (cell_or c) e in
    let rs = onto (marks_of ls cs) [] in
    let counted : Counted (mark_of ls c ∷ []) rs = subst (λ (y : Cell). Counted (mark_of ls y ∷ []) rs) (sym same) (counted_first (mark_of ls x) (marks_of ls cs) s.1) in
    sym (f rs counted) ∙ ap (λ (y : Cell). is_done (first_rest (put (mark_of ls y) rs))) same

pub finished_none : (ls : List Listing) (cs : List Cell) → ◌≡◌ {A = Option Cell} None (slice_get cs 0) → true ≡ is_done (rest_at ls cs)
finished_none ls [] e = refl
finished_none ls (c ∷ cs) e = cc

-- what a command leaves that closes a run
pub ended_is : (ls : List Listing) (cs : List Cell) (t : CStore) (asked : List Cmd) (st : State) (old : Progress) (c : Cmd) → cs ≡ [] → shown_store t ≡ old.store → asked ≡ old.asked ++ c ∷ [] → st ≡ state_after_command c → progress_at ls cs t asked st ≡ ended old c
ended_is ls cs t asked st old c none store more state = λ x. record { rest = rest_at ls (none x); store = store x; asked = more x; state = state x }

-- where a turn leaves a run, by the number of its commands
pub left_is : (f : Frame) (p : Progress) (n : ℕ) → n ≡ length p.asked
    → ◌≡◌ {A = Configuration} (record { rest = p.rest; variables = p.store.variables; buffer = p.store.buffer; decided = p.store.decided; events = f.events + n; moment = f.at; state = p.state }) (left_by f p)
left_is f p n e = λ x. record { rest = p.rest; variables = p.store.variables; buffer = p.store.buffer; decided = p.store.decided; events = f.events + e x; moment = f.at; state = p.state }

-- a step by an equal setting
pub steps_same : (ls : List Listing) (s r : Setting) (t u : CStore) (cs ds : List Cell) (m : Stepped) → StepsFirst ls s t cs u ds m → s ≡ r → StepsFirst ls r t cs u ds m
steps_same ls s r t u cs ds m h e = subst (λ (x : Setting). StepsFirst ls x t cs u ds m) e h
