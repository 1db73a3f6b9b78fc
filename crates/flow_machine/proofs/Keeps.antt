-- Each command leads from a sound book to a sound book.
use Rattle.std.proofs.Common.{◌≡◌, ℕ, ◌+◌, ◌-◌, ◌≤◌, List, [], ◌∷◌, length, refl, sym, ap, ◌∙◌, subst, arith, Option, Some, None, Ok, true, false}
use Rattle.std.specs.Prelude.{◌<◌, slice_get, slice_set}
use Rattle.std.proofs.Math.Nat.{le-max_right}
use Rattle.std.proofs.lemmas.Option.{none-some, same_Some}
use Rattle.std.proofs.lemmas.List.Elements.{All-nil}
use Rattle.flow_base.specs.Syntax.{Bytes, Program}
use Rattle.flow_base.specs.declared.value.Value.{Value}
use Rattle.flow_base.specs.declared.event.Input.TheVariants.{Terminated}
use Rattle.flow_base.specs.declared.book.Due.{Due}
use Rattle.flow_base.specs.declared.book.Run.{Run}
use Rattle.flow_base.specs.declared.book.Turn.{Turn}
use Rattle.flow_base.specs.declared.book.Change.{Change}
use Rattle.flow_base.specs.declared.book.Change.TheVariants.{AddTurn, AddRun, SetAttempt, SetText}
use Rattle.flow_base.specs.declared.command.Command.{Command}
use Rattle.flow_model.specs.Configuration.{Configuration, is_open}
use Rattle.flow_model.specs.Turn as turn
use Rattle.flow_model.specs.Turn.{Fresh, is_started}
use Rattle.flow_model.specs.Stands.{Stands}
use Rattle.flow_model.specs.Verdict.{verdict}
use Rattle.flow_model.specs.Open.{state_of, moment_of}
use Rattle.flow_model.specs.Book.{Book, no_book, nth, with_run, unbegun_run, with_turn, with_attempt, with_text, changed, changed_by}
use Rattle.flow_model.specs.Apply.{Rules, program_at, first_turn, continued, history_limit, tries_of, after_one, after}
use Rattle.flow_model.specs.Sound.{IsSoundRun, IsSound}
use Rattle.flow_model.proofs.Positions.{turned_is}
use Rattle.flow_model.proofs.Verdicts.{verdict_of_standing}
use Rattle.flow_machine.specs.Soundness.{ReadsWellFormed, NoBookIsSound, SoundAfter}
use Rattle.flow_model.proofs.Tries.{well_formed_tried}
use Rattle.flow_model.proofs.Leaves.{state_came, stands_left, delivered_open, terminates, continued_closed, turn_state}
use Rattle.flow_machine.proofs.MadeChanges.{CoversTurns, Covers, now_of, fired_has, changes_have}
use Rattle.flow_machine.proofs.Places.{get_all, get_set_same, nth_place}
use Rattle.flow_machine.proofs.Changes.{NoneOpen, text_well_formed, sound_text, none_open, sound_run, first_run, put_run, was, sound_turn, turn_run, sound_same, attempt_run, text_run}
use Rattle.flow_machine.proofs.Standing.{first_turn_is, sound_stands, taken_stands, turn_put}
use Rattle.flow_machine.proofs.Ticks.{fired_book, tick_keeps}

-- the other runs of a flow are closed, and so is this one after the turn
closed_flow : (u : Rules) (b : Book) (n : ℕ) (r : Run) (t : Turn) → IsSound u b → nth b.runs n ≡ Some r → is_started t.input ≡ false
    → is_open (state_of r.history) ≡ true → is_open (state_of (with_turn t r).history) ≡ false → NoneOpen (put_run b n (with_turn t r)) r.flow
closed_flow u b n r t h e f now_open closed j z g same =
    let q = with_turn t r in
    let w = was b n r t e f j z g in
    elim (is_open (state_of z.history)) as (λ x. is_open (state_of z.history) ≡ x → x ≡ false) [
      | false ↦ λ c. refl
      | true ↦ λ c.
          let place : n - 1 ≡ j = h.one_open (n - 1) j r w.run (nth_place b.runs n r e) w.there (sym same ∙ sym w.flow) now_open (w.opened c) in
          let there : slice_get (slice_set b.runs (n - 1) q) j ≡ Some q = subst (λ i. slice_get (slice_set b.runs (n - 1) q) i ≡ Some q) place (get_set_same b.runs (n - 1) r q (nth_place b.runs n r e)) in
          let new : z ≡ q = same_Some z q (sym g ∙ there) in
          sym c ∙ ap (λ (x : Run). is_open (state_of x.history)) new ∙ closed
    ] refl

-- a sound run of the book takes a turn
module _ (u : Rules) (w : ReadsWellFormed u) (b : Book) (h : IsSound u b) (n : ℕ) (r : Run) (there : nth b.runs n ≡ Some r) (p : Program) (text : program_at u.program_of b r.text ≡ Some p) (k : Configuration) (stands : Stands p r.history k) where
  its : IsSoundRun u b r
  its = get_all (IsSoundRun u b) b.runs (n - 1) r (nth_place b.runs n r there) h.runs

  turn_keeps : (t : Turn) (k2 : Configuration) → k.moment ≤ t.at → is_started t.input ≡ false → turn.Turn p Fresh k t.at t.input t.commands k2 → IsSound u (put_run b n (with_turn t r))
  turn_keeps t k2 le f made = sound_turn u b n r t h there f (turn_run u b r t p k k2 w its text stands le made)

  -- and goes on as a new run
  next_keeps : (t : Turn) (k2 : Configuration) → k.moment ≤ t.at → is_started t.input ≡ false → turn.Turn p Fresh k t.at t.input t.commands k2 → is_open k.state ≡ true
      → (vs : List Value) (first : Turn) → continued t.commands ≡ Some vs → first_turn p t.at vs ≡ Some first → IsSound u (changed_by b (AddTurn n t ∷ AddRun r.flow None r.text first ∷ []))
  next_keeps t k2 le f made going vs first e g =
      let new = put_run b n (with_turn t r) in
      let left = stands_left p r.history k (well_formed_tried p (text_well_formed u b r.text p w text)) stands in
      let was_open : is_open (state_of r.history) ≡ true = ap is_open left.leaves ∙ going in
      let closed : is_open (state_of (with_turn t r).history) ≡ false =
      ap is_open (turn_state r.history (length r.history + 1) t.at t.input t.commands) ∙ continued_closed (state_came (state_of r.history) t.input) t.commands vs e
      in
      let begun = first_turn_is p t.at vs first g in
      subst (λ (x : Book). IsSound u (changed_by x (AddRun r.flow None r.text first ∷ []))) (sym (turn_put b n r t there))
      (sound_run u new (with_turn first (unbegun_run r.flow None r.text)) (turn_keeps t k2 le f made) (first_run u new r.flow None r.text first p begun.0 w text begun.1)
      (closed_flow u b n r t h there f was_open closed))

  -- it is closed for a reason
  closed_keeps : (at : ℕ) (reason : Bytes) → k.moment ≤ at → is_open k.state ≡ true → IsSound u (changed b (AddTurn n (record { at = at; input = Terminated reason; commands = [] })))
  closed_keeps at reason le going =
      let made = terminates p k at reason going in
      let t : Turn = record { at = at; input = Terminated reason; commands = [] } in
      subst (λ (x : Book). IsSound u x) (sym (turn_put b n r t there)) (turn_keeps t made.0 le refl made.1)

-- a run is put in the place of another
put_by : (b : Book) (n : ℕ) (r : Run) (f : Run → Run) → nth b.runs n ≡ Some r → with_run b n f ≡ put_run b n (f r)
put_by b n r f there = ap (λ (o : Option Run). elim o [ None ↦ b | Some q ↦ put_run b n (f q) ]) there

module _ (u : Rules) (w : ReadsWellFormed u) (b : Book) (h : IsSound u b) where
  abbrev Keeps : List Change → Type 0
  Keeps cs = IsSound u (changed_by b cs)

  -- the next attempt is within the tries
  attempt_keeps : (n : ℕ) (r : Run) (event attempt ready : ℕ) (x : ℕ × ℕ) → nth b.runs n ≡ Some r → tries_of (nth r.history event) ≡ Some x → attempt < x.0 → Keeps (SetAttempt n event (attempt + 1) ready ∷ [])
  attempt_keeps n r event attempt ready x there e less =
      let its : IsSoundRun u b r = get_all (IsSoundRun u b) b.runs (n - 1) r (nth_place b.runs n r there) h.runs in
      let new : Run = with_attempt event (attempt + 1) ready r in
      subst (λ (y : Book). IsSound u y) (sym (put_by b n r (with_attempt event (attempt + 1) ready) there))
      (sound_same u b n r new there refl refl h (attempt_run u b r event (attempt + 1) ready x its e (omega arith) (omega (arith, less))))

  -- a run goes on under another text
  text_keeps : (n text : ℕ) (r : Run) (p : Program) (k : Configuration) → nth b.runs n ≡ Some r → program_at u.program_of b text ≡ Some p → verdict p r.history ≡ Ok k → Keeps (SetText n text ∷ [])
  text_keeps n text r p k there read e =
      let old : IsSoundRun u b r = get_all (IsSoundRun u b) b.runs (n - 1) r (nth_place b.runs n r there) h.runs in
      subst (λ (y : Book). IsSound u y) (sym (put_by b n r (with_text text) there))
      (sound_same u b n r (with_text text r) there refl refl h (text_run u b r text p k old read ((verdict_of_standing p r.history k).0 e)))

  -- an open run is closed for a reason
  close_keeps : (n : ℕ) (r : Run) (reason : Bytes) (at : ℕ) → nth b.runs n ≡ Some r → is_open (state_of r.history) ≡ true → Keeps (AddTurn n (record { at = now_of r at; input = Terminated reason; commands = [] }) ∷ [])
  close_keeps n r reason at there opened =
      let its : IsSoundRun u b r = get_all (IsSoundRun u b) b.runs (n - 1) r (nth_place b.runs n r there) h.runs in
      let left = stands_left its.program r.history its.place (well_formed_tried its.program (text_well_formed u b r.text its.program w its.its_text)) its.stands in
      let later : its.place.moment ≤ now_of r at = subst (λ m. m ≤ now_of r at) left.moment (le-max_right at (moment_of r.history)) in
      closed_keeps u w b h n r there its.program its.its_text its.place its.stands (now_of r at) reason later (ap is_open (sym left.leaves) ∙ opened)

  turns_covered : CoversTurns u b Keeps
  turns_covered =
      record {
        nothing = h;
        turn = λ n r p k at i t taken.
            let stands = taken_stands u b n r p k at i t (sound_stands u b h) taken in
            let made : Turn = record { at = now_of r at; input = i; commands = t.0 } in
            subst (λ (x : Book). IsSound u x) (sym (turn_put b n r made taken.there))
            (turn_keeps u w b h n r taken.there p taken.reads k stands.0 made t.1 stands.1 taken.no_start (turned_is p Fresh k (now_of r at) i t.0 t.1 taken.turn));
        next = λ n r p k at i t taken vs first ends begins.
            let stands = taken_stands u b n r p k at i t (sound_stands u b h) taken in
            let made = turned_is p Fresh k (now_of r at) i t.0 t.1 taken.turn in
            next_keeps u w b h n r taken.there p taken.reads k stands.0 (record { at = now_of r at; input = i; commands = t.0 }) t.1 stands.1 taken.no_start made
            (delivered_open p k i made.start taken.no_start made.delivered) vs first ends begins;
        full = λ n r p k at i t taken.
            let stands = taken_stands u b n r p k at i t (sound_stands u b h) taken in
            let made = turned_is p Fresh k (now_of r at) i t.0 t.1 taken.turn in
            closed_keeps u w b h n r taken.there p taken.reads k stands.0 (now_of r at) history_limit stands.1 (delivered_open p k i made.start taken.no_start made.delivered);
      }

  covered : Covers u b Keeps
  covered =
      record {
        text = λ body p reads new. sound_text u b body h;
        run = λ request flow text body vs at p t new none there reads made.
            let first = first_turn_is p at vs t made in
            sound_run u b (with_turn t (unbegun_run flow (Some request) text)) h (first_run u b flow (Some request) text t p first.0 w reads first.1) (none_open b flow none);
        closed = close_keeps;
        attempt = attempt_keeps;
        other = λ n text r body p k there its reads stands. text_keeps n text r p k there reads stands;
      }

---- Commands

pub fired_keeps : (u : Rules) (at : ℕ) → ReadsWellFormed u → (b : Book) (d : Due) → IsSound u b → IsSound u (fired_book u at b d)
fired_keeps u at w b d h = fired_has u b (λ cs. IsSound u (changed_by b cs)) (turns_covered u w b h) at d

pub step_keeps : (u : Rules) (b : Book) (c : Command) → ReadsWellFormed u → IsSound u b → IsSound u (after_one u b c)
step_keeps u b c w h = changes_have u b (λ cs. IsSound u (changed_by b cs)) (turns_covered u w b h) (covered u w b h) (λ at. tick_keeps u at (IsSound u) (fired_keeps u at w) b h) c

pub after_keeps : SoundAfter
after_keeps u b [] w h = h
after_keeps u b (c ∷ cs) w h = after_keeps u (after_one u b c) cs w (step_keeps u b c w h)

-- what is equal to the book after commands is sound too
pub sound_book : (u : Rules) (b b2 : Book) (cs : List Command) → b2 ≡ after u b cs → ReadsWellFormed u → IsSound u b → IsSound u b2
sound_book u b b2 cs e w h = subst (IsSound u) (sym e) (after_keeps u b cs w h)

pub nothing_sound : NoBookIsSound
nothing_sound u =
    record {
      runs = All-nil (IsSoundRun u no_book);
      one_open = λ i j r s gi gj f oi oj. absurd (none-some r gi);
    }
