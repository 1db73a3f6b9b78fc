-- Over a sound book a command that can't be decided would make a change for which no number is left.
use Rattle.std.proofs.Common.{◌≡◌, ℕ, zero, suc, ◌+◌, ◌<◌, List, [], ◌∷◌, length, refl, sym, ap, ◌∙◌, subst, arith, Option, Some, None, Result, Ok, Err, Bool, true, false, inl}
use Rattle.std.specs.Prelude.{if◌then◌else◌}
use Rattle.std.proofs.lemmas.Option.{none-some, same_Some}
use Rattle.flow_base.specs.Syntax.{Bytes, Program}
use Rattle.flow_base.specs.declared.value.Value.{Value}
use Rattle.flow_base.specs.declared.event.Cmd.{Cmd}
use Rattle.flow_base.specs.declared.event.Input.TheVariants.{Started}
use Rattle.flow_base.specs.declared.book.Turn.{Turn}
use Rattle.flow_base.specs.declared.book.Change.TheVariants.{AddText, AddRun}
use Rattle.flow_base.specs.declared.code.Code.{Code}
use Rattle.flow_base.specs.declared.code.Code.TheVariants.{NoText, BadArguments, AlreadyOpen}
use Rattle.flow_base.specs.declared.command.Command.TheVariants as command
use Rattle.flow_base.specs.declared.command.TextFault.{TextFault}
use Rattle.flow_base.specs.declared.command.Reply.{Reply}
use Rattle.flow_base.specs.declared.command.Reply.TheVariants as reply
use Rattle.flow_base.specs.declared.event.State.TheVariants.{Open}
use Rattle.flow_model.specs.Rest.{rest_of}
use Rattle.flow_model.specs.Configuration.{Configuration, first_configuration, none_decided}
use Rattle.flow_model.specs.Deliver.{Progress, all_fit, bound}
use Rattle.flow_model.specs.Turn.{Frame, Fresh, frame, next, go_on, steps, left_by}
use Rattle.flow_model.specs.Weights.{weight_of}
use Rattle.flow_model.specs.Turned.{turned, ends_at, goes_from}
use Rattle.flow_model.specs.Book.{Book, nth, text_number, requested, open_run}
use Rattle.flow_model.specs.Apply.{Rules, Outcome, none_there, must_be, must_hold, if_sound, program_if, first_turn, on_program, register, start, outcome}
use Rattle.flow_model.proofs.Weight.{next_lighter}
use Rattle.flow_machine.specs.Fitting.{HasUnfit}
use Rattle.flow_machine.specs.Soundness.{TextsRead}
use Rattle.flow_machine.specs.Stuck.{unless_there, where_there, where_holds, needs, IsFull, StuckRegister, StuckStart, IsStuck}
use Rattle.flow_machine.specs.Welcome.{IsUnnumbered, StuckUnnumbered}
use Rattle.flow_machine.proofs.Unstuck.{text_reads, signal_goes_on, complete_goes_on, fail_goes_on, upgrade_goes_on, list_goes_on}
use Rattle.flow_machine.proofs.TicksStand.{tick_goes_on}

---- A start whose arguments fit has a first turn

-- as many steps as what is left weighs lead to an end
steps_end : (m : ℕ) (f : Frame) (p : Progress) → weight_of p < m → (q : Progress) × (steps m f p ≡ Some q)
steps_end zero f p less = absurd (omega (arith, less))
steps_end (suc m) f p less =
    elim (next f p) as (λ o. next f p ≡ o → (q : Progress) × (go_on f o p (steps m f) ≡ Some q)) [
      | None ↦ λ e. (p, refl)
      | Some r ↦ λ e. steps_end m f r (omega (arith, next_lighter f p r e, less))
    ] refl

turn_is_there : (p : Program) (at : ℕ) (vs : List Value) → all_fit p.parameters vs ≡ true → (x : List Cmd × Configuration) × (turned p Fresh first_configuration at (Started vs) ≡ Some x)
unfolding turned
turn_is_there p at vs fits =
    let f : Frame = frame p first_configuration at (Started vs) Fresh in
    let s : Progress = record { rest = rest_of p.body; store = record { variables = bound p.parameters vs; buffer = []; decided = none_decided; tests = 0 }; asked = []; state = Open } in
    let last = steps_end (suc (weight_of s)) f s (omega arith) in
    ((last.0.asked, left_by f last.0), ap (λ (t : Bool). goes_from f (if t then Some s else None)) fits ∙ ap (ends_at f) last.1)

first_turn_is_there : (p : Program) (at : ℕ) (vs : List Value) → all_fit p.parameters vs ≡ true → (t : Turn) × (first_turn p at vs ≡ Some t)
first_turn_is_there p at vs fits =
    let its = turn_is_there p at vs fits in
    (_, ap (λ (o : Option (List Cmd × Configuration)). elim o [ None ↦ None | Some x ↦ Some (record { at = at; input = Started vs; commands = x.0 }) ]) its.1)

---- Tests, and what stands behind the last one

module _ (b : Book) where
  abbrev Ends : Outcome → Type 0
  Ends o = HasUnfit IsUnnumbered b o.changes

  unless_ends : {A : Type 0} (o : Option A) (X : Type 0) (answer : A → Reply) (go : Outcome) → (X → Ends go) → unless_there o X → Ends (none_there o answer go)
  unless_ends None X answer go f h = f h
  unless_ends (Some x) X answer go f h = absurd h

  where_ends : {A : Type 0} (o : Option A) (X : A → Type 0) (c : Code) (go : A → Outcome) → ((x : A) → o ≡ Some x → X x → Ends (go x)) → where_there o X → Ends (must_be o c go)
  where_ends None X c go f h = absurd h
  where_ends (Some x) X c go f h = f x refl h

  holds_ends : (t : Bool) (X : Type 0) (c : Code) (go : Outcome) → (t ≡ true → X → Ends go) → where_holds t X → Ends (must_hold t c go)
  holds_ends true X c go f h = f refl h
  holds_ends false X c go f h = absurd h

  needs_ends : {A : Type 0} (o : Option A) (X : A → Type 0) (go : A → Outcome) → (o ≡ None → ⊥) → ((x : A) → X x → Ends (go x)) → needs o X → Ends (if_sound o go)
  needs_ends None X go f g h = absurd (f refl)
  needs_ends (Some x) X go f g h = g x h

  -- what is there goes on
  there_ends : {A : Type 0} (o : Option A) (x : A) (go : A → Outcome) → o ≡ Some x → Ends (go x) → Ends (if_sound o go)
  there_ends None x go e h = absurd (none-some x e)
  there_ends (Some y) x go e h = subst (λ z. Ends (go z)) (sym (same_Some y x e)) h

  program_ends : (r : Result Program TextFault) (X : Type 0) (go : Outcome) → (X → Ends go) → where_there (program_if r) (λ p. X) → Ends (on_program r (λ p. go))
  program_ends (Ok p) X go f h = f h
  program_ends (Err e) X go f h = absurd h

---- Commands

module _ (u : Rules) (b : Book) where
  register_ends : (body : Bytes) → StuckRegister u.program_of b body → Ends b (register u.program_of b body)
  unfolding StuckRegister register
  register_ends body =
      let adds : Outcome = record { reply = reply.Registered (length b.texts + 1); changes = AddText body ∷ [] } in
      program_ends b (u.program_of body) (unless_there (text_number b body) (IsFull (length b.texts))) (none_there (text_number b body) reply.Registered adds)
      (unless_ends b (text_number b body) (IsFull (length b.texts)) reply.Registered adds (λ full. inl full))

  start_ends : (request flow : Bytes) (text : ℕ) (vs : List Value) (at : ℕ) → TextsRead u b → StuckStart u.program_of b request flow text vs → Ends b (start u.program_of b request flow text vs at)
  unfolding StuckStart start
  start_ends request flow text vs at reads =
      let full : Type 0 = IsFull (length b.runs) in
      let free : Type 0 = unless_there (open_run b flow) full in
      let fit = λ (p : Program). where_holds (all_fit p.parameters vs) free in
      let known = λ (body : Bytes). needs (program_if (u.program_of body)) fit in
      let adds : Turn → Outcome = λ t. record { reply = reply.Started (length b.runs + 1); changes = AddRun flow (Some request) text t ∷ [] } in
      let begins : Program → Outcome = λ p. if_sound (first_turn p at vs) adds in
      let alone : Program → Outcome = λ p. none_there (open_run b flow) (λ n. reply.Refused AlreadyOpen) (begins p) in
      let fits : Program → Outcome = λ p. must_hold (all_fit p.parameters vs) BadArguments (alone p) in
      let read : Bytes → Outcome = λ body. if_sound (program_if (u.program_of body)) fits in
      unless_ends b (requested b request) (where_there (nth b.texts text) known) reply.Duplicate (must_be (nth b.texts text) NoText read)
      (where_ends b (nth b.texts text) known NoText read
      (λ body there. needs_ends b (program_if (u.program_of body)) fit fits (text_reads u b reads text body there)
      (λ p. holds_ends b (all_fit p.parameters vs) free BadArguments (alone p)
      (λ they_fit. unless_ends b (open_run b flow) full (λ n. reply.Refused AlreadyOpen) (begins p)
      (λ past. let first = first_turn_is_there p at vs they_fit in there_ends b (first_turn p at vs) first.0 adds first.1 (inl past))))))

pub stuck_unnumbered : StuckUnnumbered
unfolding IsStuck outcome
stuck_unnumbered u b (command.Register body) reads h stuck = register_ends u b body stuck
stuck_unnumbered u b (command.Start s) reads h stuck = start_ends u b s.request s.flow s.text s.arguments s.at reads stuck
stuck_unnumbered u b (command.Signal request flow name v at) reads h stuck = absurd (signal_goes_on u b request flow name v h stuck)
stuck_unnumbered u b (command.Complete c) reads h stuck = absurd (complete_goes_on u b c.run c.event c.attempt c.value h stuck)
stuck_unnumbered u b (command.Fail f) reads h stuck = absurd (fail_goes_on u b f.run f.event f.attempt f.reason h stuck)
stuck_unnumbered u b (command.Tick at) reads h stuck = absurd (tick_goes_on u b at h stuck)
stuck_unnumbered u b (command.Terminate run reason at) reads h stuck = absurd stuck
stuck_unnumbered u b (command.Upgrade run text) reads h stuck = absurd (upgrade_goes_on u b run text reads stuck)
stuck_unnumbered u b (command.Describe run) reads h stuck = absurd stuck
stuck_unnumbered u b (command.History run) reads h stuck = absurd stuck
stuck_unnumbered u b (command.Open from most) reads h stuck = absurd (list_goes_on u b from most h stuck)
