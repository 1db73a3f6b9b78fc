-- A standing history with one more fresh turn stands.
use Rattle.std.proofs.Common.{◌≡◌, ℕ, suc, zero, ◌+◌, ◌≤◌, List, [], ◌∷◌, ◌++◌, length, refl, sym, ap, ◌∙◌, subst, arith, Some, None, Bool, false, length-append}
use Rattle.std.specs.Prelude.{bytes_eq, if◌then◌else◌, slice_get}
use Rattle.std.proofs.lemmas.List.{append-nil}
use Rattle.flow_base.specs.Syntax.{Bytes, Program}
use Rattle.flow_base.specs.declared.event.Cmd.{Cmd}
use Rattle.flow_base.specs.declared.event.Cmd.TheVariants.{RecordMarker}
use Rattle.flow_base.specs.declared.event.Input.{Input}
use Rattle.flow_base.specs.declared.event.What.{What}
use Rattle.flow_base.specs.declared.event.What.TheVariants.{Came, Asked}
use Rattle.flow_base.specs.declared.event.Event.{Event}
use Rattle.flow_model.specs.Rest.{is_done}
use Rattle.flow_model.specs.Configuration.{is_open, Configuration, first_configuration}
use Rattle.flow_model.specs.Step.{Setting, move}
use Rattle.flow_model.specs.Deliver.{Progress}
use Rattle.flow_model.specs.Turn.{Frame, next, setting, after_move, steps, go_on, Fresh, Recorded, answer_of, is_marker, Turn, frame, ended}
use Rattle.flow_base.specs.declared.event.Cmd.TheVariants.{Complete}
use Rattle.flow_base.specs.declared.value.Value.TheVariants.{Text}
use Rattle.flow_model.specs.Turned.{traces, turn_events}
use Rattle.flow_model.specs.Stands.{Leads, Stands}
use Rattle.flow_model.proofs.Again.{asked_grows, fresh_is_recorded}

abbrev with_answers : (ℕ → Bytes → Bool) → Frame → Frame
with_answers h f = record f { answer = h }

-- steps see no answers beyond the commands that they ask
steps_as : (n : ℕ) (f : Frame) (h : ℕ → Bytes → Bool) (p last : Progress) → ((t : ℕ) → t ≤ length last.asked → (id : Bytes) → h t id ≡ f.answer t id) → steps n f p ≡ Some last → steps n (with_answers h f) p ≡ Some last
steps_as zero f h p last ag e = cc
steps_as (suc n) f h p last ag e =
    let grown = asked_grows (suc n) f p last e in
    let fits : length p.asked ≤ length last.asked = subst (λ (cs : List Cmd). length p.asked ≤ length cs) (sym grown.1) (omega (arith, length-append p.asked grown.0)) in
    let alike : setting (with_answers h f) p ≡ setting f p = λ x. record (setting f p) { answer = λ id. ag (length p.asked) fits id x } in
    let same : next (with_answers h f) p ≡ next f p = ap (λ (s : Setting). if is_open p.state then (if is_done p.rest then Some (ended p (Complete (Text []))) else after_move p (move s p.store p.rest)) else None) alike in
    ap (λ o. go_on (with_answers h f) o p (steps n (with_answers h f))) same
    ∙ elim (next f p) as (λ o. go_on f o p (steps n f) ≡ Some last → go_on (with_answers h f) o p (steps n (with_answers h f)) ≡ Some last) [
      | None ↦ λ v. v
      | Some q ↦ λ v. steps_as n f h q last ag v
    ] e

-- no marker stands where an input does
abbrev BeginsWithInput : List Event → Type 0
BeginsWithInput [] = Unit {0}
BeginsWithInput (e ∷ es) = (i : Input) × (e.what ≡ Came i)

abbrev marker_in : Bytes → What → Bool
marker_in id w = elim w [ Came i ↦ false | Asked c ↦ elim c [ RecordMarker i ↦ bytes_eq i id | _ ↦ false ] ]

grown_answer : (later more : List Event) (t : ℕ) (id : Bytes) → t ≤ length later → BeginsWithInput more → is_marker id (slice_get (later ++ more) t) ≡ is_marker id (slice_get later t)
grown_answer [] [] t id h b = refl
grown_answer [] (e ∷ es) zero id h b = ap (marker_in id) b.1
grown_answer [] (e ∷ es) (suc t) id h b = absurd (omega (arith, h))
grown_answer (x ∷ later) more zero id h b = refl
grown_answer (x ∷ later) more (suc t) id h b = grown_answer later more t id (omega (arith, h)) b

-- a recorded turn goes by its own traces alone, and what is recorded later changes nothing
longer : (p : Program) (k : Configuration) (at : ℕ) (i : Input) (cs : List Cmd) (k' : Configuration) (later more : List Event)
    → length cs ≤ length later → BeginsWithInput more → Turn p (Recorded later) k at i cs k' → Turn p (Recorded (later ++ more)) k at i cs k'
longer p k at i cs k' later more fits b t =
    record {
      start = t.start;
      delivered = t.delivered;
      count = t.count;
      last = t.last;
      runs = steps_as t.count (frame p k at i (Recorded later)) (answer_of (Recorded (later ++ more))) t.start t.last
          (λ n le id. grown_answer later more n id (omega (arith, le, fits, ap length t.asks)) b) t.runs;
      asks = t.asks;
      leaves = t.leaves;
    }

-- what is due is traced
due_fits : (p : Program) (n : ℕ) (due : List Cmd) (k : Configuration) (h : List Event) (k' : Configuration) → Leads p n due k h k' → length due ≤ length h
due_fits p n due k [] k' l = let e : length due ≡ 0 = ap length l.0 in omega (arith, e)
due_fits p n [] k (e ∷ later) k' l = omega arith
due_fits p n (c ∷ due) k (e ∷ later) k' l =
    let rest = due_fits p (suc n) l.0 l.1.0 later k' l.1.1.1 in
    let same : length l.0 ≡ length due = ap length l.1.1.0.3 in
    omega (arith, rest, same)

-- commands and their traces
own_lead : (p : Program) (n at : ℕ) (cs : List Cmd) (k : Configuration) → at ≡ k.moment → Leads p n cs k (traces n at cs) k
own_lead p n at [] k e = (refl, refl)
own_lead p n at (c ∷ cs) k e = (cs, (k, ((refl, e, refl, refl, refl), subst (λ m. Leads p m cs k (traces (n + 1) at cs) k) (omega arith) (own_lead p (n + 1) at cs k e))))

leads_on : (p : Program) (n m : ℕ) (due : List Cmd) (k : Configuration) (h : List Event) (k' : Configuration) (at : ℕ) (i : Input) (cs : List Cmd) (k2 : Configuration)
    → m ≡ n + length h → k'.moment ≤ at → Turn p Fresh k' at i cs k2 → Leads p n due k h k' → Leads p n due k (h ++ turn_events m at i cs) k2
leads_on p n m due k [] k' at i cs k2 c le t l =
    let t1 = subst (λ (q : Configuration). Turn p Fresh q at i cs k2) (sym l.1) t in
    let t2 = subst (λ (es : List Event). Turn p (Recorded es) k at i cs k2) (append-nil (traces (m + 1) at cs)) (fresh_is_recorded p k at i cs k2 (m + 1) [] t1) in
    let moved : k.moment ≤ at = subst (λ (q : Configuration). q.moment ≤ at) (sym l.1) le in
    let at_end : at ≡ k2.moment = sym (ap (λ (q : Configuration). q.moment) t1.leaves) in
    let tail = subst (λ j. Leads p j cs k2 (traces (m + 1) at cs) k2) (omega (arith, c)) (own_lead p (m + 1) at cs k2 at_end) in
    subst (λ (d : List Cmd). Leads p n d k (turn_events m at i cs) k2) (sym l.0)
    (cs, (k2, ((omega (arith, c), moved, (i, refl, t2)), tail)))
leads_on p n m [] k (e ∷ later) k' at i cs k2 c le t l =
    let a = l.1.1.0 in
    let more = turn_events m at i cs in (
      l.0,
      (
        l.1.0,
        (
          (a.0, a.1, (a.2.0, a.2.1, longer p k e.at a.2.0 l.0 l.1.0 later more (due_fits p (suc n) l.0 l.1.0 later k' l.1.1.1) (i, refl) a.2.2)),
          leads_on p (suc n) m l.0 l.1.0 later k' at i cs k2 (omega (arith, c)) le t l.1.1.1,
        ),
      ),
    )
leads_on p n m (d ∷ due) k (e ∷ later) k' at i cs k2 c le t l =
    (l.0, (l.1.0, (l.1.1.0, leads_on p (suc n) m l.0 l.1.0 later k' at i cs k2 (omega (arith, c)) le t l.1.1.1)))

-- one more fresh turn
pub stands_on : (p : Program) (h : List Event) (k : Configuration) (at : ℕ) (i : Input) (cs : List Cmd) (k2 : Configuration)
    → Stands p h k → k.moment ≤ at → Turn p Fresh k at i cs k2 → Stands p (h ++ turn_events (length h + 1) at i cs) k2
stands_on p h k at i cs k2 s le t = (
  (λ e. let n : length (h ++ turn_events (length h + 1) at i cs) ≡ 0 = ap length e in omega (arith, n, length-append h (turn_events (length h + 1) at i cs))),
  leads_on p 1 (length h + 1) [] first_configuration h k at i cs k2 (omega arith) le t s.1,
)

-- a first fresh turn
pub stands_first : (p : Program) (at : ℕ) (i : Input) (cs : List Cmd) (k : Configuration) → Turn p Fresh first_configuration at i cs k → Stands p (turn_events 1 at i cs) k
stands_first p at i cs k t = (
  (λ e. let n : length (turn_events 1 at i cs) ≡ 0 = ap length e in omega (arith, n)),
  leads_on p 1 1 [] first_configuration [] first_configuration at i cs k (omega arith) (omega arith) t (refl, refl),
)
