-- What is computed is what the relations say.
use Rattle.std.proofs.Common.{◌≡◌, ℕ, suc, zero, ◌<◌, List, [], ◌∷◌, refl, sym, ap, ◌∙◌, arith, Some, None}
use Rattle.flow_base.specs.Syntax.{Program}
use Rattle.flow_base.specs.declared.event.Cmd.{Cmd}
use Rattle.flow_base.specs.declared.event.Input.{Input}
use Rattle.flow_base.specs.declared.event.What.{What}
use Rattle.flow_base.specs.declared.event.What.TheVariants.{Came, Asked}
use Rattle.flow_base.specs.declared.event.Event.{Event}
use Rattle.flow_model.specs.Configuration.{Configuration, first_configuration}
use Rattle.flow_model.specs.Deliver.{deliver, Progress}
use Rattle.flow_model.specs.Turn.{Answers, Recorded, Turn, frame, Frame, steps, next, go_on, left_by}
use Rattle.flow_model.specs.Stands.{Leads, Stands}
use Rattle.flow_model.specs.Weights.{weight_of}
use Rattle.flow_model.specs.Turned.{turned, ends_at, goes_from, and_then, position_from, position_by_inputs}
use Rattle.flow_model.proofs.Weight.{next_lighter}

-- what some number of steps reaches, as many as what is left weighs reach
pub enough : (m n : ℕ) (f : Frame) (p q : Progress) → steps n f p ≡ Some q → weight_of p < m → steps m f p ≡ Some q
enough zero n f p q h lt = absurd (omega (arith, lt))
enough (suc m) zero f p q h lt = cc
enough (suc m) (suc n) f p q h lt =
    elim (next f p) as (λ o. next f p ≡ o → go_on f o p (steps n f) ≡ Some q → go_on f o p (steps m f) ≡ Some q) [
      | None ↦ λ e v. v
      | Some r ↦ λ e v. enough m n f r q v (omega (arith, next_lighter f p r e, lt))
    ] refl h

pub turn_computed : (p : Program) (answers : Answers) (k : Configuration) (at : ℕ) (i : Input) (cs : List Cmd) (k' : Configuration) → Turn p answers k at i cs k' → turned p answers k at i ≡ Some (cs, k')
unfolding turned
turn_computed p answers k at i cs k' t =
    let f : Frame = frame p k at i answers in
    ap (goes_from f) t.delivered
    ∙ ap (ends_at f) (enough (suc (weight_of t.start)) t.count f t.start t.last t.runs (omega arith))
    ∙ λ x. Some (sym t.asks x, sym t.leaves x)

leads_computed : (p : Program) (n : ℕ) (due : List Cmd) (k : Configuration) (h : List Event) (k' : Configuration) → Leads p n due k h k' → position_from p k h ≡ Some k'
unfolding position_from
leads_computed p n due k [] k' l = ap Some l.1
leads_computed p n [] k (e ∷ later) k' l =
    let rest = leads_computed p (suc n) l.0 l.1.0 later k' l.1.1.1 in
    let a = l.1.1.0 in
    ap (λ (w : What). elim w [ Came i ↦ and_then (turned p (Recorded later) k e.at i) (λ q. position_from p q later) | Asked c ↦ position_from p k later ]) a.2.1
    ∙ ap (λ o. and_then o (λ q. position_from p q later)) (turn_computed p (Recorded later) k e.at a.2.0 l.0 l.1.0 a.2.2)
    ∙ rest
leads_computed p n (c ∷ due) k (e ∷ later) k' l =
    let rest = leads_computed p (suc n) l.0 l.1.0 later k' l.1.1.1 in
    let a = l.1.1.0 in
    ap (λ (w : What). elim w [ Came i ↦ and_then (turned p (Recorded later) k e.at i) (λ q. position_from p q later) | Asked d ↦ position_from p k later ]) a.2
    ∙ ap (λ (q : Configuration). position_from p q later) (sym a.4)
    ∙ rest

pub position_computed : (p : Program) (h : List Event) (k : Configuration) → Stands p h k → position_by_inputs p h ≡ Some k
position_computed p h k s = leads_computed p 1 [] first_configuration h k s.1

-- and the other way: a turn that is computed is one
pub turned_is : (p : Program) (answers : Answers) (k : Configuration) (at : ℕ) (i : Input) (cs : List Cmd) (k' : Configuration) → turned p answers k at i ≡ Some (cs, k') → Turn p answers k at i cs k'
unfolding turned
turned_is p answers k at i cs k' h =
    let f : Frame = frame p k at i answers in
    elim (deliver p k i) as (λ o. deliver p k i ≡ o → goes_from f o ≡ Some (cs, k') → Turn p answers k at i cs k') [
      | None ↦ λ e v. cc
      | Some s ↦ λ e v.
          elim (steps (suc (weight_of s)) f s) as (λ o. steps (suc (weight_of s)) f s ≡ o → ends_at f o ≡ Some (cs, k') → Turn p answers k at i cs k') [
            | None ↦ λ d w. cc
            | Some q ↦ λ d w.
                let pair : (q.asked, left_by f q) ≡ (cs, k') = cc w in
                record { start = s; delivered = e; count = suc (weight_of s); last = q; runs = d; asks = sym (ap (λ (x : List Cmd × Configuration). x.0) pair); leaves = sym (ap (λ (x : List Cmd × Configuration). x.1) pair) }
          ] refl v
    ] refl h
