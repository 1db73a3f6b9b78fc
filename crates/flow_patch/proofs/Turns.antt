-- A whole turn under the old program, followed under the new one.
use Rattle.std.proofs.Common.{◌≡◌, ℕ, suc, zero, ◌<◌, ◌≤◌, List, [], ◌∷◌, length, refl, sym, ap, ◌∙◌, subst, arith, Option, Some, None, Bool, true, false, ⊎_elim, inl}
use Rattle.std.specs.Prelude.{if◌then◌else◌, ◌⊎◌}
use Rattle.std.specs.List.{AllByRecursion}
use Rattle.std.proofs.lemmas.List.{length-append}
use Rattle.flow_base.specs.Syntax.{Bytes, ActivityType}
use Rattle.flow_base.specs.declared.value.Value.TheVariants as V
use Rattle.flow_base.specs.declared.event.Cmd.TheVariants.{Complete}
use Rattle.flow_model.specs.Rest.{Rest, is_done}
use Rattle.flow_model.specs.Configuration.{is_open}
use Rattle.flow_model.specs.Step.{Move, Stays, Goes, Asks, Ends, move}
use Rattle.flow_model.specs.Deliver.{Progress}
use Rattle.flow_model.specs.Turn.{Frame, next, setting, ended, after_move, steps, go_on}
use Rattle.flow_patch.proofs.Own.{OwnRest, OwnCmd, NearDecided, with_decided, Twin, with_more, move_twin}
use Rattle.flow_patch.proofs.Simulate.{twin, Sim, more_frame, Ahead, Late, Along, onward, one_own}
use Rattle.flow_model.specs.Weights.{weight_of}
use Rattle.flow_model.proofs.Weight.{next_lighter, rests_here, one_more}

abbrev pub WasNone : {A : Type 0} → Option A → Type 0
WasNone None = Unit {0}
WasNone (Some x) = ⊥

pub none_some : {A : Type 0} (x : A) → ◌≡◌ {A = Option A} None (Some x) → ⊥
none_some {A} x e = subst (WasNone {A = A}) e tt

-- commands are only added
abbrev Grows : Progress → Option Progress → Type 0
Grows p None = Unit {0}
Grows p (Some q) = length p.asked ≤ length q.asked

grows_move : (p : Progress) (m : Move) → Grows p (after_move p m)
grows_move p Stays = tt
grows_move p (Goes r t) = omega arith
grows_move p (Asks r t c) = omega (arith, length-append p.asked (c ∷ []))
grows_move p (Ends c) = omega (arith, length-append p.asked (c ∷ []))

grows_next : (g : Frame) (p : Progress) → Grows p (next g p)
grows_next g p =
    elim (is_open p.state) as (λ b. Grows p (if b then (if is_done p.rest then Some (ended p (Complete (V.Text []))) else after_move p (move (setting g p) p.store p.rest)) else None)) [
      | true ↦ elim (is_done p.rest) as (λ b. Grows p (if b then Some (ended p (Complete (V.Text []))) else after_move p (move (setting g p) p.store p.rest))) [
        | true ↦ grows_move p (Ends (Complete (V.Text [])))
        | false ↦ grows_move p (move (setting g p) p.store p.rest)
      ]
      | false ↦ tt
    ]

pub grows : (n : ℕ) (g : Frame) (p last : Progress) → steps n g p ≡ Some last → length p.asked ≤ length last.asked
grows zero g p last e = absurd (none_some last e)
grows (suc n) g p last e =
    elim (next g p) as (λ o. Grows p o → go_on g o p (steps n g) ≡ Some last → length p.asked ≤ length last.asked) [
      | None ↦ λ h x. let s : p ≡ last = cc x in subst (λ (q : Progress). length p.asked ≤ length q.asked) s (omega arith)
      | Some q ↦ λ h x. omega (arith, h, grows n g q last x)
    ] (grows_next g p) e

-- the old program's turn asks for no new marker
abbrev OwnMove : (Bytes → Bool) → List ActivityType → Move → Type 0
OwnMove f acts Stays = Unit {0}
OwnMove f acts (Goes q t) = OwnRest f acts q
OwnMove f acts (Asks q t c) = OwnRest f acts q × OwnCmd f c
OwnMove f acts (Ends c) = OwnCmd f c

twin_own : (f : Bytes → Bool) (acts : List ActivityType) (m n : Move) → Twin f acts m n → OwnMove f acts m
twin_own f acts Stays Stays a = tt
twin_own f acts (Goes q t) (Goes x u) a = a.1
twin_own f acts (Asks q t c) (Asks x u d) a = (a.1, a.4)
twin_own f acts (Ends c) (Ends d) a = a.1
twin_own f acts m n a = absurd a

hidden : (Bytes → Bool) → (Bytes → Option Bool) → Bytes → Option Bool
hidden f e id = if f id then None else e id

hidden_near : (f : Bytes → Bool) (e : Bytes → Option Bool) → NearDecided f e (hidden f e)
unfolding hidden
hidden_near f e id = ((λ h. rw h), (λ h. rw h (inl refl)))

abbrev OwnNext : (Bytes → Bool) → List ActivityType → Option Progress → Type 0
OwnNext f acts None = Unit {0}
OwnNext f acts (Some q) = OwnRest f acts q.rest × AllByRecursion (OwnCmd f) q.asked

own_after : (f : Bytes → Bool) (acts : List ActivityType) (p : Progress) (m : Move) → AllByRecursion (OwnCmd f) p.asked → OwnMove f acts m → OwnNext f acts (after_move p m)
own_after f acts p Stays a o = tt
own_after f acts p (Goes r t) a o = (o, a)
own_after f acts p (Asks r t c) a o = (o.0, one_own f p.asked c a o.1)
own_after f acts p (Ends c) a o = (tt, one_own f p.asked c a o)

own_next : (f : Bytes → Bool) (g : Frame) (p : Progress) → OwnRest f g.activities p.rest → AllByRecursion (OwnCmd f) p.asked → OwnNext f g.activities (next g p)
own_next f g p o a =
    let m = move (setting g p) p.store p.rest in
    let w = twin_own f g.activities m (move (with_more (setting g p) []) (with_decided p.store (hidden f p.store.decided)) p.rest) (move_twin f (setting g p) [] p.store (hidden f p.store.decided) (hidden_near f p.store.decided) p.rest o) in
    elim (is_open p.state) as (λ b. OwnNext f g.activities (if b then (if is_done p.rest then Some (ended p (Complete (V.Text []))) else after_move p m) else None)) [
      | true ↦ elim (is_done p.rest) as (λ b. OwnNext f g.activities (if b then Some (ended p (Complete (V.Text []))) else after_move p m)) [
        | true ↦ (tt, one_own f p.asked (Complete (V.Text [])) a tt)
        | false ↦ own_after f g.activities p m a w
      ]
      | false ↦ tt
    ]

pub own_steps : (f : Bytes → Bool) (n : ℕ) (g : Frame) (p last : Progress) → OwnRest f g.activities p.rest → AllByRecursion (OwnCmd f) p.asked → steps n g p ≡ Some last → OwnRest f g.activities last.rest × AllByRecursion (OwnCmd f) last.asked
own_steps f zero g p last o a e = absurd (none_some last e)
own_steps f (suc n) g p last o a e =
    elim (next g p) as (λ x. OwnNext f g.activities x → go_on g x p (steps n g) ≡ Some last → OwnRest f g.activities last.rest × AllByRecursion (OwnCmd f) last.asked) [
      | None ↦ λ h x. let s : p ≡ last = cc x in (subst (λ (q : Progress). OwnRest f g.activities q.rest) s o, subst (λ (q : Progress). AllByRecursion (OwnCmd f) q.asked) s a)
      | Some q ↦ λ h x. own_steps f n g q last h.0 h.1 x
    ] (own_next f g p o a) e

-- the new program gets to the same end
pub record Follows (f : Bytes → Bool) (g : Frame) (more : List ActivityType) (start last : Progress) : Type 0 where
  pub count : ℕ
  pub rest : Rest
  pub decided : Bytes → Option Bool
  pub runs : steps count (more_frame g more) start ≡ Some (twin last rest decided)
  pub sim : Sim f g.activities last rest decided

abbrev pub Noes : (Bytes → Bool) → Frame → Progress → Type 0
Noes f g last = (j : ℕ) → j ≤ length last.asked → (id : Bytes) → f id ≡ true → g.answer j id ≡ false

abbrev pub Claim : (Bytes → Bool) → Frame → List ActivityType → Progress → ℕ → Type 0
Claim f g more last n = (p : Progress) (r : Rest) (d : Bytes → Option Bool) → Sim f g.activities p r d → steps n g p ≡ Some last → Follows f g more (twin p r d) last

inner : (f : Bytes → Bool) (g : Frame) (more : List ActivityType) (last : Progress) → Noes f g last → (n : ℕ) → Claim f g more last n → (w : ℕ) (p : Progress) (r : Rest) (d : Bytes → Option Bool) → weight_of (twin p r d) < w → Sim f g.activities p r d → steps (suc n) g p ≡ Some last → Follows f g more (twin p r d) last
inner f g more last noes n again zero p r d l s e = absurd (omega (arith, l))
inner f g more last noes n again (suc w) p r d l s e =
    ⊎_elim (λ (a : Ahead f g more p r d).
    let lighter = next_lighter (more_frame g more) (twin p r d) (twin p a.rest a.decided) a.goes in
    let h = inner f g more last noes n again w p a.rest a.decided (omega (arith, lighter, l)) a.sim e in
    record {
      count = suc h.count;
      rest = h.rest;
      decided = h.decided;
      runs = one_more (more_frame g more) (twin p r d) (twin p a.rest a.decided) h.count a.goes ∙ h.runs;
      sim = h.sim;
    })
    (λ (x : Late f g p r d ⊎ (((next g p ≡ None) × (next (more_frame g more) (twin p r d) ≡ None)) ⊎ Along f g more p r d)).
    ⊎_elim (λ (a : Late f g p r d).
    let h = again a.old r a.decided a.sim (sym (one_more g p a.old n a.goes) ∙ e) in
    subst (λ (q : Progress). Follows f g more q last) (sym a.same) h)
    (λ (y : ((next g p ≡ None) × (next (more_frame g more) (twin p r d) ≡ None)) ⊎ Along f g more p r d).
    ⊎_elim (λ (a : (next g p ≡ None) × (next (more_frame g more) (twin p r d) ≡ None)).
    let x : Some p ≡ Some last = sym (ap (λ o. go_on g o p (steps n g)) a.0) ∙ e in
    let same : p ≡ last = cc x in
    subst (λ (q : Progress). Follows f g more (twin p r d) q) same
    (record { count = 1; rest = r; decided = d; runs = rests_here (more_frame g more) (twin p r d) a.1; sim = s }))
    (λ (a : Along f g more p r d).
    let h = again a.old a.rest a.decided a.sim (sym (one_more g p a.old n a.goes_old) ∙ e) in
    record {
      count = suc h.count;
      rest = h.rest;
      decided = h.decided;
      runs = one_more (more_frame g more) (twin p r d) (twin a.old a.rest a.decided) h.count a.goes ∙ h.runs;
      sim = h.sim;
    })
    y)
    x)
    (onward f g more p r d s (noes (length p.asked) (grows (suc n) g p last e)))

pub follows : (f : Bytes → Bool) (g : Frame) (more : List ActivityType) (last : Progress) → Noes f g last → (n : ℕ) → Claim f g more last n
follows f g more last noes zero p r d s e = absurd (none_some last e)
follows f g more last noes (suc n) p r d s e =
    inner f g more last noes n (follows f g more last noes n) (suc (weight_of (twin p r d))) p r d (omega arith) s e
