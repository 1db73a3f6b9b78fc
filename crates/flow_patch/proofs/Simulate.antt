-- The steps of a turn under the old program, followed under the new one.
use Rattle.std.proofs.Common.{◌≡◌, ◌+◌, List, [], ◌∷◌, ◌++◌, length, refl, sym, ap, ◌∙◌, subst, Option, Some, None, Bool, true, false, ⊎_elim, inl, inr}
use Rattle.std.specs.Prelude.{bytes_eq, if◌then◌else◌, min, ◌⊎◌}
use Rattle.std.specs.List.{AllByRecursion}
use Rattle.std.proofs.lemmas.Bool.{true≢false}
use Rattle.flow_base.specs.Syntax.{Bytes, ActivityType}
use Rattle.flow_base.specs.declared.value.Value.TheVariants as V
use Rattle.flow_base.specs.declared.event.Cmd.{Cmd}
use Rattle.flow_base.specs.declared.event.Cmd.TheVariants.{Complete}
use Rattle.flow_model.specs.Rest.{Rest, Done, is_done, open_waits}
use Rattle.flow_model.specs.Configuration.{is_open}
use Rattle.flow_model.specs.Step.{Store, Setting, Move, Stays, Goes, Asks, Ends, move, decide, wait_limit}
use Rattle.flow_model.specs.Deliver.{Progress}
use Rattle.flow_model.specs.Turn.{Frame, next, setting, ended, after_move}
use Rattle.flow_patch.specs.Wrap.{without_new}
use Rattle.flow_run.specs.Shown.{waits_of}
use Rattle.flow_patch.proofs.Normal.{cases, Alike, NormTo, SameStore, done_stays}
use Rattle.flow_patch.proofs.Passed.{plain_rest, Silent, plain_steps}
use Rattle.flow_patch.proofs.Waits.{waits_norm, count_waits}
use Rattle.flow_patch.proofs.Own.{OwnRest, OwnCmd, NearDecided, with_decided, Near, near_passed, Twin, with_more, move_twin}

-- no id is new
abbrev pub none : Bytes → Bool
none id = false

-- the two moves end in rests of one normal form
abbrev pub Both : (Bytes → Bool) → List ActivityType → Move → Move → Type 0
Both f acts Stays Stays = Unit {0}
Both f acts (Goes q t) (Goes x u) = (plain_rest none q ≡ plain_rest f x) × OwnRest f acts q × Near f t u
Both f acts (Asks q t c) (Asks x u d) = (plain_rest none q ≡ plain_rest f x) × OwnRest f acts q × Near f t u × (c ≡ d) × OwnCmd f c
Both f acts (Ends c) (Ends d) = (c ≡ d) × OwnCmd f c
Both f acts m n = ⊥

abbrev OneNormal : (Bytes → Bool) → Rest → Rest → Type 0
OneNormal f q x = plain_rest none q ≡ plain_rest f x

met : (f : Bytes → Bool) (n k l : Move) → Alike (NormTo (without_new none)) SameStore n k → Alike (NormTo (without_new f)) SameStore l k → Alike (OneNormal f) SameStore n l
met f Stays Stays Stays a b = tt
met f (Goes q t) (Goes x u) (Goes z v) a b = (a.0 ∙ sym b.0, a.1 ∙ sym b.1)
met f (Asks q t c) (Asks x u d) (Asks z v e) a b = (a.0 ∙ sym b.0, a.1 ∙ sym b.1, a.2 ∙ sym b.2)
met f (Ends c) (Ends d) (Ends e) a b = a ∙ sym b
met f Stays Stays (Goes z v) a b = absurd b
met f Stays Stays (Asks z v e) a b = absurd b
met f Stays Stays (Ends e) a b = absurd b
met f (Goes q t) (Goes x u) Stays a b = absurd b
met f (Goes q t) (Goes x u) (Asks z v e) a b = absurd b
met f (Goes q t) (Goes x u) (Ends e) a b = absurd b
met f (Asks q t c) (Asks x u d) Stays a b = absurd b
met f (Asks q t c) (Asks x u d) (Goes z v) a b = absurd b
met f (Asks q t c) (Asks x u d) (Ends e) a b = absurd b
met f (Ends c) (Ends d) Stays a b = absurd b
met f (Ends c) (Ends d) (Goes z v) a b = absurd b
met f (Ends c) (Ends d) (Asks z v e) a b = absurd b
met f m n k a b = absurd a

near_is : (f : Bytes → Bool) (t u v : Store) → Near f t u → u ≡ v → Near f t v
near_is f t u v n e = (n.0, (sym e ∙ n.1.0, n.1.1))

both_by : (f : Bytes → Bool) (acts : List ActivityType) (m n l : Move) → Twin f acts m n → Alike (OneNormal f) SameStore n l → Both f acts m l
both_by f acts Stays Stays Stays a b = tt
both_by f acts (Goes q t) (Goes x u) (Goes z v) a b = (ap (plain_rest none) a.0 ∙ b.0, a.1, near_is f t u v a.2 b.1)
both_by f acts (Asks q t c) (Asks x u d) (Asks z v e) a b = (ap (plain_rest none) a.0 ∙ b.0, a.1, near_is f t u v a.2 b.1, a.3 ∙ b.2, a.4)
both_by f acts (Ends c) (Ends d) (Ends e) a b = (a.0 ∙ b, a.1)
both_by f acts Stays Stays (Goes z v) a b = absurd b
both_by f acts Stays Stays (Asks z v e) a b = absurd b
both_by f acts Stays Stays (Ends e) a b = absurd b
both_by f acts (Goes q t) (Goes x u) Stays a b = absurd b
both_by f acts (Goes q t) (Goes x u) (Asks z v e) a b = absurd b
both_by f acts (Goes q t) (Goes x u) (Ends e) a b = absurd b
both_by f acts (Asks q t c) (Asks x u d) Stays a b = absurd b
both_by f acts (Asks q t c) (Asks x u d) (Goes z v) a b = absurd b
both_by f acts (Asks q t c) (Asks x u d) (Ends e) a b = absurd b
both_by f acts (Ends c) (Ends d) Stays a b = absurd b
both_by f acts (Ends c) (Ends d) (Goes z v) a b = absurd b
both_by f acts (Ends c) (Ends d) (Asks z v e) a b = absurd b
both_by f acts m n k a b = absurd a

-- the old program passes something that the normal form does not show
pub record OldGoes (f : Bytes → Bool) (acts : List ActivityType) (u : Store) (y : Rest) (m : Move) : Type 0 where
  pub rest : Rest
  store : Store
  pub goes : m ≡ Goes rest store
  kept : plain_rest none rest ≡ y
  own : OwnRest f acts rest
  near : Near f store u

old_goes : (f : Bytes → Bool) (acts : List ActivityType) (m : Move) (x : Rest) (u : Store) (y : Rest) → plain_rest none x ≡ y → Twin f acts m (Goes x u) → OldGoes f acts u y m
old_goes f acts Stays x u y k a = absurd a
old_goes f acts (Goes q t) x u y k a = record { rest = q; store = t; goes = refl; kept = ap (plain_rest none) a.0 ∙ k; own = a.1; near = a.2 }
old_goes f acts (Asks q t c) x u y k a = absurd a
old_goes f acts (Ends c) x u y k a = absurd a

abbrev pub StepsBoth : (Bytes → Bool) → Setting → List ActivityType → Store → (Bytes → Option Bool) → Rest → Rest → Type 0
StepsBoth f s more t d r r' =
    Silent f (with_decided t d) (plain_rest f r') (move (with_more s more) (with_decided t d) r')
    ⊎ (OldGoes f s.activities (with_decided t d) (plain_rest none r) (move s t r)
    ⊎ ((is_done r ≡ is_done r') × Both f s.activities (move s t r) (move (with_more s more) (with_decided t d) r')))

-- one step of each, or of one of them
pub steps_both : (f : Bytes → Bool) (s : Setting) (more : List ActivityType) (t : Store) (d : Bytes → Option Bool) → NearDecided f t.decided d → ((id : Bytes) → f id ≡ true → s.answer id ≡ false) → (r r' : Rest) → OwnRest f s.activities r → plain_rest none r ≡ plain_rest f r' → StepsBoth f s more t d r r'
steps_both f s more t d n noes r r' o e =
    let u : Store = with_decided t d in
    let v : Setting = with_more s more in
    let w = move_twin f s more t d n r o in
    ⊎_elim (λ (k : Silent f u (plain_rest f r') (move v u r')). inl k)
    (λ (k : (is_done r' ≡ is_done (plain_rest f r')) × Alike (NormTo (without_new f)) SameStore (move v u r') (move v u (plain_rest f r'))).
    ⊎_elim (λ (j : Silent none u (plain_rest none r) (move v u r)).
    let g = old_goes f s.activities (move s t r) j.rest j.store (plain_rest none r) (j.kept tt) (subst (Twin f s.activities (move s t r)) j.goes w) in
    let same : j.store ≡ u = ⊎_elim (λ (x : j.store ≡ u). x) (λ (x : (id : Bytes) × ((none id ≡ true) × (j.store ≡ decide u id false))). absurd (true≢false (sym x.1.0))) j.passed in
    inr (inl (record { rest = g.rest; store = g.store; goes = g.goes; kept = g.kept; own = g.own; near = near_is f g.store j.store u g.near same })))
    (λ (j : (is_done r ≡ is_done (plain_rest none r)) × Alike (NormTo (without_new none)) SameStore (move v u r) (move v u (plain_rest none r))).
    inr (inr (
      j.0 ∙ ap is_done e ∙ sym k.0,
      both_by f s.activities (move s t r) (move v u r) (move v u r') w
          (met f (move v u r) (move v u (plain_rest f r')) (move v u r') (subst (λ y. Alike (NormTo (without_new none)) SameStore (move v u r) (move v u y)) e j.1) k.1),
    )))
    (plain_steps none v u (λ id x. absurd (true≢false (sym x))) r))
    (plain_steps f v u (λ id x. ⊎_elim (λ (a : d id ≡ None). inr (a, noes id x)) (λ (a : d id ≡ Some false). inl a) ((n id).1 x)) r')

-- The run under the new program, beside p under the old one.
abbrev pub twin : Progress → Rest → (Bytes → Option Bool) → Progress
twin p r d = record { rest = r; store = with_decided p.store d; asked = p.asked; state = p.state }

pub record Sim (f : Bytes → Bool) (acts : List ActivityType) (p : Progress) (r : Rest) (d : Bytes → Option Bool) : Type 0 where
  pub rests : plain_rest none p.rest ≡ plain_rest f r
  pub own : OwnRest f acts p.rest
  pub near : NearDecided f p.store.decided d
  pub own_asked : AllByRecursion (OwnCmd f) p.asked

pub same_waits : (f : Bytes → Bool) (r r' : Rest) → plain_rest none r ≡ plain_rest f r' → waits_of r' ≡ waits_of r
same_waits f r r' e = sym (waits_norm (without_new f) r') ∙ sym (ap waits_of e) ∙ waits_norm (without_new none) r

abbrev pub more_frame : Frame → List ActivityType → Frame
more_frame g more = record g { activities = g.activities ++ more }

same_setting : (g : Frame) (more : List ActivityType) (p : Progress) (r : Rest) (d : Bytes → Option Bool) → open_waits r ≡ open_waits p.rest → setting (more_frame g more) (twin p r d) ≡ with_more (setting g p) more
same_setting g more p r d e =
    ap (λ w. record { activities = g.activities ++ more; at = g.at; is_first = g.is_first; waits = min w wait_limit; event = g.events + length p.asked + 1; answer = g.answer (length p.asked) }) e

pub next_goes : (g : Frame) (p : Progress) → is_open p.state ≡ true → is_done p.rest ≡ false → next g p ≡ after_move p (move (setting g p) p.store p.rest)
next_goes g p e h = rw (e, h)

pub next_ends : (g : Frame) (p : Progress) → is_open p.state ≡ true → is_done p.rest ≡ true → next g p ≡ Some (ended p (Complete (V.Text [])))
next_ends g p e h = rw (e, h)

pub next_closed : (g : Frame) (p : Progress) → is_open p.state ≡ false → next g p ≡ None
next_closed g p e = rw e

pub record Ahead (f : Bytes → Bool) (g : Frame) (more : List ActivityType) (p : Progress) (r : Rest) (d : Bytes → Option Bool) : Type 0 where
  pub rest : Rest
  pub decided : Bytes → Option Bool
  pub goes : next (more_frame g more) (twin p r d) ≡ Some (twin p rest decided)
  pub sim : Sim f g.activities p rest decided

pub record Late (f : Bytes → Bool) (g : Frame) (p : Progress) (r : Rest) (d : Bytes → Option Bool) : Type 0 where
  pub old : Progress
  pub decided : Bytes → Option Bool
  pub goes : next g p ≡ Some old
  pub same : twin p r d ≡ twin old r decided
  pub sim : Sim f g.activities old r decided

pub record Along (f : Bytes → Bool) (g : Frame) (more : List ActivityType) (p : Progress) (r : Rest) (d : Bytes → Option Bool) : Type 0 where
  pub old : Progress
  pub rest : Rest
  pub decided : Bytes → Option Bool
  pub goes_old : next g p ≡ Some old
  pub goes : next (more_frame g more) (twin p r d) ≡ Some (twin old rest decided)
  pub sim : Sim f g.activities old rest decided

abbrev pub Onward : (Bytes → Bool) → Frame → List ActivityType → Progress → Rest → (Bytes → Option Bool) → Type 0
Onward f g more p r d =
    Ahead f g more p r d ⊎ (Late f g p r d ⊎ (((next g p ≡ None) × (next (more_frame g more) (twin p r d) ≡ None)) ⊎ Along f g more p r d))

pub one_own : (f : Bytes → Bool) (cs : List Cmd) (c : Cmd) → AllByRecursion (OwnCmd f) cs → OwnCmd f c → AllByRecursion (OwnCmd f) (cs ++ c ∷ [])
one_own f [] c a o = (o, tt)
one_own f (x ∷ cs) c a o = (a.0, one_own f cs c a.1 o)

along_both : (f : Bytes → Bool) (g : Frame) (more : List ActivityType) (p : Progress) (r : Rest) (d : Bytes → Option Bool) → Sim f g.activities p r d → (m n : Move) → next g p ≡ after_move p m → next (more_frame g more) (twin p r d) ≡ after_move (twin p r d) n → Both f g.activities m n → Onward f g more p r d
along_both f g more p r d s Stays Stays x y b = inr (inr (inl (x, y)))
along_both f g more p r d s (Goes q t) (Goes z u) x y b =
    inr (inr (inr (record {
      old = record p { rest = q; store = t };
      rest = z;
      decided = b.2.0;
      goes_old = x;
      goes = y ∙ ap (λ (v : Store). Some (record { rest = z; store = v; asked = p.asked; state = p.state })) b.2.1.0;
      sim = record { rests = b.0; own = b.1; near = b.2.1.1; own_asked = s.own_asked };
    })))
along_both f g more p r d s (Asks q t c) (Asks z u e) x y b =
    inr (inr (inr (record {
      old = record p { rest = q; store = t; asked = p.asked ++ c ∷ [] };
      rest = z;
      decided = b.2.0;
      goes_old = x;
      goes = y ∙ ap (λ (v : Store). Some (record { rest = z; store = v; asked = p.asked ++ e ∷ []; state = p.state })) b.2.1.0
          ∙ ap (λ (h : Cmd). Some (record { rest = z; store = with_decided t b.2.0; asked = p.asked ++ h ∷ []; state = p.state })) (sym b.3);
      sim = record { rests = b.0; own = b.1; near = b.2.1.1; own_asked = one_own f p.asked c s.own_asked b.4 };
    })))
along_both f g more p r d s (Ends c) (Ends e) x y b =
    inr (inr (inr (record {
      old = ended p c;
      rest = Done;
      decided = d;
      goes_old = x;
      goes = y ∙ ap (λ (h : Cmd). Some (ended (twin p r d) h)) (sym b.0);
      sim = record { rests = refl; own = tt; near = s.near; own_asked = one_own f p.asked c s.own_asked b.1 };
    })))
along_both f g more p r d s m n x y b = absurd b

-- a step that goes on is one of a rest that is not done
abbrev IsStep : Move → Type 0
IsStep Stays = ⊥
IsStep m = Unit {0}

pub not_done : (s : Setting) (t : Store) (r q : Rest) (u : Store) → move s t r ≡ Goes q u → is_done r ≡ false
not_done s t r q u e =
    ⊎_elim (λ (h : is_done r ≡ true). absurd (subst IsStep (sym e ∙ done_stays s t r h) tt)) (λ (h : is_done r ≡ false). h) (cases (is_done r))

pub onward : (f : Bytes → Bool) (g : Frame) (more : List ActivityType) (p : Progress) (r : Rest) (d : Bytes → Option Bool) → Sim f g.activities p r d → ((id : Bytes) → f id ≡ true → g.answer (length p.asked) id ≡ false) → Onward f g more p r d
onward f g more p r d s noes =
    ⊎_elim (λ (e : is_open p.state ≡ true).
    let c : setting (more_frame g more) (twin p r d) ≡ with_more (setting g p) more = same_setting g more p r d (count_waits r ∙ ap length (same_waits f p.rest r s.rests) ∙ sym (count_waits p.rest)) in
    let move_is = ap (λ (v : Setting). move v (with_decided p.store d) r) c in
    ⊎_elim (λ (k : Silent f (with_decided p.store d) (plain_rest f r) (move (with_more (setting g p) more) (with_decided p.store d) r)).
    let h = not_done (with_more (setting g p) more) (with_decided p.store d) r k.rest k.store k.goes in
    let n = next_goes (more_frame g more) (twin p r d) e h ∙ ap (after_move (twin p r d)) (move_is ∙ k.goes) in
    ⊎_elim (λ (a : k.store ≡ with_decided p.store d).
    inl (record {
      rest = k.rest;
      decided = d;
      goes = n ∙ ap (λ (v : Store). Some (record { rest = k.rest; store = v; asked = p.asked; state = p.state })) a;
      sim = record { rests = s.rests ∙ sym (k.kept tt); own = s.own; near = s.near; own_asked = s.own_asked };
    }))
    (λ (a : (id : Bytes) × ((f id ≡ true) × (k.store ≡ decide (with_decided p.store d) id false))).
    inl (record {
      rest = k.rest;
      decided = λ i. if bytes_eq i a.0 then Some false else d i;
      goes = n ∙ ap (λ (v : Store). Some (record { rest = k.rest; store = v; asked = p.asked; state = p.state })) a.1.1;
      sim = record { rests = s.rests ∙ sym (k.kept tt); own = s.own; near = near_passed f p.store.decided d a.0 a.1.0 s.near; own_asked = s.own_asked };
    }))
    k.passed)
    (λ (k : OldGoes f g.activities (with_decided p.store d) (plain_rest none p.rest) (move (setting g p) p.store p.rest)
    ⊎ ((is_done p.rest ≡ is_done r) × Both f g.activities (move (setting g p) p.store p.rest) (move (with_more (setting g p) more) (with_decided p.store d) r))).
    ⊎_elim (λ (j : OldGoes f g.activities (with_decided p.store d) (plain_rest none p.rest) (move (setting g p) p.store p.rest)).
    let h = not_done (setting g p) p.store p.rest j.rest j.store j.goes in
    inr (inl (record {
      old = record p { rest = j.rest; store = j.store };
      decided = j.near.0;
      goes = next_goes g p e h ∙ ap (after_move p) j.goes;
      same = ap (λ (v : Store). record { rest = r; store = v; asked = p.asked; state = p.state }) j.near.1.0;
      sim = record { rests = j.kept ∙ s.rests; own = j.own; near = j.near.1.1; own_asked = s.own_asked };
    })))
    (λ (j : (is_done p.rest ≡ is_done r) × Both f g.activities (move (setting g p) p.store p.rest) (move (with_more (setting g p) more) (with_decided p.store d) r)).
    ⊎_elim (λ (h : is_done p.rest ≡ true).
    inr (inr (inr (record {
      old = ended p (Complete (V.Text []));
      rest = Done;
      decided = d;
      goes_old = next_ends g p e h;
      goes = next_ends (more_frame g more) (twin p r d) e (sym j.0 ∙ h);
      sim = record { rests = refl; own = tt; near = s.near; own_asked = one_own f p.asked (Complete (V.Text [])) s.own_asked tt };
    }))))
    (λ (h : is_done p.rest ≡ false).
    along_both f g more p r d s (move (setting g p) p.store p.rest) (move (with_more (setting g p) more) (with_decided p.store d) r)
    (next_goes g p e h) (next_goes (more_frame g more) (twin p r d) e (sym j.0 ∙ h) ∙ ap (after_move (twin p r d)) move_is) j.1)
    (cases (is_done p.rest)))
    k)
    (steps_both f (setting g p) more p.store d s.near noes p.rest r s.own s.rests))
    (λ (e : is_open p.state ≡ false). inr (inr (inl (next_closed g p e, next_closed (more_frame g more) (twin p r d) e)))) (cases (is_open p.state))
