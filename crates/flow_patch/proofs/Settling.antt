-- A turn under a program, followed under the one in which patches are settled: as long as no settled patch is answered no, each step of
-- the one is a step of the other, or one that a patch takes aside.
use Rattle.std.proofs.Common.{◌≡◌, ℕ, suc, zero, ◌+◌, ◌<◌, List, [], ◌∷◌, ◌++◌, length, refl, sym, ap, ◌∙◌, subst, arith, Option, Some, None, Bool, true, false, ⊎_elim, inl, inr}
use Rattle.std.specs.Prelude.{if◌then◌else◌, ◌⊎◌, min, bytes_eq}
use Rattle.std.proofs.lemmas.Bool.{true≢false}
use Rattle.std.specs.Cmp.Lexicographic.{bytes_decides}
use Rattle.flow_base.specs.Syntax.{Bytes, Patch, Deprecate, Block, End, Next}
use Rattle.flow_base.specs.declared.value.Value.TheVariants as V
use Rattle.flow_base.specs.declared.event.Cmd.{Cmd}
use Rattle.flow_base.specs.declared.event.Cmd.TheVariants.{Complete, RecordMarker}
use Rattle.flow_model.specs.Rest.{Rest, Done, rest_of, is_done, open_waits}
use Rattle.flow_model.specs.Configuration.{is_open}
use Rattle.flow_model.specs.Step.{Store, Setting, Move, Stays, Goes, Asks, Ends, patched, decide, begin, around, followed_by, move, wait_limit}
use Rattle.flow_model.specs.Deliver.{Progress}
use Rattle.flow_model.specs.Turn.{Frame, next, setting, ended, after_move, steps, go_on}
use Rattle.flow_model.specs.Weights.{weight_of}
use Rattle.flow_model.proofs.Weight.{next_lighter, rests_here, one_more}
use Rattle.flow_patch.specs.Wrap.{joined, changed, without_new}
use Rattle.flow_run.specs.Shown.{waits_of}
use Rattle.flow_patch.specs.Settle.{deprecated, settling}
use Rattle.flow_patch.proofs.Normal.{cases, behind, behind_twice, norm, norm_followed, flat_followed, Alike, NormTo, SameStore, if_alike, Aside, Skips, Begins, Patches, plainly, Steps, normal_steps}
use Rattle.flow_patch.proofs.Passed.{plain_rest, Silent, plain_steps, patched_alike}
use Rattle.flow_patch.proofs.Waits.{waits_norm, count_waits}
use Rattle.flow_patch.proofs.Simulate.{none, next_goes, next_ends, next_closed, not_done}
use Rattle.flow_patch.proofs.Turns.{none_some}
use Rattle.flow_patch.proofs.Answered.{Fixed, steps_fixed, is_begun, begun_next}

---- Settled patches

-- a settled id is answered no
abbrev pub IsRefused : (Bytes → Bool) → Store → Type 0
IsRefused f u = (id : Bytes) × (f id ≡ true) × (u.decided id ≡ Some false)

-- the first list, and the rest of the statements
first_list : (f : Bytes → Bool) (a b : Block) → NormTo (settling f) (followed_by b (rest_of a)) (followed_by (joined (changed (settling f) a) (changed (settling f) b)) (rest_of End))
first_list f a b =
    norm_followed (settling f) b (rest_of a) ∙ behind_twice Done (changed (settling f) a) (changed (settling f) b)
    ∙ sym (flat_followed (joined (changed (settling f) a) (changed (settling f) b)) (rest_of End))

-- a settled patch does what the `deprecate` in its place does, or is answered no
settles : (f : Bytes → Bool) (s : Setting) (t : Store) (at id_at : ℕ) (id : Bytes) (a : Block) (a_end : ℕ) (c : Block) (c_end : ℕ) → f id ≡ true → (o : Option Bool) → t.decided id ≡ o
    → Skips (settling f) ⊥ (IsRefused f) s t (Patch at id_at id a a_end c c_end) ⊎ Begins (settling f) s t (Patch at id_at id a a_end c c_end)
settles f s t at id_at id a a_end c c_end h (Some true) e =
    inr (record { statement = deprecated id; tail = joined (changed (settling f) a); stands = λ k. rw h; same = λ b. rw e (first_list f a b, refl) })
settles f s t at id_at id a a_end c c_end h (Some false) e =
    inl (record { rest = rest_of c; store = t; goes = rw e; spliced = λ never k. absurd never; passed = (id, h, e) })
settles f s t at id_at id a a_end c c_end h None e =
    ⊎_elim (λ (y : s.answer id ≡ true).
    inr (record { statement = deprecated id; tail = joined (changed (settling f) a); stands = λ k. rw h; same = λ b. rw (e, y) (first_list f a b, refl, refl) }))
    (λ (y : s.answer id ≡ false).
    inl (record { rest = rest_of c; store = decide t id false; goes = rw (e, y); spliced = λ never k. absurd never; passed = (id, h, rw ((bytes_decides id id).1 refl) refl) }))
    (cases (s.answer id))

settling_patch : (f : Bytes → Bool) (s : Setting) (t : Store) (at id_at : ℕ) (id : Bytes) (a : Block) (a_end : ℕ) (b : Block) (b_end : ℕ)
    → Skips (settling f) ⊥ (IsRefused f) s t (Patch at id_at id a a_end b b_end) ⊎ Begins (settling f) s t (Patch at id_at id a a_end b b_end)
settling_patch f s t at id_at id a a_end b b_end =
    ⊎_elim (λ (e : f id ≡ true). settles f s t at id_at id a a_end b b_end e (t.decided id) refl)
    (λ (e : f id ≡ false).
    plainly (settling f) ⊥ (IsRefused f) s t (Patch at id_at id a a_end b b_end) (Patch 0 0 id (changed (settling f) a) 0 (changed (settling f) b) 0)
    (λ k. rw e) (patched_alike (settling f) s t id a b (t.decided id)))
    (cases (f id))

settling_patches : (f : Bytes → Bool) (s : Setting) (t : Store) → Patches (settling f) ⊥ (IsRefused f) s t
settling_patches f s t =
    record {
      patch = settling_patch f s t;
      deprecate = λ at id_at id. plainly (settling f) ⊥ (IsRefused f) s t (Deprecate at id_at id) (Deprecate 0 0 id) (λ k. refl) (patched_alike (settling f) s t id End End (t.decided id));
    }

pub settled_steps : (f : Bytes → Bool) (s : Setting) (t : Store) → (r : Rest) → Steps (settling f) ⊥ (IsRefused f) s t r
settled_steps f s t r = normal_steps (settling f) ⊥ (IsRefused f) s t (settling_patches f s t) r

---- A turn

-- the old rest with its patches settled, and the new one, have one normal form
abbrev pub One : (Bytes → Bool) → Rest → Rest → Type 0
One f q x = norm (settling f) q ≡ plain_rest none x

met : (f : Bytes → Bool) (n k l : Move) → Alike (NormTo (settling f)) SameStore n k → Alike (NormTo (without_new none)) SameStore l k → Alike (One f) SameStore n l
met f Stays Stays Stays a b = tt
met f (Goes q t) (Goes x u) (Goes z v) a b = (a.0 ∙ sym b.0, a.1 ∙ sym b.1)
met f (Asks q t c) (Asks x u d) (Asks z v e) a b = (a.0 ∙ sym b.0, a.1 ∙ sym b.1, a.2 ∙ sym b.2)
met f (Ends c) (Ends d) (Ends e) a b = a ∙ sym b
met f Stays Stays (Goes z v) a b = absurd b
met f Stays Stays (Asks z v e) a b = absurd b
met f Stays Stays (Ends e) a b = absurd b
met f (Goes q t) (Goes x u) Stays a b = absurd b
met f (Goes q t) (Goes x u) (Asks z v e) a b = absurd b
met f (Goes q t) (Goes x u) (Ends e) a b = absurd b
met f (Asks q t c) (Asks x u d) Stays a b = absurd b
met f (Asks q t c) (Asks x u d) (Goes z v) a b = absurd b
met f (Asks q t c) (Asks x u d) (Ends e) a b = absurd b
met f (Ends c) (Ends d) Stays a b = absurd b
met f (Ends c) (Ends d) (Goes z v) a b = absurd b
met f (Ends c) (Ends d) (Asks z v e) a b = absurd b
met f m n k a b = absurd a

-- the run under the new program differs in its rest alone
abbrev pub twin : Progress → Rest → Progress
twin p r = record p { rest = r }

pub same_waits : (f : Bytes → Bool) (r r' : Rest) → One f r r' → waits_of r' ≡ waits_of r
same_waits f r r' e = sym (waits_norm (without_new none) r') ∙ sym (ap waits_of e) ∙ waits_norm (settling f) r

same_setting : (g : Frame) (p : Progress) (r : Rest) → open_waits r ≡ open_waits p.rest → setting g (twin p r) ≡ setting g p
same_setting g p r e =
    ap (λ w. record { activities = g.activities; at = g.at; is_first = g.is_first; waits = min w wait_limit; event = g.events + length p.asked + 1; answer = g.answer (length p.asked) }) e

record Ahead (f : Bytes → Bool) (g : Frame) (p : Progress) (r : Rest) : Type 0 where
  rest : Rest
  goes : next g (twin p r) ≡ Some (twin p rest)
  one : One f p.rest rest

-- a settled patch is answered no
record Breaks (f : Bytes → Bool) (g : Frame) (p : Progress) : Type 0 where
  old : Progress
  goes : next g p ≡ Some old
  refused : IsRefused f old.store
  open_still : old.state ≡ p.state

record Along (f : Bytes → Bool) (g : Frame) (p : Progress) (r : Rest) : Type 0 where
  old : Progress
  rest : Rest
  goes_old : next g p ≡ Some old
  goes : next g (twin p r) ≡ Some (twin old rest)
  one : One f old.rest rest

abbrev Onward : (Bytes → Bool) → Frame → Progress → Rest → Type 0
Onward f g p r = Ahead f g p r ⊎ (Breaks f g p ⊎ (((next g p ≡ None) × (next g (twin p r) ≡ None)) ⊎ Along f g p r))

along : (f : Bytes → Bool) (g : Frame) (p : Progress) (r : Rest) → (m n : Move) → next g p ≡ after_move p m → next g (twin p r) ≡ after_move (twin p r) n → Alike (One f) SameStore m n → Onward f g p r
along f g p r Stays Stays x y a = inr (inr (inl (x, y)))
along f g p r (Goes q t) (Goes z u) x y a =
    inr (inr (inr (record {
      old = record p { rest = q; store = t };
      rest = z;
      goes_old = x;
      goes = y ∙ ap (λ (v : Store). Some (record { rest = z; store = v; asked = p.asked; state = p.state })) (sym a.1);
      one = a.0;
    })))
along f g p r (Asks q t c) (Asks z u e) x y a =
    inr (inr (inr (record {
      old = record p { rest = q; store = t; asked = p.asked ++ c ∷ [] };
      rest = z;
      goes_old = x;
      goes = y ∙ ap (λ (v : Store). Some (record { rest = z; store = v; asked = p.asked ++ e ∷ []; state = p.state })) (sym a.1)
          ∙ ap (λ (h : Cmd). Some (record { rest = z; store = t; asked = p.asked ++ h ∷ []; state = p.state })) (sym a.2);
      one = a.0;
    })))
along f g p r (Ends c) (Ends e) x y a =
    inr (inr (inr (record { old = ended p c; rest = Done; goes_old = x; goes = y ∙ ap (λ (h : Cmd). Some (ended (twin p r) h)) (sym a); one = refl })))
along f g p r m n x y a = absurd a

onward : (f : Bytes → Bool) (g : Frame) (p : Progress) (r : Rest) → One f p.rest r → Onward f g p r
onward f g p r o =
    let s = setting g p in
    ⊎_elim (λ (e : is_open p.state ≡ true).
    let c : setting g (twin p r) ≡ s = same_setting g p r (count_waits r ∙ ap length (same_waits f p.rest r o) ∙ sym (count_waits p.rest)) in
    let move_is = ap (λ (v : Setting). move v p.store r) c in
    ⊎_elim (λ (k : Silent none p.store (plain_rest none r) (move s p.store r)).
    let h = not_done s p.store r k.rest k.store k.goes in
    let same : k.store ≡ p.store = ⊎_elim (λ (x : k.store ≡ p.store). x) (λ (x : (id : Bytes) × ((none id ≡ true) × (k.store ≡ decide p.store id false))). absurd (true≢false (sym x.1.0))) k.passed in
    inl (record {
      rest = k.rest;
      goes = next_goes g (twin p r) e h ∙ ap (after_move (twin p r)) (move_is ∙ k.goes) ∙ ap (λ (v : Store). Some (record { rest = k.rest; store = v; asked = p.asked; state = p.state })) same;
      one = o ∙ sym (k.kept tt);
    }))
    (λ (k : (is_done r ≡ is_done (plain_rest none r)) × Alike (NormTo (without_new none)) SameStore (move s p.store r) (move s p.store (plain_rest none r))).
    ⊎_elim (λ (j : Aside (settling f) ⊥ (IsRefused f) (norm (settling f) p.rest) (move s p.store p.rest)).
    let h = not_done s p.store p.rest j.rest j.store j.goes in
    inr (inl (record {
      old = record p { rest = j.rest; store = j.store };
      goes = next_goes g p e h ∙ ap (after_move p) j.goes;
      refused = j.passed;
      open_still = refl;
    })))
    (λ (j : (is_done p.rest ≡ is_done (norm (settling f) p.rest)) × Alike (NormTo (settling f)) SameStore (move s p.store p.rest) (move s p.store (norm (settling f) p.rest))).
    let d : is_done p.rest ≡ is_done r = j.0 ∙ ap is_done o ∙ sym k.0 in
    let a = met f (move s p.store p.rest) (move s p.store (plain_rest none r)) (move s p.store r)
    (subst (λ y. Alike (NormTo (settling f)) SameStore (move s p.store p.rest) (move s p.store y)) o j.1) k.1 in
    ⊎_elim (λ (h : is_done p.rest ≡ true).
    inr (inr (inr (record {
      old = ended p (Complete (V.Text []));
      rest = Done;
      goes_old = next_ends g p e h;
      goes = next_ends g (twin p r) e (sym d ∙ h);
      one = refl;
    }))))
    (λ (h : is_done p.rest ≡ false).
    along f g p r (move s p.store p.rest) (move s p.store r) (next_goes g p e h) (next_goes g (twin p r) e (sym d ∙ h) ∙ ap (after_move (twin p r)) move_is) a)
    (cases (is_done p.rest)))
    (settled_steps f s p.store p.rest))
    (plain_steps none s p.store (λ id x. absurd (true≢false (sym x))) r))
    (λ (e : is_open p.state ≡ false). inr (inr (inl (next_closed g p e, next_closed g (twin p r) e)))) (cases (is_open p.state))

pub record Follows (f : Bytes → Bool) (g : Frame) (start last : Progress) : Type 0 where
  pub count : ℕ
  pub rest : Rest
  pub runs : steps count g start ≡ Some (twin last rest)
  pub one : One f last.rest rest

-- no settled patch is answered no by the end
abbrev pub NoneFixed : (Bytes → Bool) → Progress → Type 0
NoneFixed f last = (id : Bytes) → f id ≡ true → Fixed id last → ⊥

abbrev pub Claim : (Bytes → Bool) → Frame → Progress → ℕ → Type 0
Claim f g last n = (p : Progress) (r : Rest) → One f p.rest r → is_begun p.state ≡ true → steps n g p ≡ Some last → Follows f g (twin p r) last

inner : (f : Bytes → Bool) (g : Frame) (last : Progress) → NoneFixed f last → (n : ℕ) → Claim f g last n → (w : ℕ) (p : Progress) (r : Rest) → weight_of (twin p r) < w → One f p.rest r → is_begun p.state ≡ true → steps (suc n) g p ≡ Some last → Follows f g (twin p r) last
inner f g last bar n again zero p r l o b e = absurd (omega (arith, l))
inner f g last bar n again (suc w) p r l o b e =
    ⊎_elim (λ (a : Ahead f g p r).
    let lighter = next_lighter g (twin p r) (twin p a.rest) a.goes in
    let h = inner f g last bar n again w p a.rest (omega (arith, lighter, l)) a.one b e in
    record { count = suc h.count; rest = h.rest; runs = one_more g (twin p r) (twin p a.rest) h.count a.goes ∙ h.runs; one = h.one })
    (λ (x : Breaks f g p ⊎ (((next g p ≡ None) × (next g (twin p r) ≡ None)) ⊎ Along f g p r)).
    ⊎_elim (λ (a : Breaks f g p).
    absurd (bar a.refused.0 a.refused.1 (steps_fixed a.refused.0 n g a.old last (a.refused.2, ap is_begun a.open_still ∙ b) (sym (one_more g p a.old n a.goes) ∙ e))))
    (λ (y : ((next g p ≡ None) × (next g (twin p r) ≡ None)) ⊎ Along f g p r).
    ⊎_elim (λ (a : (next g p ≡ None) × (next g (twin p r) ≡ None)).
    let x : Some p ≡ Some last = sym (ap (λ o. go_on g o p (steps n g)) a.0) ∙ e in
    let same : p ≡ last = cc x in
    subst (λ (q : Progress). Follows f g (twin p r) q) same (record { count = 1; rest = r; runs = rests_here g (twin p r) a.1; one = o }))
    (λ (a : Along f g p r).
    let h = again a.old a.rest a.one (begun_next g p a.old b a.goes_old) (sym (one_more g p a.old n a.goes_old) ∙ e) in
    record { count = suc h.count; rest = h.rest; runs = one_more g (twin p r) (twin a.old a.rest) h.count a.goes ∙ h.runs; one = h.one })
    y)
    x)
    (onward f g p r o)

pub follows : (f : Bytes → Bool) (g : Frame) (last : Progress) → NoneFixed f last → (n : ℕ) → Claim f g last n
follows f g last bar zero p r o b e = absurd (none_some last e)
follows f g last bar (suc n) p r o b e = inner f g last bar n (follows f g last bar n) (suc (weight_of (twin p r))) p r (omega arith) o b e
