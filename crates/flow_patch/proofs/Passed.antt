-- New patches that are answered no are passed: each step of a rest is one of its plain form, or passes a new patch.
use Rattle.std.proofs.Common.{◌≡◌, ℕ, refl, Option, Some, None, Bool, true, false, ⊎_elim, inl, inr}
use Rattle.std.specs.Prelude.{◌⊎◌}
use Rattle.flow_base.specs.Syntax.{Bytes, Patch, Deprecate, Block, End}
use Rattle.flow_base.specs.declared.event.Cmd.TheVariants.{RecordMarker}
use Rattle.flow_model.specs.Rest.{Rest, Done, rest_of}
use Rattle.flow_model.specs.Step.{Store, Setting, Move, Goes, Asks, patched, decide}
use Rattle.flow_patch.specs.Wrap.{Patching, changed, without_new}
use Rattle.flow_patch.proofs.Normal.{cases, behind_twice, norm, Alike, NormTo, SameStore, if_alike, picked_alike, Aside, Skips, Begins, Patches, plainly, Steps, normal_steps}

-- without places and new patches
abbrev pub plain_rest : (Bytes → Bool) → Rest → Rest
plain_rest f r = norm (without_new f) r

-- new patches are answered no
abbrev pub Quiet : (Bytes → Bool) → Setting → Store → Type 0
Quiet f s t = (id : Bytes) → f id ≡ true → (t.decided id ≡ Some false) ⊎ ((t.decided id ≡ None) × (s.answer id ≡ false))

-- the store after a new patch was passed
abbrev pub Passed : (Bytes → Bool) → Store → Store → Type 0
Passed f t u = (u ≡ t) ⊎ ((id : Bytes) × ((f id ≡ true) × (u ≡ decide t id false)))

abbrev pub Silent : (Bytes → Bool) → Store → Rest → Move → Type 0
Silent f t y m = Aside (without_new f) (Unit {0}) (Passed f t) y m

-- a patch that stays
pub patched_alike : (g : Patching) (s : Setting) (t : Store) (id : Bytes) (a b : Block) (o : Option Bool) → Alike (NormTo g) SameStore (patched s t id a b o) (patched s t id (changed g a) (changed g b) o)
patched_alike g s t id a b (Some first) = (picked_alike g first a b, refl)
patched_alike g s t id a b None =
    if_alike (NormTo g) SameStore (s.answer id) (Asks (rest_of a) (decide t id true) (RecordMarker id)) (Asks (rest_of (changed g a)) (decide t id true) (RecordMarker id)) (Goes (rest_of b) (decide t id false)) (Goes (rest_of (changed g b)) (decide t id false)) (refl, refl, refl) (refl, refl)

quiet_patch : (f : Bytes → Bool) (s : Setting) (t : Store) → Quiet f s t → (at id_at : ℕ) (id : Bytes) (a : Block) (a_end : ℕ) (b : Block) (b_end : ℕ)
    → Skips (without_new f) (Unit {0}) (Passed f t) s t (Patch at id_at id a a_end b b_end) ⊎ Begins (without_new f) s t (Patch at id_at id a a_end b b_end)
quiet_patch f s t q at id_at id a a_end b b_end =
    ⊎_elim (λ (e : f id ≡ true).
    ⊎_elim (λ (d : t.decided id ≡ Some false).
    inl (record { rest = rest_of b; store = t; goes = rw d; spliced = λ h k. rw e (behind_twice Done (changed (without_new f) b) k); passed = inl refl }))
    (λ (d : (t.decided id ≡ None) × (s.answer id ≡ false)).
    inl (record { rest = rest_of b; store = decide t id false; goes = rw (d.0, d.1); spliced = λ h k. rw e (behind_twice Done (changed (without_new f) b) k); passed = inr (id, (e, refl)) }))
    (q id e))
    (λ (e : f id ≡ false).
    plainly (without_new f) (Unit {0}) (Passed f t) s t (Patch at id_at id a a_end b b_end) (Patch 0 0 id (changed (without_new f) a) 0 (changed (without_new f) b) 0)
    (λ k. rw e) (patched_alike (without_new f) s t id a b (t.decided id)))
    (cases (f id))

quiet_deprecate : (f : Bytes → Bool) (s : Setting) (t : Store) → Quiet f s t → (at id_at : ℕ) (id : Bytes)
    → Skips (without_new f) (Unit {0}) (Passed f t) s t (Deprecate at id_at id) ⊎ Begins (without_new f) s t (Deprecate at id_at id)
quiet_deprecate f s t q at id_at id =
    ⊎_elim (λ (e : f id ≡ true).
    ⊎_elim (λ (d : t.decided id ≡ Some false).
    inl (record { rest = rest_of End; store = t; goes = rw d; spliced = λ h k. rw e (behind_twice Done End k); passed = inl refl }))
    (λ (d : (t.decided id ≡ None) × (s.answer id ≡ false)).
    inl (record { rest = rest_of End; store = decide t id false; goes = rw (d.0, d.1); spliced = λ h k. rw e (behind_twice Done End k); passed = inr (id, (e, refl)) }))
    (q id e))
    (λ (e : f id ≡ false).
    plainly (without_new f) (Unit {0}) (Passed f t) s t (Deprecate at id_at id) (Deprecate 0 0 id) (λ k. rw e) (patched_alike (without_new f) s t id End End (t.decided id)))
    (cases (f id))

quiet_patches : (f : Bytes → Bool) (s : Setting) (t : Store) → Quiet f s t → Patches (without_new f) (Unit {0}) (Passed f t) s t
quiet_patches f s t q = record { patch = quiet_patch f s t q; deprecate = quiet_deprecate f s t q }

pub plain_steps : (f : Bytes → Bool) (s : Setting) (t : Store) → Quiet f s t → (r : Rest) → Steps (without_new f) (Unit {0}) (Passed f t) s t r
plain_steps f s t q r = normal_steps (without_new f) (Unit {0}) (Passed f t) s t (quiet_patches f s t q) r
