-- Which tasks of a board are new, one after the other.
use Rattle.std.proofs.Common.{◌≡◌, ◌||◌, ◌&&◌, not, true≢false, ℕ, zero, suc, ◌+◌, Bool, true, false, cond, List, [], ◌∷◌, ◌++◌, length, drop, refl, sym, ap, ◌∙◌, subst, append_assoc, arith, length-append, slice_index_or, ◌<◌, ◌⊎◌, inl, inr}
use Rattle.std.proofs.lemmas.List.{append-nil, at_drop_more}
use Rattle.std.specs.BTreeSet.{BTreeSet, contains}
use Rattle.flow_base.specs.declared.task.Task.{Task}
use Rattle.flow_base.specs.Keys.{Key, key_of}
use Rattle.flow_queues.specs.Posting.{apart_of, chosen, has_key, HasStill, is_key, is_of, key_cmp, new_ones}
use Rattle.flow_queues.proofs.Once.{off, has_last, key_is}

abbrev pub if_new : Bool → Task → List Task
if_new m t = cond m (t ∷ []) []

pub chosen_none : (ts : List Task) → chosen ts [] ≡ []
chosen_none ts = refl

abbrev first_of : Task → List Task → Task
first_of d [] = d
first_of d (t ∷ ts) = t

abbrev rest_of : List Task → List Task
rest_of [] = []
rest_of (t ∷ ts) = ts

no_task : {A : Type 0} (t : Task) (rest : List Task) → [] ≡ t ∷ rest → A
no_task t rest e = absurd (omega (arith, ap length e))

pub drop_next : (n : ℕ) (ts : List Task) (t : Task) (rest : List Task) → drop n ts ≡ t ∷ rest → drop (suc n) ts ≡ rest
drop_next zero [] t rest e = no_task t rest e
drop_next zero (x ∷ xs) t rest e = ap rest_of e
drop_next (suc n) [] t rest e = no_task t rest e
drop_next (suc n) (x ∷ xs) t rest e = drop_next n xs t rest e

-- one more is marked or not
pub chosen_more : (ts : List Task) (ms : List Bool) (t : Task) (rest : List Task) (m : Bool) → drop (length ms) ts ≡ t ∷ rest → chosen ts (ms ++ m ∷ []) ≡ chosen ts ms ++ if_new m t
chosen_more [] [] t rest m e = no_task t rest e
chosen_more [] (b ∷ bs) t rest m e = no_task t rest e
chosen_more (x ∷ xs) [] t rest true e = ap (λ l. x ∷ l) (chosen_none xs) ∙ ap (λ y. y ∷ []) (ap (first_of t) e)
chosen_more (x ∷ xs) [] t rest false e = chosen_none xs
chosen_more (x ∷ xs) (true ∷ bs) t rest m e = ap (λ l. x ∷ l) (chosen_more xs bs t rest m e)
chosen_more (x ∷ xs) (false ∷ bs) t rest m e = chosen_more xs bs t rest m e

---- Along the list

-- So far those are marked that are new, and the set has the keys of what is posted and marked, but for what is of runs that are gone.
pub record IsMarked (gone : List ℕ) (old now : BTreeSet Key) (ts : List Task) (ms : List Bool) : Type 0 where
  pub keys : (posted : List Task) → HasStill gone old posted → HasStill gone now (posted ++ chosen ts ms)
  pub marks : (posted : List Task) → HasStill gone old posted → chosen ts ms ++ new_ones (posted ++ chosen ts ms) (apart_of gone (drop (length ms) ts)) ≡ new_ones posted (apart_of gone ts)
  pub back : (q : Key) → (contains key_cmp now q && not (has_key (chosen ts ms) q)) ≡ contains key_cmp old q

and_true : (b : Bool) → (b && true) ≡ b
and_true true = refl
and_true false = refl

pub begins_marked : (gone : List ℕ) (old : BTreeSet Key) (ts : List Task) → IsMarked gone old old ts []
begins_marked gone old ts = record {
  keys = λ posted h. subst (λ l. HasStill gone old (posted ++ l)) (sym (chosen_none ts)) (subst (HasStill gone old) (sym (append-nil posted)) h);
  marks = λ posted h. ap (λ l. l ++ new_ones (posted ++ l) (apart_of gone ts)) (chosen_none ts) ∙ ap (λ l. new_ones l (apart_of gone ts)) (append-nil posted);
  back = λ q. ap (λ l. contains key_cmp old q && not (has_key l q)) (chosen_none ts) ∙ and_true (contains key_cmp old q);
}

-- one that is there already leaves the keys as they are
same_keys : (s : BTreeSet Key) (k q : Key) → contains key_cmp s k ≡ true → cond (is_key k q) true (contains key_cmp s q) ≡ contains key_cmp s q
same_keys s k q there = by (is_key k q) refl
  where
    by : (b : Bool) → is_key k q ≡ b → cond b true (contains key_cmp s q) ≡ contains key_cmp s q
    by true e = sym (subst (λ x. contains key_cmp s x ≡ true) (key_is k q e) there)
    by false e = refl

is_true : (b : Bool) → true ≡ not b → b ≡ false
is_true true e = off (sym e)
is_true false e = refl

is_false : (b : Bool) → false ≡ not b → b ≡ true
is_false true e = refl
is_false false e = off e

-- the keys after one that was asked for, whether it came or was there
pub came : (s n : BTreeSet Key) (k : Key) (new : Bool) → new ≡ not (contains key_cmp s k) → ((q : Key) → contains key_cmp n q ≡ cond (is_key k q) true (contains key_cmp s q))
    → (q : Key) → contains key_cmp n q ≡ cond (new && is_key k q) true (contains key_cmp s q)
came s n k true is adds q = adds q
came s n k false is adds q = adds q ∙ same_keys s k q (is_false (contains key_cmp s k) is)

both_true : (g p : Bool) → true ≡ (not g && not p) → (g ≡ false) × (p ≡ false)
both_true true p e = off (sym e)
both_true false true e = off (sym e)
both_true false false e = (refl, refl)

both_false : (g p : Bool) → false ≡ (not g && not p) → g ≡ false → p ≡ true
both_false true p e out = absurd (true≢false out)
both_false false true e out = refl
both_false false false e out = off e

-- what is new of a task and those after it
new_step : (gone : List ℕ) (posted rest : List Task) (t : Task) (g b new : Bool) → is_of gone t.run ≡ g → (g ≡ false → has_key posted (key_of t) ≡ b) → new ≡ (not g && not b)
    → new_ones posted (apart_of gone (t ∷ rest)) ≡ if_new new t ++ new_ones (posted ++ if_new new t) (apart_of gone rest)
new_step gone posted rest t g b true out there is =
    let apart = both_true g b is in
    ap (λ v. new_ones posted (cond (not v) (t ∷ apart_of gone rest) (apart_of gone rest))) (out ∙ apart.0)
    ∙ ap (λ v. cond v (new_ones posted (apart_of gone rest)) (t ∷ new_ones (posted ++ t ∷ []) (apart_of gone rest))) (there apart.0 ∙ apart.1)
new_step gone posted rest t true b false out there is =
    ap (λ v. new_ones posted (cond (not v) (t ∷ apart_of gone rest) (apart_of gone rest))) out ∙ ap (λ l. new_ones l (apart_of gone rest)) (sym (append-nil posted))
new_step gone posted rest t false b false out there is =
    ap (λ v. new_ones posted (cond (not v) (t ∷ apart_of gone rest) (apart_of gone rest))) out
    ∙ ap (λ v. cond v (new_ones posted (apart_of gone rest)) (t ∷ new_ones (posted ++ t ∷ []) (apart_of gone rest))) (there refl ∙ both_false false b is refl)
    ∙ ap (λ l. new_ones l (apart_of gone rest)) (sym (append-nil posted))

-- the keys of one more
keys_step : (gone : List ℕ) (now next : BTreeSet Key) (posted : List Task) (t : Task) (new : Bool) → (new ≡ true → is_of gone t.run ≡ false)
    → ((q : Key) → contains key_cmp next q ≡ cond (new && is_key (key_of t) q) true (contains key_cmp now q)) → HasStill gone now posted → HasStill gone next (posted ++ if_new new t)
keys_step gone now next posted t false out adds h q = adds q ∙ h q ∙ ap (λ l. has_key l q && not (is_of gone q.0)) (sym (append-nil posted))
keys_step gone now next posted t true out adds h q =
    adds q ∙ ap (λ b. cond (is_key (key_of t) q) true b) (h q) ∙ by (is_key (key_of t) q) refl ∙ ap (λ b. b && not (is_of gone q.0)) (sym (has_last posted t q))
  where
    later : (b : Bool) → (b || true) ≡ true
    later true = refl
    later false = refl

    or_false : (b : Bool) → (b || false) ≡ b
    or_false true = refl
    or_false false = refl

    by : (v : Bool) → is_key (key_of t) q ≡ v → cond v true (has_key posted q && not (is_of gone q.0)) ≡ ((has_key posted q || v) && not (is_of gone q.0))
    by true same =
        let its : is_of gone q.0 ≡ false = ap (λ (k : Key). is_of gone k.0) (sym (key_is (key_of t) q same)) ∙ out refl in
        sym (ap (λ b. b && not (is_of gone q.0)) (later (has_key posted q)) ∙ ap not its)
    by false same = ap (λ b. b && not (is_of gone q.0)) (sym (or_false (has_key posted q)))

-- and without it again
back_step : (now next : BTreeSet Key) (more : List Task) (t : Task) (new : Bool) (q : Key) → (new ≡ true → contains key_cmp now (key_of t) ≡ false)
    → contains key_cmp next q ≡ cond (new && is_key (key_of t) q) true (contains key_cmp now q)
    → (contains key_cmp next q && not (has_key (more ++ if_new new t) q)) ≡ (contains key_cmp now q && not (has_key more q))
back_step now next more t true q none adds =
    ap (λ b. b && not (has_key (more ++ t ∷ []) q)) adds ∙ (ap (λ b. cond (is_key (key_of t) q) true (contains key_cmp now q) && not b) (has_last more t q) ∙ by (is_key (key_of t) q) refl)
  where
    left : (x y : Bool) → x ≡ false → not (y || true) ≡ (x && not y)
    left true y e = off (sym e)
    left false true e = refl
    left false false e = refl

    right : (x y : Bool) → (x && not (y || false)) ≡ (x && not y)
    right x true = refl
    right x false = refl

    by : (b : Bool) → is_key (key_of t) q ≡ b → (cond b true (contains key_cmp now q) && not (has_key more q || b)) ≡ (contains key_cmp now q && not (has_key more q))
    by true e = left (contains key_cmp now q) (has_key more q) (subst (λ x. contains key_cmp now x ≡ false) (key_is (key_of t) q e) (none refl))
    by false e = right (contains key_cmp now q) (has_key more q)
back_step now next more t false q none adds = ap (λ b. b && not (has_key (more ++ []) q)) adds ∙ ap (λ l. contains key_cmp now q && not (has_key l q)) (append-nil more)

pub marks_next : (gone : List ℕ) (old now next : BTreeSet Key) (ts : List Task) (ms : List Bool) (t : Task) (rest : List Task) (new : Bool) → drop (length ms) ts ≡ t ∷ rest
    → new ≡ (not (is_of gone t.run) && not (contains key_cmp now (key_of t)))
    → ((q : Key) → contains key_cmp next q ≡ cond (new && is_key (key_of t) q) true (contains key_cmp now q))
    → IsMarked gone old now ts ms → IsMarked gone old next ts (ms ++ new ∷ [])
marks_next gone old now next ts ms t rest new e is adds m =
    let more : chosen ts (ms ++ new ∷ []) ≡ chosen ts ms ++ if_new new t = chosen_more ts ms t rest new e in
    let grown : (posted : List Task) → (posted ++ chosen ts ms) ++ if_new new t ≡ posted ++ chosen ts (ms ++ new ∷ []) =
    λ posted. append_assoc posted (chosen ts ms) (if_new new t) ∙ ap (λ l. posted ++ l) (sym more) in
    let count : length (ms ++ new ∷ []) ≡ suc (length ms) = omega (arith, length-append ms (new ∷ [])) in
    let left : drop (length (ms ++ new ∷ [])) ts ≡ rest = ap (λ n. drop n ts) count ∙ drop_next (length ms) ts t rest e in
    let apart : new ≡ true → (is_of gone t.run ≡ false) × (contains key_cmp now (key_of t) ≡ false) = λ yes. both_true (is_of gone t.run) (contains key_cmp now (key_of t)) (sym yes ∙ is) in
    record {
      keys = λ posted h. subst (HasStill gone next) (grown posted) (keys_step gone now next (posted ++ chosen ts ms) t new (λ yes. (apart yes).0) adds (m.keys posted h));
      marks = λ posted h.
          let p = posted ++ chosen ts ms in
          let q = posted ++ chosen ts (ms ++ new ∷ []) in
          let there : is_of gone t.run ≡ false → has_key p (key_of t) ≡ contains key_cmp now (key_of t) =
          λ out. sym (m.keys posted h (key_of t) ∙ ap (λ v. has_key p (key_of t) && not v) out ∙ and_true (has_key p (key_of t))) in
          let step : new_ones p (apart_of gone (t ∷ rest)) ≡ if_new new t ++ new_ones q (apart_of gone rest) =
          new_step gone p rest t (is_of gone t.run) (contains key_cmp now (key_of t)) new refl there is ∙ ap (λ l. if_new new t ++ new_ones l (apart_of gone rest)) (grown posted) in
          ap (λ l. chosen ts (ms ++ new ∷ []) ++ new_ones q (apart_of gone l)) left ∙ (ap (λ l. l ++ new_ones q (apart_of gone rest)) more
          ∙ (append_assoc (chosen ts ms) (if_new new t) (new_ones q (apart_of gone rest)) ∙ (ap (λ l. chosen ts ms ++ l) (sym step) ∙ (ap (λ l. chosen ts ms ++ new_ones p (apart_of gone l)) (sym e) ∙ m.marks posted h))));
      back = λ q. ap (λ l. contains key_cmp next q && not (has_key l q)) more ∙ (back_step now next (chosen ts ms) t new q (λ yes. (apart yes).1) (adds q) ∙ m.back q);
    }

-- at the end all is marked
pub marked_all : (gone : List ℕ) (old now : BTreeSet Key) (ts : List Task) (ms : List Bool) (posted : List Task) → drop (length ms) ts ≡ [] → IsMarked gone old now ts ms → HasStill gone old posted
    → (chosen ts ms ≡ new_ones posted (apart_of gone ts)) × HasStill gone now (posted ++ new_ones posted (apart_of gone ts))
marked_all gone old now ts ms posted e m h =
    let chose : chosen ts ms ≡ new_ones posted (apart_of gone ts) =
    sym (append-nil (chosen ts ms)) ∙ (ap (λ l. chosen ts ms ++ new_ones (posted ++ chosen ts ms) (apart_of gone l)) (sym e) ∙ m.marks posted h) in
    (chose, subst (λ l. HasStill gone now (posted ++ l)) chose (m.keys posted h))

---- Back, and on

pub drop_at : {X : Type 0} (xs : List X) (k : ℕ) (x : X) → k < length xs → x ≡ slice_index_or xs k x → drop k xs ≡ x ∷ drop (k + 1) xs
drop_at xs k x small is = at_drop_more (λ l. l) xs k x small ∙ ap (λ y. y ∷ drop (k + 1) xs) (sym is)

none_of : (x : Bool) → false ≡ (x && false)
none_of true = refl
none_of false = refl

back_of : (m b x : Bool) (t : Task) (rest : List Task) (q : Key) → is_key (key_of t) q ≡ b → (cond (m && b) false x && not (has_key rest q)) ≡ (x && not (has_key (cond m (t ∷ rest) rest) q))
back_of true true x t rest q e = none_of x ∙ ap (λ c. x && not (c || has_key rest q)) (sym e)
back_of true false x t rest q e = ap (λ c. x && not (c || has_key rest q)) (sym e)
back_of false true x t rest q e = refl
back_of false false x t rest q e = refl

-- the key of one that is marked is taken away
pub removed_next : (now next : BTreeSet Key) (ts : List Task) (ms : List Bool) (k : ℕ) (t : Task) (m : Bool) (q : Key) (whole : Bool)
    → drop k ts ≡ t ∷ drop (k + 1) ts → drop k ms ≡ m ∷ drop (k + 1) ms
    → contains key_cmp next q ≡ cond (m && is_key (key_of t) q) false (contains key_cmp now q)
    → (contains key_cmp now q && not (has_key (chosen (drop k ts) (drop k ms)) q)) ≡ whole
    → (contains key_cmp next q && not (has_key (chosen (drop (k + 1) ts) (drop (k + 1) ms)) q)) ≡ whole
removed_next now next ts ms k t m q whole dt dm is so_far =
    let rest = chosen (drop (k + 1) ts) (drop (k + 1) ms) in
    let here : chosen (drop k ts) (drop k ms) ≡ cond m (t ∷ rest) rest = ap (λ l. chosen l (drop k ms)) dt ∙ ap (λ l. chosen (t ∷ drop (k + 1) ts) l) dm in
    ap (λ b. b && not (has_key rest q)) is
    ∙ (back_of m (is_key (key_of t) q) (contains key_cmp now q) t rest q refl ∙ (ap (λ l. contains key_cmp now q && not (has_key l q)) (sym here) ∙ so_far))

pub chosen_ended : (ts : List Task) (ms : List Bool) → (length ts ≡ 0) ⊎ (length ms ≡ 0) → chosen ts ms ≡ []
chosen_ended ts [] e = refl
chosen_ended [] (m ∷ ms) e = refl
chosen_ended (t ∷ ts) (m ∷ ms) (inl e) = absurd (omega (arith, e))
chosen_ended (t ∷ ts) (m ∷ ms) (inr e) = absurd (omega (arith, e))
