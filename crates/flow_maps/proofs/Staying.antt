-- The texts of a book, which no change takes back, and how many there are.
use Rattle.std.specs.Prelude.{◌≡◌, ◌+◌, ◌≤◌, ◌∷◌, ◌++◌}
use Rattle.flow_maps.proofs.Names.{ℕ, zero, suc, Bool, true, false, cond, List, [], length, Option, Some, None, slice_get, refl, sym, ap, subst, ◌∙◌, arith, IfSome, get, IsUpperBound, nat_cmp, is_lt, Ordering, Less, Equal, Greater, is_some, ranked, Bytes, Change, AddText, AddRun, AddTurn, SetAttempt, SetText, Run, Book, nth, changed, with_run, with_turn, with_attempt, with_text, nth_at, BookTexts, TextBodies, IsText, IsTextCount, KnowsBodies, KnowsTexts, is_run}
use Rattle.flow_maps.proofs.Calling.{nth_longer}
use Rattle.flow_maps.proofs.Planning.{here_at, longer, more_at, none_is}
use Rattle.flow_maps.proofs.Serving.{run_is as book_is, none_is_there}
use Rattle.flow_maps.proofs.Slots.{run_is, run_itself}

clash : (b : Bool) → b ≡ true → b ≡ false → ⊥
clash true t f = let e = f in cc
clash false t f = let e = t in cc

-- what is below another number, and not that
fewer : (n last most : ℕ) → (n ≡ last → ⊥) → n ≤ last → last ≤ most + 1 → n ≤ most
fewer zero last most apart less all = omega arith
fewer (suc n) zero most apart less all = absurd (omega (arith, less))
fewer (suc n) (suc last) zero apart less all = absurd (apart (omega (arith, less, all)))
fewer (suc n) (suc last) (suc most) apart less all = let e = fewer n last most (λ same. apart (ap suc same)) (omega (arith, less)) (omega (arith, all)) in omega (arith, e)

run_texts : (b : Book) (n : ℕ) (f : Run → Run) → (with_run b n f).texts ≡ b.texts
run_texts b n f = go (nth b.runs n) refl
  where
    go : (o : Option Run) → nth b.runs n ≡ o → (with_run b n f).texts ≡ b.texts
    go None is = ap (λ (x : Book). x.texts) (sym (none_is_there b n f is))
    go (Some r) is = ap (λ (x : Book). x.texts) (sym (book_is b n f r is))

text_stays : (b : Book) (c : Change) (n : ℕ) (x : Bytes) → nth b.texts n ≡ Some x → nth (changed b c).texts n ≡ Some x
text_stays b (AddText body) n x h = nth_longer b.texts (body ∷ []) n x h
text_stays b (AddRun flow request text t) n x h = h
text_stays b (AddTurn run t) n x h = ap (λ ts. nth ts n) (run_texts b run (with_turn t)) ∙ h
text_stays b (SetAttempt run event attempt ready) n x h = ap (λ ts. nth ts n) (run_texts b run (with_attempt event attempt ready)) ∙ h
text_stays b (SetText run text) n x h = ap (λ ts. nth ts n) (run_texts b run (with_text text)) ∙ h

pub texts_stay : (m : TextBodies) (b : Book) (c : Change) → KnowsBodies m b → KnowsBodies m (changed b c)
texts_stay m b c knows n = by (get nat_cmp m.known n) (knows n)
  where
    by : (o : Option Bytes) → IsText o (nth b.texts n) → IsText o (nth (changed b c).texts n)
    by None h = tt
    by (Some x) h = text_stays b c n x h

pub text_in : (m m' : TextBodies) (number : ℕ) (t : Bytes) → ((n : ℕ) → get nat_cmp m'.known n ≡ cond (is_run number n) (Some t) (get nat_cmp m.known n)) → (b : Book) → nth b.texts number ≡ Some t → KnowsBodies m b → KnowsBodies m' b
text_in m m' number t put b at knows n = subst (λ o. IsText o (nth b.texts n)) (sym (put n)) (by (is_run number n) refl)
  where
    by : (v : Bool) → is_run number n ≡ v → IsText (cond v (Some t) (get nat_cmp m.known n)) (nth b.texts n)
    by true own = subst (λ k. nth b.texts k ≡ Some t) (run_is number n own) at
    by false other = knows n

at_most : (k n : ℕ) (o : Ordering) → o ≡ nat_cmp k n → is_lt o ≡ false → n ≤ k
at_most k n Less is h = absurd (clash true refl h)
at_most k n Equal is h = let same = ranked k n Equal is in omega (arith, same)
at_most k n Greater is h = let less = ranked k n Greater is in omega (arith, less)

-- the last number is at least as high as each that is known
none_past : {A : Type 0} (xs : List A) (y : A) (n : ℕ) (z : A) → nth (xs ++ y ∷ []) n ≡ Some z → n ≤ length xs + 1
none_past xs y zero z at = omega arith
none_past {A = A} xs y (suc k) z at = within xs k (sym (nth_at (xs ++ y ∷ []) (suc k) k refl) ∙ at)
  where
    within : (ws : List A) (j : ℕ) → slice_get (ws ++ y ∷ []) j ≡ Some z → suc j ≤ length ws + 1
    within [] zero at = omega arith
    within [] (suc j) at = absurd (none_is z at)
    within (w ∷ ws) zero at = omega arith
    within (w ∷ ws) (suc j) at = let e = within ws j at in omega (arith, e)

nth_before : {A : Type 0} (xs : List A) (y : A) (n : ℕ) → n ≤ length xs → nth (xs ++ y ∷ []) n ≡ nth xs n
nth_before xs y zero less = refl
nth_before {A = A} xs y (suc k) less = nth_at (xs ++ y ∷ []) (suc k) k refl ∙ before xs k less ∙ sym (nth_at xs (suc k) k refl)
  where
    before : (ws : List A) (j : ℕ) → suc j ≤ length ws → slice_get (ws ++ y ∷ []) j ≡ slice_get ws j
    before [] j less = absurd (omega (arith, less))
    before (w ∷ ws) zero less = refl
    before (w ∷ ws) (suc j) less = before ws j (omega (arith, less))

-- the last of the texts that are known goes, and with it the last text
pub text_less : (m m' : TextBodies) (last : ℕ) (x : Bytes) (b : Book) (t : Bytes) → get nat_cmp m.known last ≡ Some x → IsUpperBound nat_cmp m.known last
    → ((n : ℕ) → get nat_cmp m'.known n ≡ cond (is_run last n) None (get nat_cmp m.known n)) → KnowsBodies m (record b { texts = b.texts ++ t ∷ [] }) → KnowsBodies m' b
text_less m m' last x b t there greatest out knows n = subst (λ o. IsText o (nth b.texts n)) (sym (out n)) (by (is_run last n) (get nat_cmp m.known n) refl refl (knows n))
  where
    most : last ≤ length b.texts + 1
    most = none_past b.texts t last x (subst (λ o. IsText o (nth (b.texts ++ t ∷ []) last)) there (knows last))

    by : (v : Bool) (o : Option Bytes) → is_run last n ≡ v → get nat_cmp m.known n ≡ o → IsText o (nth (b.texts ++ t ∷ []) n) → IsText (cond v None o) (nth b.texts n)
    by true o own is h = tt
    by false None other is h = tt
    by false (Some y) other is h =
        let less = at_most last n (nat_cmp last n) refl (greatest n (ap is_some is)) in
        let apart : (n ≡ last → ⊥) = λ same. clash (is_run last n) (subst (λ k. is_run last k ≡ true) (sym same) (run_itself last)) other in
        sym (nth_before b.texts t n (fewer n last (length b.texts) apart less most)) ∙ h

pub text_found : (m : TextBodies) (number : ℕ) (k : Bytes) (o : Option Bytes) → get nat_cmp m.known number ≡ Some k → IfSome o (λ t. t ≡ k) → IfSome o (λ t. (b : Book) → KnowsBodies m b → Some t ≡ nth b.texts number)
text_found m number k None there is = tt
text_found m number k (Some t) there is = λ b knows. sym (subst (λ o. IsText o (nth b.texts number)) (there ∙ ap Some (sym is)) (knows number))

---- How many there are

-- a change of a run
abbrev pub IsOfRun : Change → Type 0
IsOfRun (AddText body) = ⊥
IsOfRun (AddRun flow request text t) = Unit {0}
IsOfRun (AddTurn run t) = Unit {0}
IsOfRun (SetAttempt run event attempt ready) = Unit {0}
IsOfRun (SetText run text) = Unit {0}

same_texts : (b : Book) (c : Change) → IsOfRun c → (changed b c).texts ≡ b.texts
same_texts b (AddText body) none = absurd none
same_texts b (AddRun flow request text t) of_run = refl
same_texts b (AddTurn run t) of_run = run_texts b run (with_turn t)
same_texts b (SetAttempt run event attempt ready) of_run = run_texts b run (with_attempt event attempt ready)
same_texts b (SetText run text) of_run = run_texts b run (with_text text)

count_over : (o : Option ℕ) (b c : Book) → c.texts ≡ b.texts → IsTextCount o b → IsTextCount o c
count_over None b c same h = tt
count_over (Some n) b c same h = h ∙ ap (λ ts. length ts) (sym same)

pub all_stay : (m : BookTexts) (b : Book) (c : Change) → IsOfRun c → KnowsTexts m b → KnowsTexts m (changed b c)
all_stay m b c of_run h = (texts_stay m.bodies b c h.0, count_over m.count b (changed b c) (same_texts b c of_run) h.1)

-- one more, by its number
pub count_next : (b : Book) (body : Bytes) (o : Option ℕ) → IfSome o (λ n. n ≡ length b.texts + 1) → IsTextCount o (changed b (AddText body))
count_next b body None h = tt
count_next b body (Some n) h = h ∙ sym (longer b.texts body)

pub next_there : (b : Book) (body : Bytes) (o : Option ℕ) → IfSome o (λ n. n ≡ length b.texts + 1) → IfSome o (λ n. nth (changed b (AddText body)).texts n ≡ Some body)
next_there b body None h = tt
next_there b body (Some n) h = more_at b.texts body n h n ∙ here_at n (Some body) (λ k. nth b.texts k)

-- and one less
pub count_last : (b : Book) (t : Bytes) (o : Option ℕ) → IsTextCount o (record b { texts = b.texts ++ t ∷ [] }) → IfSome o (λ n. n ≡ length b.texts + 1)
count_last b t None h = tt
count_last b t (Some n) h = h ∙ longer b.texts t
