-- Events by which activities were scheduled, that are known of a history.
use Rattle.std.specs.Prelude.{◌≡◌, ◌+◌, ◌<◌, ◌∷◌, ◌++◌, ◌⊎◌}
use Rattle.flow_maps.proofs.Names.{ℕ, zero, suc, List, [], length, Option, Some, None, slice_get, take, drop, inl, inr, refl, sym, ap, subst, ◌∙◌, arith, get_or, IfSome, Cmd, Event, Asked, Run, Turn, nth, with_turn, traces, turn_events, nth_at, event_of, AreCalls}
use Rattle.flow_maps.proofs.Planning.{none_is, some_is}

-- none is known
pub no_calls : (es : List Event) → es ≡ [] → (h : List Event) → AreCalls es h
no_calls es none h k e at = absurd (none_is e (ap (λ xs. slice_get xs k) (sym none) ∙ at))

-- what stands in a list with one more stands in the list, or is that one
added : {A : Type 0} (xs : List A) (x e : A) (k : ℕ) → slice_get (xs ++ x ∷ []) k ≡ Some e → (slice_get xs k ≡ Some e) ⊎ (x ≡ e)
added [] x e zero at = inr (some_is x e at)
added [] x e (suc k) at = absurd (none_is e at)
added (y ∷ xs) x e zero at = inl at
added (y ∷ xs) x e (suc k) at = added xs x e k at

-- and what stands in a list without one stands in the list
left : {A : Type 0} (xs : List A) (i m k : ℕ) (e : A) → m ≡ i + 1 → slice_get (take i xs ++ drop m xs) k ≡ Some e → (j : ℕ) × (slice_get xs j ≡ Some e)
left xs i zero k e is at = absurd (omega (arith, is))
left [] zero (suc m) k e is at = absurd (none_is e at)
left [] (suc i) (suc m) k e is at = absurd (none_is e at)
left (x ∷ xs) zero (suc m) k e is at = let none : m ≡ 0 = omega (arith, is) in (suc k, subst (λ n. slice_get (drop n xs) k ≡ Some e) none at)
left (x ∷ xs) (suc i) (suc m) zero e is at = (zero, at)
left (x ∷ xs) (suc i) (suc m) (suc k) e is at = let there = left xs i m k e (omega (arith, is)) at in (suc there.0, there.1)

module _ (es more : List Event) (h : List Event) (known : AreCalls es h) where
  pub call_in : (e : Event) → more ≡ es ++ e ∷ [] → event_of h e.id ≡ Some e → AreCalls more h
  call_in e is there k x at = elim (added es e x k (ap (λ xs. slice_get xs k) (sym is) ∙ at)) [
    | inl old ↦ known k x old
    | inr own ↦ subst (λ y. event_of h y.id ≡ Some y) own there
  ]

  -- what is let go says nothing any more
  pub call_out : (i : ℕ) → more ≡ take i es ++ drop (i + 1) es → AreCalls more h
  call_out i is k x at = let there = left es i (i + 1) k x refl (ap (λ xs. slice_get xs k) (sym is) ∙ at) in known there.0 x there.1

pub at_place : {A : Type 0} (xs : List A) (i : ℕ) (x : A) → i < length xs → x ≡ get_or xs i x → slice_get xs i ≡ Some x
at_place [] i x less is = absurd (omega (arith, less))
at_place (y ∷ xs) zero x less is = ap Some (sym is)
at_place (y ∷ xs) (suc i) x less is = at_place xs i x (omega (arith, less)) is

pub call_found : (es : List Event) (i id : ℕ) (k : Event) (o : Option Event) → slice_get es i ≡ Some k → k.id ≡ id → IfSome o (λ e. e ≡ k) → IfSome o (λ e. (h : List Event) → AreCalls es h → event_of h id ≡ Some e)
call_found es i id k None there own is = tt
call_found es i id k (Some e) there own is = λ h known. ap (event_of h) (sym own) ∙ known i k there ∙ ap Some (sym is)

---- A turn more

get_longer : {A : Type 0} (xs ys : List A) (k : ℕ) (x : A) → slice_get xs k ≡ Some x → slice_get (xs ++ ys) k ≡ Some x
get_longer [] ys k x at = absurd (none_is x at)
get_longer (y ∷ xs) ys zero x at = at
get_longer (y ∷ xs) ys (suc k) x at = get_longer xs ys k x at

pub nth_longer : {A : Type 0} (xs ys : List A) (n : ℕ) (x : A) → nth xs n ≡ Some x → nth (xs ++ ys) n ≡ Some x
nth_longer xs ys zero x at = absurd (none_is x at)
nth_longer xs ys (suc k) x at = nth_at (xs ++ ys) (suc k) k refl ∙ get_longer xs ys k x (sym (nth_at xs (suc k) k refl) ∙ at)

pub calls_on : (es : List Event) (t : Turn) (r : Run) → AreCalls es r.history → AreCalls es (with_turn t r).history
calls_on es t r known k e at = nth_longer r.history (turn_events (length r.history + 1) t.at t.input t.commands) e.id e (known k e at)

-- the event of a turn's command
traced_at : (n at : ℕ) (cs : List Cmd) (k : ℕ) (c : Cmd) → k < length cs → c ≡ get_or cs k c → slice_get (traces n at cs) k ≡ Some (record { id = n + k; at = at; what = Asked c })
traced_at n at [] k c less is = absurd (omega (arith, less))
traced_at n at (x ∷ cs) zero c less is = let first : n ≡ n + zero = omega arith in λ i. Some (record { id = first i; at = at; what = Asked (sym is i) })
traced_at n at (x ∷ cs) (suc k) c less is =
    let next : (n + 1) + k ≡ n + suc k = omega arith in
    traced_at (n + 1) at cs k c (omega (arith, less)) is ∙ (λ i. Some (record { id = next i; at = at; what = Asked c }))

past : {A : Type 0} (xs ys : List A) (m j : ℕ) → m ≡ length xs + j → slice_get (xs ++ ys) m ≡ slice_get ys j
past [] ys m j e = let same : m ≡ j = omega (arith, e) in ap (slice_get ys) same
past (x ∷ xs) ys zero j e = absurd (omega (arith, e))
past (x ∷ xs) ys (suc m) j e = past xs ys m j (omega (arith, e))

command_event : (t : Turn) (r : Run) (count k id : ℕ) (c : Cmd) → length r.history ≡ count → id ≡ count + 1 + k + 1 → k < length t.commands → c ≡ get_or t.commands k c
    → event_of (with_turn t r).history id ≡ Some (record { id = id; at = t.at; what = Asked c })
command_event t r count k id c long number less is =
    let h = r.history in
    let es = turn_events (length h + 1) t.at t.input t.commands in
    let place : id ≡ suc (length h + suc k) = omega (arith, long, number) in
    let own : length h + 1 + 1 + k ≡ id = omega (arith, long, number) in
    nth_at (h ++ es) id (length h + suc k) place ∙ past h es (length h + suc k) (suc k) refl ∙ traced_at (length h + 1 + 1) t.at t.commands k c less is
    ∙ (λ i. Some (record { id = own i; at = t.at; what = Asked c }))

-- as it is asked of whatever run has so many events
pub command_asked : (o : Option Event) (t : Turn) (count k id : ℕ) (c : Cmd) → id ≡ count + 1 + k + 1 → k < length t.commands → c ≡ get_or t.commands k c
    → IfSome o (λ e. e ≡ record { id = id; at = t.at; what = Asked c }) → IfSome o (λ e. (r : Run) → length r.history ≡ count → event_of (with_turn t r).history e.id ≡ Some e)
command_asked None t count k id c number less is made = tt
command_asked (Some e) t count k id c number less is made = λ r long.
    subst (λ x. event_of (with_turn t r).history x.id ≡ Some x) (sym made) (command_event t r count k id c long number less is)
