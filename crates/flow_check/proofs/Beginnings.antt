-- A step begins a statement that is next, takes a signal or fails the run.
use Rattle.std.proofs.Common.{◌≡◌, ℕ, Bool, true, false, Option, Some, None, refl, ap, ◌∙◌, if◌then◌else◌, inl, inr}
use Rattle.std.specs.Prelude.{◌⊎◌}
use Rattle.flow_base.specs.Syntax.{Bytes, Statement, Block, End, Next}
use Rattle.flow_base.specs.declared.value.Value.{Value}
use Rattle.flow_base.specs.declared.event.Cause.{Cause}
use Rattle.flow_base.specs.declared.event.Cmd.TheVariants.{CancelTimer}
use Rattle.flow_model.specs.Rest.{Rest, Done, OnActivity, OnTimer, OnSignal, OnSignalFor, Raised, Then, Beside, is_done}
use Rattle.flow_model.specs.Step.{Store, Setting, Move, Stays, Goes, Asks, Ends, begin, around, followed_by, first_of, or_move, move, oldest, take_signal, on_signal}
use Rattle.flow_check.specs.Typed.{IsNext, IsRaised, Begins, Takes, Fails, OnlyNextBegins}

abbrev Is : Setting → Store → Rest → Move → Type 0
Is s t r m = (m ≡ Stays) ⊎ (Begins s t r m ⊎ (Takes t m ⊎ Fails r m))

around_twice : (f g : Rest → Rest) (m : Move) → around f (around g m) ≡ around (λ q. f (g q)) m
around_twice f g Stays = refl
around_twice f g (Goes r t) = refl
around_twice f g (Asks r t c) = refl
around_twice f g (Ends c) = refl

module _ (s : Setting) (t : Store) where
  -- a step of a part is one of the whole
  is_within : (f : Rest → Rest) (r q : Rest) (m : Move) → ((st : Statement) → IsNext r st → IsNext q st) → ((c : Cause) (text : Bytes) → IsRaised r c text → IsRaised q c text) → Is s t r m → Is s t q (around f m)
  is_within f r q m h i (inl e) = inl (ap (around f) e)
  is_within f r q m h i (inr (inl b)) = inr (inl (b.0, ((λ x. f (b.1.0 x)), (h b.0 b.1.1.0, ap (around f) b.1.1.1 ∙ around_twice f b.1.0 (begin s t b.0)))))
  is_within f r q m h i (inr (inr (inl k))) =
      inr (inr (inl (
        k.0,
        (
          k.1.0,
          (
            k.1.1.0,
            (
              f k.1.1.1.0,
              (
                k.1.1.1.1.0,
                elim k.1.1.1.1.1 [
                  | inl e ↦ inl (ap (around f) e)
                  | inr e ↦ inr (e.0, ap (around f) e.1)
                ],
              ),
            ),
          ),
        ),
      )))
  is_within f r q m h i (inr (inr (inr k))) = inr (inr (inr (k.0, (k.1.0, (i k.0 k.1.0 k.1.1.0, ap (around f) k.1.1.1)))))

  is_either : (r : Rest) (m k : Move) → Is s t r m → Is s t r k → Is s t r (or_move m k)
  is_either r Stays k h g = g
  is_either r (Goes q u) k h g = h
  is_either r (Asks q u c) k h g = h
  is_either r (Ends c) k h g = h

  is_first : (r : Rest) (b : Block) → is_done r ≡ true → Is s t (Then r b) (first_of s t b)
  is_first r End e = inl refl
  is_first r (Next st b) e = inr (inl (st, (followed_by b, (inl (e, refl), refl))))

  is_then : (r : Rest) (b : Block) (d : Bool) → is_done r ≡ d → Is s t r (move s t r) → Is s t (Then r b) (if d then first_of s t b else around (λ q. Then q b) (move s t r))
  is_then r b true e h = is_first r b e
  is_then r b false e h = is_within (λ q. Then q b) r (Then r b) (move s t r) (λ st i. inr i) (λ c text i. i) h

  is_taken : (x name : Bytes) (o : Option Value) → oldest name t.buffer ≡ o → Is s t (OnSignal x name) (on_signal o (λ v. Goes Done (take_signal t x name v)) Stays)
  is_taken x name None e = inl refl
  is_taken x name (Some v) e = inr (inr (inl (x, (name, (v, (Done, (e, inl refl)))))))

  is_taken_late : (x name : Bytes) (n : ℕ) (b : Block) (o : Option Value) → oldest name t.buffer ≡ o
      → Is s t (OnSignalFor x name n b) (on_signal o (λ v. Asks Done (take_signal t x name v) (CancelTimer n)) Stays)
  is_taken_late x name n b None e = inl refl
  is_taken_late x name n b (Some v) e = inr (inr (inl (x, (name, (v, (Done, (e, inr (n, refl))))))))

  is_step : (r : Rest) → Is s t r (move s t r)
  is_step Done = inl refl
  is_step (OnActivity n x k o) = inl refl
  is_step (OnTimer n) = inl refl
  is_step (OnSignal x name) = is_taken x name (oldest name t.buffer) refl
  is_step (OnSignalFor x name n b) = is_taken_late x name n b (oldest name t.buffer) refl
  is_step (Raised c text) = inr (inr (inr (c, (text, ((refl, refl), refl)))))
  is_step (Then r b) = is_then r b (is_done r) refl (is_step r)
  is_step (Beside a b) =
      is_either (Beside a b) (around (λ q. Beside q b) (move s t a)) (around (λ q. Beside a q) (move s t b))
      (is_within (λ q. Beside q b) a (Beside a b) (move s t a) (λ st i. inl i) (λ c text i. inl i) (is_step a))
      (is_within (λ q. Beside a q) b (Beside a b) (move s t b) (λ st i. inr i) (λ c text i. inr i) (is_step b))

pub only_next : OnlyNextBegins
only_next s t r = is_step s t r
