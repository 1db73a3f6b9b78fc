-- Why nothing is answered any more.
use Rattle.std.proofs.Common.{◌≡◌, ◌≤◌, Bool, true, false, List, [], ◌∷◌, ◌++◌, Option, Some, None, inl, inr, refl, sym, ap, ◌∙◌, subst, append_assoc, length}
use Rattle.std.specs.Prelude.{IfNone}
use Rattle.flow_lines.specs.declared.reply.Line.{Line}
use Rattle.flow_hub.specs.Knowing.{IsBefore}
use Rattle.flow_hub.specs.Submitting.{Member}
use Rattle.flow_hub.proofs.Growing.{before_self}
use Rattle.flow_work.specs.Printing.{Printed}
use Rattle.flow_work.specs.Silence.{IsFewer, IsHeldUp, IsUnanswered, IsSilent}
use Rattle.flow_work.specs.Telling.{AnswersFirst, HasTold}
use Rattle.flow_work.specs.declared.input.InputMessage.{InputMessage}
use Rattle.flow_work.specs.declared.queue.Pending.{Pending}

-- the oldest has no answer
pub silent_first : (m : Member) (was now : List Pending) (told : Option Line) (on : Bool) → AnswersFirst m was now told on → on ≡ false → IsSilent m was
silent_first m [] now told on a off = absurd (cc (a.2, off))
silent_first m (p ∷ ps) now (Some l) on a off = absurd (cc (a.2, off))
silent_first m (p ∷ ps) now None on a off = inr (record { front = []; line = p; back = ps; are = refl; seen = m; same = refl; before = before_self m.was; without = a.1 })

-- the oldest waits no more
pub fewer : (m : Member) (was now : List Pending) (told : Option Line) (on : Bool) → AnswersFirst m was now told on → IsFewer was now
fewer m [] now told on a = a.0
fewer m (p ∷ ps) now told on a = a.0

unanswered_behind : (m : Member) (front now was : List Pending) → front ++ now ≡ was → IsUnanswered m now → IsUnanswered m was
unanswered_behind m front now was is u = record {
  front = front ++ u.front;
  line = u.line;
  back = u.back;
  are = sym is ∙ (ap (λ ps. front ++ ps) u.are ∙ sym (append_assoc front u.front (u.line ∷ u.back)));
  seen = u.seen;
  same = u.same;
  before = u.before;
  without = u.without;
}

-- one that waits still has none
pub silent_behind : (k m : Member) {was now : List Pending} {old new : Printed} → HasTold k true was now old new → IsSilent m now → IsSilent m was
silent_behind k m {was} {now} h (inl closed) = inl closed
silent_behind k m {was} {now} h (inr u) = inr (unanswered_behind m h.told now was (subst (λ s. h.told ++ (s ++ now) ≡ was) (h.all refl) h.rest) u)

-- nothing was there to be read
pub held_by_none : (L : Type 0) (ps : List Pending) (r : Option InputMessage) → IfNone r L → IfNone r (IsHeldUp ps L)
held_by_none L ps None h = inr h
held_by_none L ps (Some x) h = tt

pub held_by_room : (L : Type 0) (ps : List Pending) → 64 ≤ length ps → IsHeldUp ps L
held_by_room L ps full = inl full
