-- What is told of the lines that wait.
use Rattle.std.proofs.Common.{◌≡◌, Bool, true, List, [], ◌∷◌, ◌++◌, Option, Some, None, is_some, refl, sym, ap, ◌∙◌, subst, append_assoc}
use Rattle.flow_lines.specs.declared.reply.Line.{Line}
use Rattle.flow_hub.specs.Knowing.{IsBefore}
use Rattle.flow_hub.specs.Submitting.{Member}
use Rattle.flow_hub.proofs.Growing.{before_self, before_trans}
use Rattle.flow_work.specs.Printing.{Printed}
use Rattle.flow_work.specs.Telling.{IsAnswer, AnswersFirst, PrintsAnswer, Tells, TellsAll, HasTold}
use Rattle.flow_work.specs.declared.queue.Pending.{Pending}

tells_later : (k m : Member) → k.id ≡ m.id → IsBefore k.was m.was → (ps : List Pending) (old new : Printed) → TellsAll k ps old new → TellsAll m ps old new
tells_later k m same later [] old new t = t
tells_later k m same later (p ∷ ps) old new t =
    let one : Tells m p old t.0 = record {
      seen = t.1.seen;
      line = t.1.line;
      same = t.1.same ∙ same;
      before = before_trans t.1.seen.was k.was m.was t.1.before later;
      answer = t.1.answer;
      printed = t.1.printed;
    } in
    (t.0, one, tells_later k m same later ps t.0 new t.2)

tells_more : (m : Member) (ps qs : List Pending) (old mid new : Printed) → TellsAll m ps old mid → TellsAll m qs mid new → TellsAll m (ps ++ qs) old new
tells_more m [] qs old mid new t u = subst (λ x. TellsAll m qs x new) t u
tells_more m (p ∷ ps) qs old mid new t u = (t.0, t.1, tells_more m ps qs t.0 mid new t.2 u)

-- nothing was told of yet
pub told_none : (m : Member) (on : Bool) (ps : List Pending) (s : Printed) → HasTold m on ps ps s s
told_none m on ps s = record { told = []; silent = []; rest = refl; all = λ _. refl; printed = refl }

-- the oldest was
told_first : (m : Member) (was now : List Pending) (told : Option Line) (on : Bool) (old new : Printed) → AnswersFirst m was now told on → PrintsAnswer told old new → HasTold m on was now old new
told_first m [] now None on old new a p = record { told = []; silent = []; rest = a.0; all = λ _. refl; printed = p }
told_first m [] now (Some l) on old new a p = absurd (cc a.1)
told_first m (q ∷ qs) now None on old new a p = record { told = []; silent = q ∷ []; rest = ap (λ r. q ∷ r) a.0; all = λ t. absurd (cc (a.2, t)); printed = p }
told_first m (q ∷ qs) now (Some l) on old new a p =
    let one : Tells m q old new = record { seen = m; line = l; same = refl; before = before_self m.was; answer = a.1; printed = p } in
    record { told = q ∷ []; silent = []; rest = ap (λ r. q ∷ r) a.0; all = λ _. refl; printed = (new, one, refl) }

pub told_next : (m : Member) (p : Pending) (told : Option Line) (on : Bool) (old new : Printed) {was now ps : List Pending} → was ≡ p ∷ ps → now ≡ ps → IsAnswer m p told → on ≡ is_some told → PrintsAnswer told old new → HasTold m on was now old new
told_next m p told on old new {was} {now} {ps} is rest answer goes printed = subst (λ w. HasTold m on w now old new) (sym is) (told_first m (p ∷ ps) now told on old new (rest, answer, goes) printed)

-- what was told stands later too
pub told_later : (k m : Member) {on : Bool} {was now : List Pending} {old new : Printed} → m.id ≡ k.id → IsBefore k.was m.was → HasTold k on was now old new → HasTold m on was now old new
told_later k m {on} {was} {now} {old} {new} same later h = record { told = h.told; silent = h.silent; rest = h.rest; all = h.all; printed = tells_later k m (sym same) later h.told old new h.printed }

-- some, and some more behind them
pub told_then : (k m : Member) {on : Bool} {was mid now : List Pending} {old then new : Printed} → m.id ≡ k.id → IsBefore k.was m.was → HasTold k true was mid old then → HasTold m on mid now then new → HasTold m on was now old new
told_then k m {on} {was} {mid} {now} {old} {then} {new} same later p q =
    let first : p.told ++ mid ≡ was = subst (λ s. p.told ++ (s ++ mid) ≡ was) (p.all refl) p.rest in
    record {
      told = p.told ++ q.told;
      silent = q.silent;
      rest = append_assoc p.told q.told (q.silent ++ now) ∙ (ap (λ w. p.told ++ w) q.rest ∙ first);
      all = q.all;
      printed = tells_more m p.told q.told old then new (tells_later k m (sym same) later p.told old then p.printed) q.printed;
    }

-- and it may end there
pub told_ends : (m : Member) (on : Bool) {was now : List Pending} {old new : Printed} → HasTold m true was now old new → HasTold m on was now old new
told_ends m on h = record { told = h.told; silent = h.silent; rest = h.rest; all = λ _. h.all refl; printed = h.printed }

pub told_as : (m : Member) (on is : Bool) {was now : List Pending} {old new : Printed} → on ≡ is → HasTold m on was now old new → HasTold m is was now old new
told_as m on is {was} {now} {old} {new} e h = subst (λ b. HasTold m b was now old new) e h
