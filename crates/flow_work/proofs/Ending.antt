-- Why a thread ends that answers lines.
use Rattle.std.proofs.Common.{◌≡◌, ℕ, List, [], ◌∷◌, ◌++◌, Option, inl, inr, sym, ◌∙◌, subst}
use Rattle.std.specs.Prelude.{◌⊎◌}
use Rattle.flow_base.specs.declared.command.Command.{Command}
use Rattle.flow_hub.specs.declared.known.HubFacts.{HubFacts}
use Rattle.flow_hub.specs.Knowing.{IsBefore}
use Rattle.flow_hub.specs.Submitting.{Member}
use Rattle.flow_hub.proofs.Growing.{before_trans}
use Rattle.flow_work.specs.Silence.{EndsServed, EndsTaking, HasEnded, HasNoAnswer, HasShut, IsLast, IsNoLine, IsOver, IsServed, Quits}
use Rattle.flow_work.specs.declared.input.InputMessage.{InputMessage}
use Rattle.flow_work.specs.declared.input.InputMessage.TheVariants as input
use Rattle.flow_work.specs.declared.queue.Pending.{Pending}
use Rattle.flow_work.proofs.Counting.{pending_later}

-- a line that has no answer has none later
no_answer_later : (reads : List ℕ → Option Command) (tells : ℕ → Type 0) (k m : Member) → m.id ≡ k.id → IsBefore k.was m.was → HasNoAnswer reads tells k → HasNoAnswer reads tells m
no_answer_later reads tells k m same later u = record {
  bytes = u.bytes;
  line = u.line;
  waits = pending_later reads tells k m (sym same) later u.bytes u.line u.waits;
  seen = u.seen;
  same = u.same ∙ sym same;
  before = before_trans u.seen.was k.was m.was u.before later;
  without = u.without;
}

quits_later : (reads : List ℕ → Option Command) (tells : ℕ → Type 0) (k m : Member) → m.id ≡ k.id → IsBefore k.was m.was → Quits reads tells k → Quits reads tells m
quits_later reads tells k m same later (inl closed) = inl (later.closed closed)
quits_later reads tells k m same later (inr u) = inr (no_answer_later reads tells k m same later u)

no_line : (x : InputMessage) (ps : List Pending) (n : ℕ) → IsOver x ps n → IsNoLine x n
no_line (input.Line l) ps n h = h
no_line input.Ended ps n h = tt
no_line input.Failed ps n h = h.1
no_line input.Stopped ps n h = tt

last_line : (x : InputMessage) (ps : List Pending) (feed : HubFacts) (n : ℕ) → IsServed x ps feed n → IsLast x feed n
last_line (input.Line l) ps feed n h = h
last_line input.Ended ps feed n h = h.1
last_line input.Failed ps feed n h = (h.1, h.2)
last_line input.Stopped ps feed n h = tt

ended : (reads : List ℕ → Option Command) (tells : ℕ → Type 0) (m : Member) (ps : List Pending) (n : ℕ) (given : List InputMessage) → EndsTaking reads tells m ps n given → HasEnded reads tells m n given
ended reads tells m ps n given (inl h) = inl (h.0, h.1, h.2, no_line h.1 ps n h.3)
ended reads tells m ps n given (inr q) = inr q

ended_later : (reads : List ℕ → Option Command) (tells : ℕ → Type 0) (k m : Member) (n : ℕ) (given : List InputMessage) → m.id ≡ k.id → IsBefore k.was m.was → HasEnded reads tells k n given → HasEnded reads tells m n given
ended_later reads tells k m n given same later (inl h) = inl h
ended_later reads tells k m n given same later (inr q) = inr (quits_later reads tells k m same later q)

shut : (reads : List ℕ → Option Command) (tells : ℕ → Type 0) (m : Member) (ps : List Pending) (feed : HubFacts) (n : ℕ) (given : List InputMessage) → EndsServed reads tells m ps feed n given → HasShut reads tells m feed n given
shut reads tells m ps feed n given (inl h) = inl (h.0, h.1, h.2, last_line h.1 ps feed n h.3)
shut reads tells m ps feed n given (inr s) = inr s

-- who answers lines alone sees more behind its loop
pub has_ended : (reads : List ℕ → Option Command) (tells : ℕ → Type 0) (k m l : Member) (ps : List Pending) (n was : ℕ) (given : List InputMessage) → m.id ≡ k.id → IsBefore k.was m.was → l ≡ m → n ≡ was → EndsTaking reads tells k ps was given
    → HasEnded reads tells l n given
has_ended reads tells k m l ps n was given same later is status h =
    subst (λ (x : Member). HasEnded reads tells x n given) (sym is)
    (ended_later reads tells k m n given same later (subst (λ x. HasEnded reads tells k x given) (sym status) (ended reads tells k ps was given h)))

-- who prints tasks too sees what it saw then
pub has_shut : (reads : List ℕ → Option Command) (tells : ℕ → Type 0) (k m : Member) (ps : List Pending) (fed feed : HubFacts) (n was : ℕ) (given : List InputMessage) → m ≡ k → feed ≡ fed → n ≡ was → EndsServed reads tells k ps fed was given
    → HasShut reads tells m feed n given
has_shut reads tells k m ps fed feed n was given is same status h =
    subst (λ (x : Member). HasShut reads tells x feed n given) (sym is)
    (subst (λ (x : HubFacts). HasShut reads tells k x n given) (sym same)
    (subst (λ x. HasShut reads tells k fed x given) (sym status) (shut reads tells k ps fed was given h)))
