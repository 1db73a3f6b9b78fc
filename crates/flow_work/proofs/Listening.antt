-- Why no line is taken in any more, where tasks are printed too.
use Rattle.std.proofs.Common.{◌≡◌, ℕ, List, [], ◌∷◌, ◌++◌, Bool, true, false, Option, inl, inr, sym, subst}
use Rattle.std.specs.Prelude.{◌⊎◌}
use Rattle.flow_base.specs.declared.command.Command.{Command}
use Rattle.flow_hub.specs.declared.fed.Fed.{Fed}
use Rattle.flow_hub.specs.declared.fed.Fed.TheVariants as fed
use Rattle.flow_hub.specs.declared.known.HubFacts.{HubFacts}
use Rattle.flow_hub.specs.Feeding.{HasFed, IsLast}
use Rattle.flow_hub.specs.Submitting.{Member}
use Rattle.flow_work.specs.Counting.{is_open, is_task}
use Rattle.flow_work.specs.Silence.{EndsServed, HasAll, IsServed, IsShut, Quits}
use Rattle.flow_work.specs.declared.input.InputMessage.{InputMessage}
use Rattle.flow_work.specs.declared.queue.Pending.{Pending}

-- nothing more comes of a closed hub alone
pub closed_fed : (old new : HubFacts) (f : Fed) → HasFed old new f → is_open f ≡ false → new.closed ≡ true
closed_fed old new (fed.Task t) h e = absurd (cc e)
closed_fed old new fed.Nothing h e = absurd (cc e)
closed_fed old new fed.Closed h e = h.1

-- where no task is given out last, all are
pub all_fed : (old new : HubFacts) (f : Fed) → HasFed old new f → IsLast new f → is_task f ≡ false → HasAll new
all_fed old new (fed.Task t) h last e = absurd (cc e)
all_fed old new fed.Nothing h last e = inl (h.1, last)
all_fed old new fed.Closed h last e = inr last

-- no line waits, and all tasks are given out; or nothing is answered any more
pub all_over : (reads : List ℕ → Option Command) (tells : ℕ → Type 0) (k m : Member) (ps rest : List Pending) (feed : HubFacts) → m ≡ k → rest ≡ ps → HasAll feed → (ps ≡ []) ⊎ Quits reads tells k
    → ((rest ≡ []) × HasAll feed) ⊎ IsShut reads tells m feed
all_over reads tells k m ps rest feed same left all (inl e) = inl (subst (λ x. x ≡ []) (sym left) e, all)
all_over reads tells k m ps rest feed same left all (inr q) = inr (inl (subst (Quits reads tells) (sym same) q))

pub ends_served : (reads : List ℕ → Option Command) (tells : ℕ → Type 0) (m : Member) (ps : List Pending) (feed : HubFacts) (n : ℕ) (given was : List InputMessage) (x : InputMessage) → given ≡ was ++ x ∷ [] → IsServed x ps feed n ⊎ IsShut reads tells m feed
    → EndsServed reads tells m ps feed n given
ends_served reads tells m ps feed n given was x e (inl over) = inl (was, x, e, over)
ends_served reads tells m ps feed n given was x e (inr shut) = inr shut
