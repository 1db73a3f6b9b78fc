-- A status of 3 stays.
use Rattle.std.proofs.Common.{◌≡◌, ℕ, List, [], ◌∷◌, Bool, true, false, refl, ap, ◌∙◌, inl, inr}
use Rattle.std.specs.Prelude.{◌⊎◌, max}
use Rattle.flow_lines.specs.Driving.{answer_status}
use Rattle.flow_lines.specs.declared.reply.Line.{Line}
use Rattle.flow_hub.specs.declared.fed.Fed.{Fed}
use Rattle.flow_hub.specs.declared.fed.Fed.TheVariants as fed
use Rattle.flow_hub.specs.declared.known.HubFacts.{HubFacts}
use Rattle.flow_hub.specs.Submitting.{Member}
use Rattle.flow_work.specs.Counting.{PrintsFed}
use Rattle.flow_work.specs.Printing.{Printed, PrintsLine, status_by, status_with}
use Rattle.flow_work.specs.Silence.{HasAll}
use Rattle.flow_work.specs.Telling.{TellsAll}
use Rattle.flow_work.specs.declared.queue.Pending.{Pending}
use Rattle.flow_work.proofs.Counting.{three_most}

by_line : (was : ℕ) (x : Line) (is : Bool) → was ≡ 3 → status_with was x is ≡ 3
by_line was x true e = refl
by_line was x false e = ap (λ n. max n (answer_status x)) e ∙ three_most x

by_task : (was : ℕ) (is : Bool) → was ≡ 3 → status_by was is ≡ 3
by_task was true e = refl
by_task was false e = e

line_failed : (x : Line) (old new : Printed) → PrintsLine x old new → old.status ≡ 3 → new.status ≡ 3
line_failed x old new p e = p.1 ∙ by_line old.status x new.is_mute e

-- whatever lines are told of
pub tells_failed : (m : Member) (ps : List Pending) (old new : Printed) → TellsAll m ps old new → old.status ≡ 3 → new.status ≡ 3
tells_failed m [] old new t e = ap (λ (p : Printed). p.status) t ∙ e
tells_failed m (p ∷ ps) old new t e = tells_failed m ps t.0 new t.2 (line_failed t.1.line old t.0 t.1.printed e)

-- and whatever is given out
pub fed_failed : (f : Fed) (old new : Printed) → PrintsFed f old new → old.status ≡ 3 → new.status ≡ 3
fed_failed (fed.Task t) old new p e = p.1 ∙ by_task old.status new.is_mute e
fed_failed fed.Nothing old new p e = ap (λ (p : Printed). p.status) p ∙ e
fed_failed fed.Closed old new p e = ap (λ (p : Printed). p.status) p ∙ e

pub over_failed : {Q : Type 0} (ps : List Pending) (n : ℕ) → n ≡ 3 → (ps ≡ []) ⊎ Q → ((ps ≡ []) × (n ≡ 3)) ⊎ Q
over_failed ps n e (inl none) = inl (none, e)
over_failed ps n e (inr q) = inr q

pub served_failed : {Q : Type 0} (ps : List Pending) (feed : HubFacts) (n : ℕ) → n ≡ 3 → ((ps ≡ []) × HasAll feed) ⊎ Q → ((ps ≡ []) × HasAll feed × (n ≡ 3)) ⊎ Q
served_failed ps feed n e (inl h) = inl (h.0, h.1, e)
served_failed ps feed n e (inr q) = inr q
