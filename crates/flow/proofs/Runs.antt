-- What comes of an engine that ran, by what served it and the status that was made.
use Rattle.std.proofs.Common.{◌≡◌, ◌≤◌, ℕ, List, Option, Ok, Err, IfOk, IfErr, inr, refl, sym, subst}
use Rattle.std.specs.Prelude.{Result, OnOk}
use Rattle.std.specs.declared.io.Error.{Error}
use Rattle.sqlite_trees.specs.declared.store.Store.{Ghosts}
use Rattle.flow_base.specs.declared.fault.Fault.{Fault}
use Rattle.flow_commit.specs.Keeping.{Keeping}
use Rattle.flow.specs.Running.{IsUnserved, RunsWith}
use Rattle.flow.specs.declared.running.Activities.{Activities}
use Rattle.flow.specs.declared.running.Activities.TheVariants as activities

-- in order, with the status
pub ended_well : {U : Type 0} (served : Result U Fault) (n : ℕ) (r : Result ℕ Fault) (P : Type 0) → OnOk served P → IfErr served (λ f. r ≡ Err f) → IfOk r (λ m. (m ≡ n) × (m ≤ 3)) → IfOk r (λ m. P × (m ≤ 3))
ended_well (Ok u) n (Ok m) P p fault done = (p, done.1)
ended_well (Ok u) n (Err f) P p fault done = tt
ended_well (Err f) n r P p fault done = subst (λ x. IfOk x (λ m. P × (m ≤ 3))) (sym fault) tt

-- by the fault that ended serving
pub ended_by : {U : Type 0} (served : Result U Fault) (n : ℕ) (r : Result ℕ Fault) (Q : Fault → Type 0) → IfErr served Q → OnOk served (r ≡ Ok n) → IfErr served (λ f. r ≡ Err f) → IfErr r Q
ended_by (Ok u) n r Q q done fault = subst (λ x. IfErr x Q) (sym done) tt
ended_by (Err f) n r Q q done fault = subst (λ x. IfErr x Q) (sym fault) q

pub status_made : (n : ℕ) (r : Result ℕ Fault) → IfOk r (λ m. (m ≡ n) × (m ≤ 3)) → IfOk r (λ m. m ≡ n)
status_made n (Ok m) done = done.0
status_made n (Err f) done = tt

pub either : (r : Result ℕ Fault) (P Q : Fault → Type 0) → ((f : Fault) → P f → Q f) → IfErr r P → IfErr r Q
either (Ok n) P Q on h = tt
either (Err f) P Q on h = on f h

-- nothing was served, and nothing has changed
pub unrun : {S W I : Type 0} (a : Activities) (g : Ghosts S) (w : W → Option (List ℕ)) (prints : W → Type 0) (lends : Result I Error → Type 0) (now : Keeping S) (f : Fault) → IsUnserved lends f → RunsWith a g w prints lends now now (Err f)
unrun (activities.Inside leave) g w prints lends now f why = (record { served = tt; ends = inr (why, refl); found = refl; follows = (refl, λ fit. fit) }, inr (f, (refl, (why, refl))))
unrun activities.Outside g w prints lends now f why = (record { served = tt; ends = inr (why, refl); found = refl; follows = (refl, λ fit. fit) }, inr (f, (refl, (why, refl))))
