-- What came of an engine that ran.
use Rattle.std.proofs.Common.{◌≡◌, refl, sym, subst, Ok, Err}
use Rattle.std.specs.Prelude.{Result, IfErr, OnOk}
use Rattle.sqlite_trees.specs.declared.store.Store.{Ghosts}
use Rattle.flow_base.specs.declared.fault.Fault.{Fault}
use Rattle.flow_base.specs.declared.fault.Fault.TheVariants as fault
use Rattle.flow_commit.specs.Keeping.{Keeping}
use Rattle.flow_engine.specs.Answering.{Follows}
use Rattle.flow_work.specs.Endings.{EndsServing, HasRun, HasServedAll}

-- it has served, as this says
pub has_run : {S A U : Type 0} (g : Ghosts S) (old new : Keeping S) (a : A) (ended : A → Result U Fault) (served : Result U Fault) → ended a ≡ served → OnOk served (HasServedAll g old new) → IfErr served (EndsServing g old new) → OnOk served (new.halted ≡ old.halted) → new.found ≡ old.found → Follows g old new → HasRun g old new (Ok a) ended
has_run g old new a ended served is all ends goes found follows = record {
  served = subst (λ s. OnOk s (HasServedAll g old new)) (sym is) all;
  ends = subst (λ s. IfErr s (EndsServing g old new)) (sym is) ends;
  goes_on = subst (λ s. OnOk s (new.halted ≡ old.halted)) (sym is) goes;
  unserved = tt;
  found = found;
  follows = follows;
}

-- nothing was served, since memory or a thread was refused
pub not_run : {S A U : Type 0} (g : Ghosts S) (now : Keeping S) (ended : A → Result U Fault) (f : Fault) → f ≡ fault.NoMemory _ → HasRun g now now (Err f) ended
not_run g now ended f is = record { served = tt; ends = tt; goes_on = tt; unserved = (is, refl); found = refl; follows = (refl, λ fit. fit) }
