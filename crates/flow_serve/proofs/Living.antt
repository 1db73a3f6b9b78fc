-- A hub that was served is a part of a life.
use Rattle.std.proofs.Common.{◌≡◌, List, [], ◌++◌, refl, sym, ap, ◌∙◌, subst}
use Rattle.std.specs.Prelude.{MatchResult, Result, Ok, Err}
use Rattle.sqlite_trees.specs.declared.store.Store.{Ghosts}
use Rattle.flow_base.specs.declared.fault.Fault.{Fault}
use Rattle.flow_base.specs.declared.submission.Taken.{Taken}
use Rattle.flow_commit.specs.Keeping.{Keeping, account_of}
use Rattle.flow_commit.specs.Shutting.{AreOver}
use Rattle.flow_commit.proofs.Overs.{none_over}
use Rattle.flow_queues.specs.declared.refused.Refused.{Refused}
use Rattle.flow_hub.specs.Knowing.{nothing}
use Rattle.flow_hub.specs.Publishing.{Together}
use Rattle.flow_hub.specs.declared.known.HubFacts.{HubFacts}
use Rattle.flow_engine.specs.Driving.{receipts_told}
use Rattle.flow_serve.specs.Living.{ServesHub}
use Rattle.flow_serve.specs.Serving.{HasServed}

module _ {S : Type 0} (g : Ghosts S) where
  -- what has kept nothing and what was told nothing stand together
  pub together_new : (old : Keeping S) (k : HubFacts) → old.log ≡ [] → k ≡ nothing → Together (account_of g old) k
  together_new old k fresh none = subst (λ (x : HubFacts). Together (account_of g old) x) (sym none) (record { log = fresh; over = tt; none = refl })

  -- and of no run anything is left out
  pub over_new : (old : Keeping S) (k : HubFacts) → k ≡ nothing → AreOver g old k.gone
  over_new old k none = subst (λ (x : HubFacts). AreOver g old x.gone) (sym none) (none_over g old)

  -- what was served, whatever has ended it
  served_so : (old new : Keeping S) (was now : List Refused) (r : Result Unit Fault)
      → MatchResult r (λ _. HasServed g old new was now []) (λ _. (waiting : List Taken) × HasServed g old new was now waiting)
      → (waiting : List Taken) × HasServed g old new was now waiting
  served_so old new was now (Ok u) h = ([], h)
  served_so old new was now (Err f) h = h

  hub_by : (old new : Keeping S) (was : List Refused) (k : HubFacts) (waiting : List Taken) → old.log ≡ [] → HasServed g old new was k.refused waiting
      → Together (account_of g new) k → ServesHub g old new k.history
  hub_by old new was k waiting fresh served together = record {
    batches = served.batches;
    dones = served.dones;
    sizes = served.sizes;
    runs = served.runs;
    are = sym together.log ∙ served.log ∙ ap (λ l. l ++ receipts_told served.batches served.dones) fresh;
  }

  -- by what serving says
  pub serves_hub : (old new : Keeping S) (was : List Refused) (k : HubFacts) (r : Result Unit Fault) → old.log ≡ []
      → MatchResult r (λ _. HasServed g old new was k.refused []) (λ _. (waiting : List Taken) × HasServed g old new was k.refused waiting)
      → Together (account_of g new) k → ServesHub g old new k.history
  serves_hub old new was k r fresh served together =
      let its = served_so old new was k.refused r served in
      hub_by old new was k its.0 fresh its.1 together
