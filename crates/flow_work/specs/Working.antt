-- What the threads have done by their ends that fire timers, hand out tasks, make attempts and read.
use Rattle.std.specs.Prelude.{◌≡◌, ◌⊎◌, ℕ, List, [], ◌++◌, Bool, true, Option, length}
use Rattle.flow_base.specs.declared.task.Task.{Task}
use Rattle.flow_hub.specs.declared.known.HubFacts.{HubFacts}
use Rattle.flow_pool.specs.declared.activity.Attempt.{Attempt}
use Rattle.flow_pool.specs.declared.hand.Hand.{Hand}
use Rattle.flow_pool.specs.Orders.{WasEmpty}
use Rattle.flow_pool.specs.Reports.{Telling, Works}
use Rattle.flow_work.specs.Firing.{Fires}
use Rattle.flow_work.specs.Inputs.{HasRead}
use Rattle.flow_work.specs.declared.input.InputMessage.{InputMessage}

-- A worker that had taken and told this has taken tasks more, and has told of each what `Works` says.
pub record HasWorked (tells : ℕ → Type 0) (may : Task → Attempt → Type 0) (left : Task → Bool) (taken : List Task) (knows : Hand) (was now : List Telling) : Type 0 where
  pub tasks : List Task
  pub log : List Telling
  pub took : knows.got ≡ taken ++ tasks
  pub told : now ≡ was ++ log
  pub works : Works tells may left (WasEmpty (Unit {0}) knows) tasks log

-- Who hands out tasks has handed these out, all that it was given; and the hub is closed, or the last one came back from the channel.
pub record HasHanded (was now : HubFacts) : Type 0 where
  pub tasks : List Task
  pub lost : List Task
  pub given : now.given ≡ (was.given ++ tasks) ++ lost
  pub ends : ((lost ≡ []) × (now.closed ≡ true)) ⊎ (length lost ≡ 1)

-- Ticks were told, and no more are to be.
pub record HasFired (tells : ℕ → Type 0) (known : HubFacts) (was now : List Telling) : Type 0 where
  pub fires : Fires tells known was now

-- Of what is left to read this was handed on, as `HasRead` says.
pub record HasHandedOn (gone : Type 0) (bytes left : Option (List ℕ)) (was now : List InputMessage) : Type 0 where
  pub read : HasRead gone bytes left was now
