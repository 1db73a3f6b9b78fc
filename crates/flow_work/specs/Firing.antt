-- What the thread that fires timers tells, and why it ends.
use Rattle.std.specs.Prelude.{◌≡◌, ◌⊎◌, ℕ, List, [], ◌∷◌, ◌++◌, Bool, true, false, Result, Ok, Err, MatchBool}
use Rattle.std.specs.List.{AllByRecursion}
use Rattle.flow_base.specs.declared.command.Command.{Command}
use Rattle.flow_base.specs.declared.command.Reply.{Reply}
use Rattle.flow_hub.specs.declared.known.HubFacts.{HubFacts}
use Rattle.flow_hub.specs.Feeding.{IsTickOf}
use Rattle.flow_hub.specs.Knowing.{IsBefore}
use Rattle.flow_hub.specs.Submitting.{Member}
use Rattle.flow_pool.specs.declared.report.Unheard.{Unheard}
use Rattle.flow_pool.specs.Reports.{Heard, Telling, came_of, is_final}
use Rattle.flow_timers.specs.Pausing.{pause_after}
use Rattle.flow_work.specs.Hearing.{IsHeard}

-- What was told is a tick, at a moment that the clock told, that fires what was due by what its submitter had seen then, and what came of it is so by what it saw behind
-- that, a beginning of what it sees now.
pub record IsFired (tells : ℕ → Type 0) (now : HubFacts) (told : Telling) : Type 0 where
  pub asked : Member
  pub behind : Member
  pub command : Command
  pub heard : Result Reply (Command × Unheard)
  pub is : told ≡ (command, came_of heard)
  pub tick : IsTickOf tells asked.was command
  pub comes : IsHeard asked behind command heard
  pub before : IsBefore behind.was now

-- nothing is answered behind it: E84, E85 or E91
abbrev pub is_last : Heard → Bool
is_last (Ok reply) = false
is_last (Err unheard) = is_final unheard

-- it was answered by a reply
abbrev pub is_replied : Heard → Bool
is_replied (Ok reply) = true
is_replied (Err unheard) = false

-- Behind one more that was told the pause begins anew if that had a reply; if not, it was slept for, and is longer.
abbrev pub Pauses : (was now : List Telling) → (before after : ℕ) → Type 0
Pauses was now before after = (told : Telling) × (now ≡ was ++ told ∷ []) × (after ≡ pause_after (is_replied told.1) before)

-- it was fired, and more may be
abbrev pub FiresOn : (ℕ → Type 0) → HubFacts → Telling → Type 0
FiresOn tells now told = IsFired tells now told × (is_last told.1 ≡ false)

-- Why nothing more is fired: the hub is closed; or this one was fired, and nothing is answered behind it.
abbrev pub EndsFiring : (ℕ → Type 0) → HubFacts → List Telling → Type 0
EndsFiring tells now last = ((last ≡ []) × (now.closed ≡ true)) ⊎ ((told : Telling) × (last ≡ told ∷ []) × IsFired tells now told × (is_last told.1 ≡ true))

-- One more was fired and more may be, or nothing more is.
abbrev pub FiresOne : (ℕ → Type 0) → HubFacts → (was now : List Telling) → Bool → Type 0
FiresOne tells known was now goes_on =
    MatchBool goes_on ((told : Telling) × (now ≡ was ++ told ∷ []) × FiresOn tells known told) ((last : List Telling) × (now ≡ was ++ last) × EndsFiring tells known last)

-- These were fired one after the other, and more may be.
abbrev pub FiresSoFar : (ℕ → Type 0) → HubFacts → (was now : List Telling) → Type 0
FiresSoFar tells known was now = (ticks : List Telling) × (now ≡ was ++ ticks) × AllByRecursion (FiresOn tells known) ticks

-- These were, and then nothing more.
abbrev pub Fires : (ℕ → Type 0) → HubFacts → (was now : List Telling) → Type 0
Fires tells known was now =
    (ticks : List Telling) × (last : List Telling) × (now ≡ was ++ ticks ++ last) × AllByRecursion (FiresOn tells known) ticks × EndsFiring tells known last
