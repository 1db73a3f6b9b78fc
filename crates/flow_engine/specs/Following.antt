-- What an engine keeps from call to call, and that the causes of what it gave up stay, and the failures that were counted.
use Rattle.std.specs.Prelude.{◌≡◌, ◌⊎◌, ◌≤◌, ℕ, false, Option, IsSome}
use Rattle.std.proofs.Common.{inl, inr, List, refl, ◌∙◌, subst, arith}
use Rattle.sqlite.specs.Held.{state}
use Rattle.sqlite_disk.specs.Disk.{MoreFaults}
use Rattle.sqlite_trees.specs.declared.store.Store.{Ghosts}
use Rattle.flow_base.specs.declared.code.Code.{Code}
use Rattle.flow_base.specs.declared.command.Command.{Command}
use Rattle.flow_model.specs.Book.{Book}
use Rattle.flow_base.specs.declared.code.Code.TheVariants as codes
use Rattle.flow_model.specs.Answers.{IsMoreBy}
use Rattle.flow_tables.specs.Faults.{IsHindering, Since}
use Rattle.flow_tables.specs.Owned.{state_of}
use Rattle.flow_tables.proofs.Stopping.{hindering_after, since_then}
use Rattle.flow_commit.specs.Keeping.{Keeping, IsFit}
use Rattle.flow_commit.specs.Committing.{HasGoneOn, IsDown}
use Rattle.flow_commit.proofs.Refusing.{gone_on_self}
use Rattle.flow_commit.proofs.Sealing.{shut_on}
use Rattle.flow_engine.specs.Answering.{Follows, IsSure}
use Rattle.flow_engine.specs.Counting.{HasOtherCause, IsHeldBack}
use Rattle.flow_engine.specs.GivingUp.{GivesUp, WasRefused}

-- It stands over the same opening, and has gone on from there.
abbrev pub Succeeds : {S : Type 0} → Ghosts S → Keeping S → Keeping S → Type 0
Succeeds g old new = Follows g old new × (IsFit g new → HasGoneOn g old new)

module _ {S : Type 0} (g : Ghosts S) where
  pub gone_on_then : (a b c : Keeping S) → HasGoneOn g a b → HasGoneOn g b c → HasGoneOn g a c
  gone_on_then a b c one two = record {
    since = since_then (state_of g a.stored) (state_of g b.stored) (state_of g c.stored) one.since two.since;
    up = λ up. one.up (two.up up);
    rest = λ was. two.rest (one.rest was);
    counts = let x = one.counts in let y = two.counts in omega (arith, x, y);
  }

  pub succeeds_self : (a : Keeping S) → Succeeds g a a
  succeeds_self a = ((refl, λ fit. fit), λ fit. gone_on_self g a)

  pub succeeds_then : (a b c : Keeping S) → Succeeds g a b → Succeeds g b c → Succeeds g a c
  succeeds_then a b c one two = ((two.0.0 ∙ one.0.0, λ fit. one.0.1 (two.0.1 fit)), λ fit. gone_on_then a b c (one.1 (two.0.1 fit)) (two.1 fit))

  -- ---- a cause stays

  hindered_on : (a b c : Keeping S) → HasGoneOn g b c → IsHindering g (state_of g a.stored) (state_of g b.stored) → IsHindering g (state_of g a.stored) (state_of g c.stored)
  hindered_on a b c on (inl more) = inl (omega (arith, more, on.since.0))
  hindered_on a b c on (inr other) = inr other

  down_still : (a b c : Keeping S) → HasGoneOn g b c → IsDown g a.stored b.stored → IsDown g a.stored c.stored
  down_still a b c on (inl shut) = inl (shut_on (state_of g b.stored).is_open (state_of g c.stored).is_open on.up shut)
  down_still a b c on (inr hindered) = inr (hindered_on a b c on hindered)

  pub down_since : (a b c : Keeping S) → HasGoneOn g a b → IsDown g b.stored c.stored → IsDown g a.stored c.stored
  down_since a b c on (inl shut) = inl shut
  down_since a b c on (inr hindered) = inr (hindering_after g (state_of g a.stored) (state_of g b.stored) (state_of g c.stored) on.since hindered)

  pub refused_still : (a b c : Keeping S) (k : Book) (cs : List Command) → HasGoneOn g b c → WasRefused g a b k cs → WasRefused g a c k cs
  refused_still a b c k cs on (inl many) = inl (let x = on.counts in omega (arith, many, x))
  refused_still a b c k cs on (inr (inl cant)) = inr (inl cant)
  refused_still a b c k cs on (inr (inr down)) = inr (inr (down_still a b c on down))

  pub refused_since : (a b c : Keeping S) (k : Book) (cs : List Command) → HasGoneOn g a b → WasRefused g b c k cs → WasRefused g a c k cs
  refused_since a b c k cs on (inl many) = inl many
  refused_since a b c k cs on (inr (inl cant)) = inr (inl cant)
  refused_since a b c k cs on (inr (inr down)) = inr (inr (down_since a b c on down))

  pub gives_up_still : (a b c : Keeping S) (k : Book) (cs : List Command) (code : Code) → Succeeds g b c → GivesUp g a b k cs code → GivesUp g a c k cs code
  gives_up_still a b c k cs code on gives is fit = refused_still a b c k cs (on.1 fit) (gives is (on.0.1 fit))

  pub gives_up_since : (a b c : Keeping S) (k : Book) (cs : List Command) (code : Code) → Succeeds g a b → Succeeds g b c → GivesUp g b c k cs code → GivesUp g a c k cs code
  gives_up_since a b c k cs code on later gives is fit = refused_since a b c k cs (on.1 (later.0.1 fit)) (gives is fit)

  -- ---- causes beside failures

  -- what stands behind E80 is a failure that was counted in between, or something else
  pub failed_or_held : (mid new : Keeping S) → IsDown g mid.stored new.stored → IsHeldBack g mid new ⊎ MoreFaults
      (state_of g mid.stored).faults (state_of g new.stored).faults
  failed_or_held mid new (inl shut) = inl (inl shut)
  failed_or_held mid new (inr (inl more)) = inr more
  failed_or_held mid new (inr (inr other)) = inl (inr other)

  pub failed_or_other : (mid new : Keeping S) (b : Book) (cs : List Command) → WasRefused g mid new b cs → HasOtherCause g mid new b cs
      ⊎ MoreFaults (state_of g mid.stored).faults (state_of g new.stored).faults
  failed_or_other mid new b cs (inl many) = inl (inl many)
  failed_or_other mid new b cs (inr (inl cant)) = inl (inr (inl cant))
  failed_or_other mid new b cs (inr (inr down)) = elim (failed_or_held mid new down) [
    | inl held ↦ inl (inr (inr held))
    | inr more ↦ inr more
  ]

  pub held_since : (old mid new : Keeping S) → Since (state_of g old.stored) (state_of g mid.stored) → IsHeldBack g mid new
      → IsHeldBack g old new
  held_since old mid new since (inl shut) = inl shut
  held_since old mid new since (inr (inl limit)) = inr (inl (subst (λ (o : Option ℕ). IsSome o) since.1 limit))
  held_since old mid new since (inr (inr full)) = inr
      (inr (full.0, since_then (state_of g old.stored) (state_of g mid.stored) (state g full.0) since full.1, full.2, full.3))

  pub held_still : (old mid new : Keeping S) → ((state_of g mid.stored).is_open ≡ false → (state_of g new.stored).is_open ≡ false)
      → IsHeldBack g old mid → IsHeldBack g old new
  held_still old mid new shuts (inl shut) = inl (shuts shut)
  held_still old mid new shuts (inr other) = inr other

  -- another cause since the engine was an earlier one
  pub other_since : (old mid new : Keeping S) → Since (state_of g old.stored) (state_of g mid.stored) → (b : Book) (cs : List Command)
      → HasOtherCause g mid new b cs → HasOtherCause g old new b cs
  other_since old mid new since b cs (inl many) = inl many
  other_since old mid new since b cs (inr (inl cant)) = inr (inl cant)
  other_since old mid new since b cs (inr (inr held)) = inr (inr (held_since old mid new since held))

  -- and now that it is a later one
  pub other_still : (old mid new : Keeping S) → mid.kept ≤ new.kept → ((state_of g mid.stored).is_open ≡ false →
      (state_of g new.stored).is_open ≡ false) → (b : Book) (cs : List Command) → HasOtherCause g old mid b cs → HasOtherCause g old new b
      cs
  other_still old mid new counts shuts b cs (inl many) = inl (omega (arith, many, counts))
  other_still old mid new counts shuts b cs (inr (inl cant)) = inr (inl cant)
  other_still old mid new counts shuts b cs (inr (inr held)) = inr (inr (held_still old mid new shuts held))

  -- ---- the laws of what answers commands

  pub failures_still : (a b : Keeping S) → IsSure g b → Succeeds g a b → (state_of g a.stored).faults ≤ (state_of g b.stored).faults
  failures_still a b sure on = (on.1 sure.fit).since.0

  pub excused_or_failed : (a b : Keeping S) (k : Book) (cs : List Command) → IsSure g b → GivesUp g a b k cs codes.StoreRefused
      → HasOtherCause g a b k cs ⊎ IsMoreBy 1 (state_of g a.stored).faults (state_of g b.stored).faults
  excused_or_failed a b k cs sure gives = failed_or_other a b k cs (gives refl sure.fit)

  pub excuses_still : (a b c : Keeping S) (k : Book) (cs : List Command) → IsSure g c → Succeeds g b c → HasOtherCause g a b k cs
      → HasOtherCause g a c k cs
  excuses_still a b c k cs sure on has =
      let gone = on.1 sure.fit in
      other_still a b c gone.counts (shut_on (state_of g b.stored).is_open (state_of g c.stored).is_open gone.up) k cs has

  pub excuses_since : (a b c : Keeping S) (k : Book) (cs : List Command) → IsSure g c → Succeeds g a b → Succeeds g b c
      → HasOtherCause g b c k cs → HasOtherCause g a c k cs
  excuses_since a b c k cs sure on later has = other_since a b c (on.1 (later.0.1 sure.fit)).since k cs has
