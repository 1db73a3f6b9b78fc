-- What the thread that fires timers has told, one tick more.
use Rattle.std.proofs.Common.{◌≡◌, ℕ, Bool, true, false, List, [], ◌∷◌, ◌++◌, Result, inl, inr, refl, sym, ap, ◌∙◌, subst, append_assoc, append-nil}
use Rattle.std.specs.List.{AllByRecursion}
use Rattle.flow_base.specs.declared.command.Command.{Command}
use Rattle.flow_base.specs.declared.command.Reply.{Reply}
use Rattle.flow_hub.specs.declared.known.HubFacts.{HubFacts}
use Rattle.flow_hub.specs.Feeding.{IsTickOf}
use Rattle.flow_hub.specs.Knowing.{IsBefore}
use Rattle.flow_hub.specs.Submitting.{Member}
use Rattle.flow_hub.proofs.Growing.{before_self, before_trans}
use Rattle.flow_pool.specs.declared.report.Unheard.{Unheard}
use Rattle.flow_pool.specs.Reports.{Telling, came_of}
use Rattle.flow_work.specs.Firing.{IsFired, is_last, FiresOn, EndsFiring, FiresOne, FiresSoFar, Fires}
use Rattle.flow_work.specs.Hearing.{IsHeard}

all_next : {A : Type 0} (P : A → Type 0) (xs : List A) (x : A) → AllByRecursion P xs → P x → AllByRecursion P (xs ++ x ∷ [])
all_next P [] x all one = (one, tt)
all_next P (y ∷ ys) x all one = (all.0, all_next P ys x all.1 one)

module _ (tells : ℕ → Type 0) where
  -- a tick that was told, by what is seen at once behind its answer
  fired : (asked behind : Member) (c : Command) (heard : Result Reply (Command × Unheard)) → IsTickOf tells asked.was c → IsHeard asked behind c heard → IsFired tells behind.was (c, came_of heard)
  fired asked behind c heard tick comes = record {
    asked = asked;
    behind = behind;
    command = c;
    heard = heard;
    is = refl;
    tick = tick;
    comes = comes;
    before = before_self behind.was;
  }

  fired_later : (k l : HubFacts) (x : Telling) → IsBefore k l → IsFired tells k x → IsFired tells l x
  fired_later k l x later f = record {
    asked = f.asked;
    behind = f.behind;
    command = f.command;
    heard = f.heard;
    is = f.is;
    tick = f.tick;
    comes = f.comes;
    before = before_trans f.behind.was k l f.before later;
  }

  all_later : (k l : HubFacts) (xs : List Telling) → IsBefore k l → AllByRecursion (FiresOn tells k) xs → AllByRecursion (FiresOn tells l) xs
  all_later k l [] later all = tt
  all_later k l (x ∷ xs) later all = ((fired_later k l x later all.0.0, all.0.1), all_later k l xs later all.1)

  -- nothing was told, since the hub is closed
  pub fires_nothing : (k : HubFacts) (was now : List Telling) → now ≡ was → k.closed ≡ true → FiresOne tells k was now false
  fires_nothing k was now same closed = ([], same ∙ sym (append-nil was), inl (refl, closed))

  -- one tick was told, and more may be
  pub fires_one : (asked behind : Member) (c : Command) (heard : Result Reply (Command × Unheard)) (was now : List Telling) → IsTickOf tells asked.was c → IsHeard asked behind c heard
      → now ≡ was ++ (c, came_of heard) ∷ [] → is_last (came_of heard) ≡ false → FiresOne tells behind.was was now true
  fires_one asked behind c heard was now tick comes told on = ((c, came_of heard), told, (fired asked behind c heard tick comes, on))

  -- or none is any more
  pub fires_last : (asked behind : Member) (c : Command) (heard : Result Reply (Command × Unheard)) (was now : List Telling) → IsTickOf tells asked.was c → IsHeard asked behind c heard
      → now ≡ was ++ (c, came_of heard) ∷ [] → is_last (came_of heard) ≡ true → FiresOne tells behind.was was now false
  fires_last asked behind c heard was now tick comes told ends = ((c, came_of heard) ∷ [], told, inr ((c, came_of heard), refl, fired asked behind c heard tick comes, ends))

  pub fires_none : (k : HubFacts) (was : List Telling) → FiresSoFar tells k was was
  fires_none k was = ([], sym (append-nil was), tt)

  pub fires_more : (k l : HubFacts) (was mid now : List Telling) (on : Bool) → on ≡ true → IsBefore k l → FiresSoFar tells k was mid → FiresOne tells l mid now on → FiresSoFar tells l was now
  fires_more k l was mid now false is later so one = absurd (cc is)
  fires_more k l was mid now true is later so one =
      (so.0 ++ one.0 ∷ [], one.1 ∙ (ap (λ w. w ++ one.0 ∷ []) so.1 ∙ append_assoc was so.0 (one.0 ∷ [])), all_next (FiresOn tells l) so.0 one.0 (all_later k l so.0 later so.2) one.2)

  -- and nothing more
  pub fires_end : (k l : HubFacts) (was mid now : List Telling) (on : Bool) → on ≡ false → IsBefore k l → FiresSoFar tells k was mid → FiresOne tells l mid now on → Fires tells l was now
  fires_end k l was mid now true is later so one = absurd (cc is)
  fires_end k l was mid now false is later so one = (so.0, one.0, one.1 ∙ ap (λ w. w ++ one.0) so.1, all_later k l so.0 later so.2, one.2)
