-- A keeper and a publisher that stand together go on so, whatever becomes of a batch.
use Rattle.std.proofs.Common.{◌≡◌, List, [], ◌∷◌, ◌++◌, length, map, refl, sym, ap, ◌∙◌, subst}
use Rattle.std.specs.BTreeSet.{BTreeSet}
use Rattle.flow_base.specs.declared.code.Code.{Code}
use Rattle.flow_base.specs.declared.submission.Receipt.{Receipt}
use Rattle.flow_base.specs.declared.submission.Taken.{Taken}
use Rattle.flow_commit.specs.Accounts.{Accounted}
use Rattle.flow_commit.specs.Committing.{taken_of}
use Rattle.flow_commit.specs.Stamps.{Stamped, IsStampOf}
use Rattle.flow_base.specs.Keys.{Key}
use Rattle.flow_commit.specs.Boards.{Boarded}
use Rattle.flow_hub.specs.declared.known.HubFacts.{HubFacts}
use Rattle.flow_hub.specs.Knowing.{IsOver, IsSamePart}
use Rattle.flow_queues.specs.Posting.{HasOthers, HasStill}
use Rattle.flow_queues.proofs.Still.{others_still}
use Rattle.flow_hub.specs.Publishing.{Together, InHand, HasTaken, Answers, HasPublished, HasRefused, IsFresh, IsSameHistory}

-- what is told later of one keeper is over what the earlier one was over
over_by : (ks : List Accounted) (old new : Accounted) → new.base ≡ old.base → IsOver ks (old ∷ []) → IsOver ks (new ∷ [])
over_by [] old new e o = tt
over_by (k ∷ ks) old new e o = e ∙ o

pub takes_in_hand : (keeper : Accounted) (old new : HubFacts) (xs : List Taken) → Together keeper old → HasTaken old new xs → InHand keeper new xs
takes_in_hand keeper old new xs t h = record {
  log = t.log ∙ sym h.history;
  over = subst (λ ks. IsOver ks (keeper ∷ [])) (sym h.last) t.over;
  taken = h.held ∙ ap (λ l. l ++ xs) t.none;
}

-- where nothing was taken they still stand together
pub still_together : (keeper : Accounted) (old new : HubFacts) (xs : List Taken) → xs ≡ [] → Together keeper old → HasTaken old new xs → Together keeper new
still_together keeper old new xs none t h =
    let i = takes_in_hand keeper old new xs t h in
    record { log = i.log; over = i.over; none = i.taken ∙ none }

pub receipts_answer : (old new : Accounted) (k : HubFacts) (stamp : Stamped) (xs : List Taken) (rs : List Receipt) → InHand old k xs → new.base ≡ old.base
    → map taken_of rs ≡ xs → new.log ≡ old.log ++ rs → IsStampOf new rs stamp → Answers k stamp rs
receipts_answer old new k stamp xs rs h base asked log is = record {
  asked = asked ∙ sym h.taken;
  own = ap (λ (s : Stamped). s.own) is;
  log = ap (λ (s : Stamped). s.account.log) is ∙ (log ∙ ap (λ l. l ++ rs) h.log);
  over = subst (λ (s : Stamped). IsOver k.last (s.account ∷ [])) (sym is) (over_by k.last old new base h.over);
}

pub published_together : (new : Accounted) (was k : HubFacts) (stamp : Stamped) (rs : List Receipt) → IsStampOf new rs stamp → HasPublished was k stamp rs → Together new k
published_together new was k stamp rs is h =
    let keeper : stamp.account ≡ new = ap (λ (s : Stamped). s.account) is in
    record {
      log = sym (h.log ∙ ap (λ (n : Accounted). n.log) keeper);
      over = subst (λ ks. IsOver ks (new ∷ [])) (sym (h.last ∙ ap (λ n. n ∷ []) keeper)) refl;
      none = h.held;
    }

pub refused_together : (old new : Accounted) (was k : HubFacts) (xs : List Taken) (code : Code) → InHand old was xs → new.log ≡ old.log → new.base ≡ old.base
    → HasRefused was k xs code → Together new k
refused_together old new was k xs code h log base r = record {
  log = log ∙ (h.log ∙ sym r.history);
  over = subst (λ ks. IsOver ks (new ∷ [])) (sym r.last) (over_by was.last old new base h.over);
  none = r.held;
}

---- Boards

-- a board that was made of what is kept and of what was posted
pub is_fresh : (keeper : Accounted) (k : HubFacts) (board : Boarded) (keys : BTreeSet Key) → Together keeper k → HasStill k.gone keys k.posted
    → board.kept ≡ length keeper.log → board.posted ≡ keys.keys → IsFresh k board
is_fresh keeper k board keys t h kept posted = record {
  kept = kept ∙ ap length t.log;
  posted = subst (λ (ks : List Key). HasOthers k.gone (record { keys = ks }) k.posted) (sym posted) (others_still k.gone keys k.posted h);
}

-- and behind it they stand together as before
pub boarded_together : (old new : Accounted) (was k : HubFacts) → Together old was → new.log ≡ old.log → new.base ≡ old.base → IsSameHistory was k → Together new k
boarded_together old new was k t log base same = record {
  log = log ∙ (t.log ∙ sym same.history);
  over = subst (λ ks. IsOver ks (new ∷ [])) (sym same.last) (over_by was.last old new base t.over);
  none = same.held ∙ t.none;
}

pub same_history : (was k : HubFacts) → IsSamePart was k → IsSameHistory was k
same_history was k same = record { history = sym same.history; refused = sym same.refused; last = sym same.last; held = sym same.held; takes = sym same.takes; ended = sym same.ended; gone = sym same.gone }
