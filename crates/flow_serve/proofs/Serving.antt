-- What becomes of submissions, from batch to batch.
use Rattle.std.proofs.Common.{◌≡◌, inl, inr, ◌≤◌, true, List, [], ◌∷◌, ◌++◌, length, map, refl, sym, ap, ◌∙◌, subst, append_assoc}
use Rattle.std.specs.Prelude.{All}
use Rattle.std.proofs.lemmas.List.{append-nil, map-append}
use Rattle.std.proofs.lemmas.List.Elements.{All-nil, All-cons, All-append}
use Rattle.sqlite_trees.specs.declared.store.Store.{Ghosts}
use Rattle.sqlite.specs.Held.{Held, state}
use Rattle.flow_base.specs.declared.code.Code.TheVariants as code
use Rattle.flow_base.specs.declared.fault.Fault.{Fault}
use Rattle.flow_base.specs.declared.submission.Taken.{Taken}
use Rattle.flow_view.specs.Codes.{view_fault_code}
use Rattle.flow_view.specs.declared.fault.ViewFault.{ViewFault}
use Rattle.flow_view.specs.declared.fault.ViewFault.TheVariants as view_fault
use Rattle.flow_model.specs.Book.{Book}
use Rattle.flow_commit.specs.Accounts.{Accounted, Based, HandedIn, handed_in}
use Rattle.flow_commit.specs.Keeping.{Keeping, account_of}
use Rattle.flow_hub.specs.declared.known.HubFacts.{HubFacts}
use Rattle.flow_queues.specs.declared.refused.Refused.{Refused}
use Rattle.flow_queues.specs.Refusing.{refused_by}
use Rattle.flow_hub.specs.Knowing.{IsOver}
use Rattle.flow_hub.specs.Publishing.{Together}
use Rattle.flow_serve.specs.Serving.{IsGivenUp, GivesUp, TurnsAway, StopsAt, StopsFor}

---- What was answered by a code

pub gives_none : (old new : List Refused) → new ≡ old → GivesUp old new
gives_none old new e = record { more = []; are = e ∙ sym (append-nil old); codes = All-nil IsGivenUp }

given_up : (f : ViewFault) (t : Taken) → IsGivenUp (refused_by (view_fault_code f) t)
given_up (view_fault.NoMemory _) t = inr refl
given_up view_fault.StoreRefused t = inl refl

all_given_up : (f : ViewFault) (ts : List Taken) → All IsGivenUp (map (refused_by (view_fault_code f)) ts)
all_given_up f [] = All-nil IsGivenUp
all_given_up f (t ∷ ts) = All-cons IsGivenUp (refused_by (view_fault_code f) t) (map (refused_by (view_fault_code f)) ts) (given_up f t) (all_given_up f ts)

pub gives_these : (old new : List Refused) (f : ViewFault) (ts : List Taken) → new ≡ old ++ map (refused_by (view_fault_code f)) ts → GivesUp old new
gives_these old new f ts e = record { more = map (refused_by (view_fault_code f)) ts; are = e; codes = all_given_up f ts }

pub gives_then : (a b c : List Refused) → GivesUp a b → GivesUp b c → GivesUp a c
gives_then a b c p q = record {
  more = p.more ++ q.more;
  are = q.are ∙ (ap (λ l. l ++ q.more) p.are ∙ append_assoc a p.more q.more);
  codes = All-append IsGivenUp p.more q.more p.codes q.codes;
}

abbrev halted_all : List Taken → List Refused
halted_all ts = map (refused_by code.Halted) ts

pub turns_none : (old new : List Refused) → new ≡ old → TurnsAway old new []
turns_none old new e = e ∙ sym (append-nil old)

pub turns_then : (a b c : List Refused) (xs ys : List Taken) → TurnsAway a b xs → TurnsAway b c ys → TurnsAway a c (xs ++ ys)
turns_then a b c xs ys p q = q ∙ (ap (λ l. l ++ halted_all ys) p ∙ (append_assoc a (halted_all xs) (halted_all ys) ∙ ap (λ l. a ++ l) (sym (map-append (refused_by code.Halted) xs ys))))

---- The engine and the hub

abbrev based : Book → HandedIn → Based
based b h = record { found = b; opened = h }

-- an engine that does nothing stands together with the publisher, whatever this one has turned away
pub together_still : (k : Accounted) (was now : HubFacts) → Together k was → now.history ≡ was.history → now.last ≡ was.last → now.held ≡ [] → Together k now
together_still k was now t history last none = record {
  log = t.log ∙ sym history;
  over = subst (λ ks. IsOver ks (k ∷ [])) (sym last) t.over;
  none = none;
}

module _ {S : Type 0} where
  -- a batch that stops the engine, behind those that didn't
  pub stops_behind : (old mid new : Keeping S) (was then now : List Refused) (hand : List Taken) (f : Fault)
      → mid.halted ≡ old.halted → (mid.halted ≡ true → (mid ≡ old) × (then ≡ was)) → GivesUp was then → (1 ≤ length hand) × (length hand ≤ 64)
      → StopsAt mid new then now hand f → (waiting : List Taken) × StopsFor old new was now waiting f
  stops_behind old mid new was then now hand f on still gives some (inl h) = (
    [],
    inl (
      h.0,
      record {
        went_on = sym on ∙ h.1;
        halted = h.2;
        more = gives.more;
        codes = gives.codes;
        hand = hand;
        some = some;
        are = h.3 ∙ (ap (λ l. l ++ map (refused_by code.Unknown) hand) gives.are ∙ sym (append-nil (was ++ gives.more ++ map (refused_by code.Unknown) hand)));
      },
    ),
  )
  stops_behind old mid new was then now hand f on still gives some (inr h) =
      let back = still h.1.halted in (
        hand,
        inr (
          h.0,
          record {
            halted = sym on ∙ h.1.halted;
            same = h.1.same ∙ back.0;
            are = h.1.are ∙ ap (λ l. l ++ halted_all hand) back.1;
          },
        ),
      )

  -- and those that are turned away behind it
  pub turned_behind : (old new : Keeping S) (was now last : List Refused) (waiting ws : List Taken) (f : Fault)
      → StopsFor old new was now waiting f → TurnsAway now last ws → StopsFor old new was last (waiting ++ ws) f
  turned_behind old new was now last waiting ws f (inl h) turns =
      let s = h.1 in
      let front = was ++ s.more ++ map (refused_by code.Unknown) s.hand in
      inl (
        h.0,
        record {
          went_on = s.went_on;
          halted = s.halted;
          more = s.more;
          codes = s.codes;
          hand = s.hand;
          some = s.some;
          are = turns_then front now last waiting ws s.are turns;
        },
      )
  turned_behind old new was now last waiting ws f (inr h) turns =
      inr (h.0, record { halted = h.1.halted; same = h.1.same; are = turns_then was now last waiting ws h.1.are turns })

  -- an engine over one book and one connection has one base
  pub same_base : (g : Ghosts S) (old new : Keeping S) → new.found ≡ old.found → new.stored.opened ≡ old.stored.opened → (account_of g new).base ≡ (account_of g old).base
  same_base g old new found opened =
      ap (λ (b : Book). based b (handed_in (state g new.stored.opened))) found ∙ ap (λ (h : Held S). based old.found (handed_in (state g h))) opened
