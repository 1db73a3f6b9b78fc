-- Commands keep a book orderly.
use Rattle.std.proofs.Common.{◌≡◌, ◌≢◌, ℕ, zero, suc, ◌+◌, ◌-◌, List, [], ◌∷◌, ◌++◌, length, refl, sym, ap, ◌∙◌, subst, Option, Some, None, Bool, false, ⊎_elim}
use Rattle.std.specs.Prelude.{slice_get, slice_set, bytes_eq}
use Rattle.std.proofs.lemmas.Option.{none-some, same_Some}
use Rattle.std.proofs.lemmas.Bool.{true≢false}
use Rattle.std.proofs.lemmas.List.Elements.{All-push}
use Rattle.std.specs.Cmp.Lexicographic.{bytes_decides}
use Rattle.flow_base.specs.Syntax.{Bytes}
use Rattle.flow_base.specs.declared.book.Run.{Run}
use Rattle.flow_base.specs.declared.book.Turn.{Turn}
use Rattle.flow_base.specs.declared.command.Command.{Command}
use Rattle.flow_model.specs.Book.{Book, nth, first_from, is_from, requested, unbegun_run, with_turn, with_attempt, with_text, with_run}
use Rattle.flow_model.specs.Apply.{Rules, after_one, after}
use Rattle.flow_model.specs.Sound.{IsProgram, IsOrderly}
use Rattle.flow_machine.specs.Soundness.{NoBookIsOrderly, OrderlyAfter}
use Rattle.flow_machine.proofs.Places.{get_set, get_push, nth_place}
use Rattle.flow_machine.proofs.Changes.{not_first, put_run}
use Rattle.flow_machine.proofs.Holding.{IsKept, one_keeps, all_keep}
use Rattle.flow_machine.proofs.Reading.{no_text_unread}

---- A new run

abbrev asked_by : Bytes → Option Bytes → Bool
asked_by q o = elim o [ None ↦ false | Some x ↦ bytes_eq x q ]

none_from : (q : Bytes) (n : ℕ) (rs : List Run) → first_from (is_from q) n rs ≡ None → (j : ℕ) (r : Run) → slice_get rs j ≡ Some r → r.request ≢ Some q
none_from q n [] e j r g = λ same. none-some r g
none_from q n (x ∷ rs) e zero r g = λ same.
    let its : x.request ≡ Some q = ap (λ (z : Run). z.request) (same_Some x r g) ∙ same in
    let not : is_from q x ≡ false = (not_first (is_from q x) n (first_from (is_from q) (n + 1) rs) e).0 in
    true≢false (sym ((bytes_decides q q).1 refl) ∙ sym (ap (asked_by q) its) ∙ not)
none_from q n (x ∷ rs) e (suc j) r g = none_from q (n + 1) rs (not_first (is_from q x) n (first_from (is_from q) (n + 1) rs) e).1 j r g

-- no run of the book has the request of this one
abbrev IsNew : Book → Run → Type 0
IsNew b z = (j : ℕ) (r : Run) (q : Bytes) → slice_get b.runs j ≡ Some r → r.request ≡ Some q → z.request ≢ Some q

orderly_run : (u : Rules) (b : Book) (z : Run) → IsOrderly u b → IsNew b z → IsOrderly u (record b { runs = b.runs ++ z ∷ [] })
orderly_run u b z h new =
    record {
      texts = h.texts;
      requests = λ i j x y q gi gj ri rj.
          ⊎_elim (λ (a : slice_get b.runs i ≡ Some x).
          ⊎_elim (λ (c : slice_get b.runs j ≡ Some y). h.requests i j x y q a c ri rj)
          (λ (c : (j ≡ length b.runs) × (y ≡ z)). absurd (new i x q a ri (ap (λ (r : Run). r.request) (sym c.1) ∙ rj))) (get_push b.runs z j y gj))
          (λ (a : (i ≡ length b.runs) × (x ≡ z)).
          ⊎_elim (λ (c : slice_get b.runs j ≡ Some y). absurd (new j y q c rj (ap (λ (r : Run). r.request) (sym a.1) ∙ ri)))
          (λ (c : (j ≡ length b.runs) × (y ≡ z)). a.0 ∙ sym c.0) (get_push b.runs z j y gj)) (get_push b.runs z i x gi);
    }

requested_run : (u : Rules) (b : Book) (request flow : Bytes) (n : ℕ) (t : Turn) → IsOrderly u b → requested b request ≡ None
    → IsOrderly u (record b { runs = b.runs ++ with_turn t (unbegun_run flow (Some request) n) ∷ [] })
requested_run u b request flow n t h none =
    orderly_run u b (with_turn t (unbegun_run flow (Some request) n)) h
    (λ j r q there asked same. none_from request 1 b.runs none j r there (asked ∙ sym same))

next_run : (u : Rules) (b : Book) (flow : Bytes) (n : ℕ) (t : Turn) → IsOrderly u b → IsOrderly u (record b { runs = b.runs ++ with_turn t (unbegun_run flow None n) ∷ [] })
next_run u b flow n t h = orderly_run u b (with_turn t (unbegun_run flow None n)) h (λ j r q there asked same. none-some q same)

---- A run in the place of another of the same request

-- the run that stood in its place before: of the same request
record Was (b : Book) (j : ℕ) (z : Run) : Type 0 where
  run : Run
  there : slice_get b.runs j ≡ Some run
  request : run.request ≡ z.request

module _ (u : Rules) (b : Book) (n : ℕ) (f : Run → Run) (request : (r : Run) → (f r).request ≡ r.request) where
  was : (r : Run) → nth b.runs n ≡ Some r → (j : ℕ) (z : Run) → slice_get (put_run b n (f r)).runs j ≡ Some z → Was b j z
  was r e j z g =
      ⊎_elim (λ (a : slice_get b.runs j ≡ Some z). record { run = z; there = a; request = refl })
      (λ (a : (slice_get b.runs j ≡ Some r) × (z ≡ f r)). record { run = r; there = a.0; request = sym (request r) ∙ ap (λ (x : Run). x.request) (sym a.1) })
      (get_set b.runs (n - 1) j r (f r) z (nth_place b.runs n r e) g)

  put_orderly : (r : Run) → IsOrderly u b → nth b.runs n ≡ Some r → IsOrderly u (put_run b n (f r))
  put_orderly r h e =
      record {
        texts = h.texts;
        requests = λ i j x y q gi gj ri rj.
            let wi = was r e i x gi in
            let wj = was r e j y gj in
            h.requests i j wi.run wj.run q wi.there wj.there (wi.request ∙ ri) (wj.request ∙ rj);
      }

  orderly_put : IsOrderly u b → IsOrderly u (with_run b n f)
  orderly_put h =
      elim (nth b.runs n) as (λ o. nth b.runs n ≡ o → IsOrderly u (elim o [ None ↦ b | Some r ↦ record b { runs = slice_set b.runs (n - 1) (f r) } ])) [
        | None ↦ λ e. h
        | Some r ↦ λ e. put_orderly r h e
      ] refl

---- Commands

orderly_kept : (u : Rules) → IsKept u (IsOrderly u)
orderly_kept u =
    record {
      text = λ b body h program. record { texts = All-push (IsProgram u) b.texts body h.texts program; requests = h.requests };
      run = requested_run u;
      next = next_run u;
      turn = λ b n t h. orderly_put u b n (with_turn t) (λ r. refl) h;
      attempt = λ b n event attempt ready h. orderly_put u b n (with_attempt event attempt ready) (λ r. refl) h;
      other = λ b n text h. orderly_put u b n (with_text text) (λ r. refl) h;
    }

pub orderly_after_one : (u : Rules) (b : Book) (c : Command) → IsOrderly u b → IsOrderly u (after_one u b c)
orderly_after_one u b c h = one_keeps u (IsOrderly u) (orderly_kept u) b c h

pub orderly_after : OrderlyAfter
orderly_after u b cs h = all_keep u (IsOrderly u) (orderly_kept u) b cs h

-- what is equal to the book after commands is orderly too
pub orderly_book : (u : Rules) (b b2 : Book) (cs : List Command) → b2 ≡ after u b cs → IsOrderly u b → IsOrderly u b2
orderly_book u b b2 cs e h = subst (IsOrderly u) (sym e) (orderly_after u b cs h)

pub nothing_orderly : NoBookIsOrderly
nothing_orderly u = record { texts = no_text_unread u; requests = λ i j r s q gi gj ri rj. absurd (none-some r gi) }
