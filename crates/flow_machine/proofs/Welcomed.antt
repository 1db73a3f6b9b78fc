-- What the changes of commands have, whatever the book.
use Rattle.std.proofs.Common.{◌≡◌, ℕ, List, [], ◌∷◌, ◌++◌, refl, ap, ◌∙◌, Some, None, Result}
use Rattle.std.specs.Prelude.{◌-◌, slice_set}
use Rattle.std.proofs.lemmas.Option.{none-some}
use Rattle.flow_base.specs.Syntax.{Bytes, Program}
use Rattle.flow_base.specs.declared.book.Change.{Change}
use Rattle.flow_base.specs.declared.book.Turn.{Turn}
use Rattle.flow_base.specs.declared.book.Change.TheVariants.{AddTurn}
use Rattle.flow_base.specs.declared.command.TextFault.{TextFault}
use Rattle.flow_model.specs.Book.{Book, nth, with_turn, changed, changed_by}
use Rattle.flow_model.specs.Apply.{Rules, program_if, program_at, tick}
use Rattle.flow_machine.specs.Welcome.{AreWelcome, ChangesWelcome}
use Rattle.flow_machine.proofs.MadeChanges.{CoversTurns, Covers, now_of, fired_has, changes_have}
use Rattle.flow_machine.proofs.Ticks.{tick_has}

-- a turn brings no text
texts_still : (b : Book) (n : ℕ) (t : Turn) → (changed b (AddTurn n t)).texts ≡ b.texts
texts_still b n t =
    elim (nth b.runs n) as (λ o. (elim o as (λ _. Book) [ None ↦ b | Some r ↦ record b { runs = slice_set b.runs (n - 1) (with_turn t r) } ]).texts ≡ b.texts) [
      | None ↦ refl
      | Some r ↦ refl
    ]

-- a text that reads as a program is there
text_is_there : (f : Bytes → Result Program TextFault) (b : Book) (n : ℕ) (p : Program) → program_at f b n ≡ Some p → (body : Bytes) × (nth b.texts n ≡ Some body)
text_is_there f b n p h =
    elim (nth b.texts n) as (λ o. nth b.texts n ≡ o → elim o [ None ↦ None | Some body ↦ program_if (f body) ] ≡ Some p → (body : Bytes) × (nth b.texts n ≡ Some body)) [
      | None ↦ λ e v. absurd (none-some p v)
      | Some body ↦ λ e v. (body, e)
    ] refl h

turns_covered : (u : Rules) (b : Book) → CoversTurns u b (AreWelcome u b)
turns_covered u b =
    record {
      nothing = tt;
      turn = λ n r p k at i t taken. ((r, taken.there), tt);
      next = λ n r p k at i t taken vs first ends made.
          let text = text_is_there u.program_of b r.text p taken.reads in
          let still = texts_still b n (record { at = now_of r at; input = i; commands = t.0 }) in
          ((r, taken.there), ((text.0, ap (λ (xs : List Bytes). nth xs r.text) still ∙ text.1), tt));
      full = λ n r p k at i t taken. ((r, taken.there), tt);
    }

covered : (u : Rules) (b : Book) → Covers u b (AreWelcome u b)
covered u b =
    record {
      text = λ body p reads new. ((new, (p, reads)), tt);
      run = λ request flow text body vs at p t new none there reads made. ((body, there), tt);
      closed = λ n r reason at there opened. ((r, there), tt);
      attempt = λ n r event attempt ready x there tries less. ((r, there), tt);
      other = λ n text r body p k there its reads stands. (((r, there), (body, its)), tt);
    }

joined_welcome : (u : Rules) (b : Book) (cs ds : List Change) → AreWelcome u b cs → AreWelcome u (changed_by b cs) ds → AreWelcome u b (cs ++ ds)
joined_welcome u b [] ds h more = more
joined_welcome u b (c ∷ cs) ds h more = (h.0, joined_welcome u (changed b c) cs ds h.1 more)

-- timers that are due fire
tick_takes : (u : Rules) (b : Book) (at : ℕ) → AreWelcome u b (tick u b at).changes
tick_takes u b at = tick_has u at (λ k. Unit {0}) (λ k d h. tt) (AreWelcome u) (λ k. tt) (λ k d h. fired_has u k (AreWelcome u k) (turns_covered u k) at d) (joined_welcome u) b tt

pub changes_welcome : ChangesWelcome
changes_welcome u b c = changes_have u b (AreWelcome u b) (turns_covered u b) (covered u b) (tick_takes u b) c
