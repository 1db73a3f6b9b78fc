-- Each text of a book is a program, and commands keep it so.
use Rattle.std.proofs.Common.{ℕ, ◌-◌, Some, None}
use Rattle.std.specs.Prelude.{slice_set}
use Rattle.std.proofs.lemmas.List.Elements.{All-nil, All-push}
use Rattle.flow_base.specs.declared.book.Run.{Run}
use Rattle.flow_model.specs.Book.{Book, nth, with_turn, with_attempt, with_text, with_run}
use Rattle.flow_model.specs.Apply.{Rules}
use Rattle.flow_model.specs.Sound.{IsProgram}
use Rattle.flow_machine.specs.Soundness.{TextsRead, NoTextUnread, TextsReadAfter}
use Rattle.flow_machine.proofs.Holding.{IsKept, all_keep}

-- runs are no texts
run_reads : (u : Rules) (b : Book) (n : ℕ) (f : Run → Run) → TextsRead u b → TextsRead u (with_run b n f)
run_reads u b n f h =
    elim (nth b.runs n) as (λ o. TextsRead u (elim o [ None ↦ b | Some r ↦ record b { runs = slice_set b.runs (n - 1) (f r) } ])) [
      | None ↦ h
      | Some r ↦ h
    ]

texts_kept : (u : Rules) → IsKept u (TextsRead u)
texts_kept u =
    record {
      text = λ b body h program. All-push (IsProgram u) b.texts body h program;
      run = λ b request flow n t h new. h;
      next = λ b flow n t h. h;
      turn = λ b n t h. run_reads u b n (with_turn t) h;
      attempt = λ b n event attempt ready h. run_reads u b n (with_attempt event attempt ready) h;
      other = λ b n text h. run_reads u b n (with_text text) h;
    }

pub after_reads : TextsReadAfter
after_reads u b cs h = all_keep u (TextsRead u) (texts_kept u) b cs h

pub no_text_unread : NoTextUnread
no_text_unread u = All-nil (IsProgram u)
