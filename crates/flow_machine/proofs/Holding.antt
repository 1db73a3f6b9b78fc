-- What each change of a command keeps, commands keep: a text that is a program, a run of a new request, a run that another one
-- continues as, a turn, another attempt, and another text of a run.
use Rattle.std.proofs.Common.{◌≡◌, ℕ, ◌+◌, List, [], ◌∷◌, Some, None}
use Rattle.flow_base.specs.Syntax.{Bytes}
use Rattle.flow_base.specs.declared.event.Input.TheVariants.{Terminated}
use Rattle.flow_base.specs.declared.book.Due.{Due}
use Rattle.flow_base.specs.declared.book.Turn.{Turn}
use Rattle.flow_base.specs.declared.book.Change.TheVariants.{AddText, AddTurn, AddRun, SetAttempt, SetText}
use Rattle.flow_base.specs.declared.command.Command.{Command}
use Rattle.flow_model.specs.Book.{Book, requested, changed, changed_by}
use Rattle.flow_model.specs.Apply.{Rules, history_limit, after_one, after}
use Rattle.flow_model.specs.Sound.{IsProgram}
use Rattle.flow_machine.proofs.MadeChanges.{CoversTurns, Covers, now_of, fired_has, changes_have}
use Rattle.flow_machine.proofs.Ticks.{fired_book, tick_keeps}

-- A property of books that the changes keep which commands make.
pub record IsKept (u : Rules) (P : Book → Type 0) : Type 0 where
  pub text : (b : Book) (body : Bytes) → P b → IsProgram u body → P (changed b (AddText body))
  pub run : (b : Book) (request flow : Bytes) (n : ℕ) (t : Turn) → P b → requested b request ≡ None → P (changed b (AddRun flow (Some request) n t))
  pub next : (b : Book) (flow : Bytes) (n : ℕ) (t : Turn) → P b → P (changed b (AddRun flow None n t))
  pub turn : (b : Book) (n : ℕ) (t : Turn) → P b → P (changed b (AddTurn n t))
  pub attempt : (b : Book) (n event attempt ready : ℕ) → P b → P (changed b (SetAttempt n event attempt ready))
  pub other : (b : Book) (n text : ℕ) → P b → P (changed b (SetText n text))

module _ (u : Rules) (P : Book → Type 0) (k : IsKept u P) where
  turns_covered : (b : Book) → P b → CoversTurns u b (λ cs. P (changed_by b cs))
  turns_covered b h =
      record {
        nothing = h;
        turn = λ n r p q at i t taken. k.turn b n (record { at = now_of r at; input = i; commands = t.0 }) h;
        next = λ n r p q at i t taken vs first ends made.
            let made : Turn = record { at = now_of r at; input = i; commands = t.0 } in
            k.next (changed b (AddTurn n made)) r.flow r.text first (k.turn b n made h);
        full = λ n r p q at i t taken. k.turn b n (record { at = now_of r at; input = Terminated history_limit; commands = [] }) h;
      }

  covered : (b : Book) → P b → Covers u b (λ cs. P (changed_by b cs))
  covered b h =
      record {
        text = λ body p reads new. k.text b body h (p, reads);
        run = λ request flow text body vs at p t new none there reads made. k.run b request flow text t h new;
        closed = λ n r reason at there opened. k.turn b n (record { at = now_of r at; input = Terminated reason; commands = [] }) h;
        attempt = λ n r event attempt ready x there tries less. k.attempt b n event (attempt + 1) ready h;
        other = λ n text r body p q there its reads stands. k.other b n text h;
      }

  fired_keeps : (at : ℕ) (b : Book) (d : Due) → P b → P (fired_book u at b d)
  fired_keeps at b d h = fired_has u b (λ cs. P (changed_by b cs)) (turns_covered b h) at d

  -- one command
  pub one_keeps : (b : Book) (c : Command) → P b → P (after_one u b c)
  one_keeps b c h = changes_have u b (λ cs. P (changed_by b cs)) (turns_covered b h) (covered b h) (λ at. tick_keeps u at P (fired_keeps at) b h) c

  -- and several
  pub all_keep : (b : Book) (cs : List Command) → P b → P (after u b cs)
  all_keep b [] h = h
  all_keep b (c ∷ cs) h = all_keep (after_one u b c) cs (one_keeps b c h)
