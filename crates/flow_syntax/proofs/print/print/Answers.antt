use Rattle.std.proofs.Common.{ℕ, List, ◌++◌, ap, sym, subst, string_bytes, ◌∙◌}
use Rattle.flow_model.specs.Lexeme.{lexemes}
use Rattle.flow_base.specs.Shown.{shown_program}
use Rattle.flow_syntax.specs.Print.{spaced, words_behind_keyword, program_words, HasTokens}
use Rattle.flow_syntax.proofs.PrintedPrograms.{program_read}
use Rattle.flow_syntax.proofs.PrintedTokens.{program_scanned}
use Rattle.flow_syntax.proofs.PrintedAgain.{program_printable, program_again, program_least}
use Rattle.flow_syntax.proofs.print.print.Goals as goal

pub returns-clause-words : goal.returns-clause-words
returns-clause-words c =
    c.finish.ensures
    ∙ c.in_ok-behind_keyword.ensures
    ∙ ap (λ (t : List ℕ). t ++ spaced (words_behind_keyword (shown_program c.args.program.now))) c.in_ok-out.ensures

pub returns-clause-tokens : goal.returns-clause-tokens
returns-clause-tokens c = λ h.
    subst (λ (t : List ℕ). HasTokens t (program_words (shown_program c.args.program.now))) (sym (returns-clause-words c)) (program_scanned (shown_program c.args.program.now) h)

pub returns-clause-read : goal.returns-clause-read
returns-clause-read c = program_read (shown_program c.args.program.now) (rw c.deref.ensures at (rw c.as_slice.ensures.value at c.statements.ensures))

pub returns-clause-again : goal.returns-clause-again
returns-clause-again c = λ h.
    let found : HasTokens (string_bytes c.finish.result) (program_words (shown_program c.args.program.now)) = returns-clause-tokens c h in
    let read = returns-clause-read c (lexemes found.0) found.2 in
    (found.0, found.1, read.0, read.1, read.2)

pub returns-clause-printable : goal.returns-clause-printable
returns-clause-printable c = λ source h. program_printable source (shown_program c.args.program.now) h

pub returns-clause-parsed : goal.returns-clause-parsed
returns-clause-parsed c = λ source h short.
    program_again (shown_program c.args.program.now) (rw c.deref.ensures at (rw c.as_slice.ensures.value at c.statements.ensures)) source (string_bytes c.finish.result) (returns-clause-words c) h short

pub returns-clause-least : goal.returns-clause-least
returns-clause-least c = program_least (shown_program c.args.program.now)
