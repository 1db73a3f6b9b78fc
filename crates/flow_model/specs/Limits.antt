-- How deep a text may go: at most 64 brackets `(` and `{` stand open at once, and one outermost expression has at most
-- 64 operators, `not`, `-`, `text` and `len` among them. Both are counted along the tokens: operators stand in
-- expressions alone, and each of `; , { }` ends an outermost expression.
use Rattle.std.specs.Prelude.{ℕ, ◌+◌, ◌-◌, ◌≤◌, List, [], ◌∷◌}
use Rattle.flow_base.specs.declared.token.Word.{Word}
use Rattle.flow_base.specs.declared.token.Word.TheVariants as word
use Rattle.flow_base.specs.declared.token.Mark.{Mark}
use Rattle.flow_base.specs.declared.token.Mark.TheVariants as mark
use Rattle.flow_model.specs.Lexeme.{Lexeme}

-- brackets that stand open behind a mark
abbrev pub brackets_behind : ℕ → Mark → ℕ
brackets_behind n mark.Open = n + 1
brackets_behind n mark.BraceOpen = n + 1
brackets_behind n mark.Close = n - 1
brackets_behind n mark.BraceClose = n - 1
brackets_behind n _ = n

-- operators of the outermost expression so far, behind a mark
abbrev pub operators_behind : ℕ → Mark → ℕ
operators_behind n mark.Semicolon = 0
operators_behind n mark.Comma = 0
operators_behind n mark.BraceOpen = 0
operators_behind n mark.BraceClose = 0
operators_behind n mark.Or = n + 1
operators_behind n mark.And = n + 1
operators_behind n mark.Not = n + 1
operators_behind n mark.Equal = n + 1
operators_behind n mark.Differ = n + 1
operators_behind n mark.Less = n + 1
operators_behind n mark.AtMost = n + 1
operators_behind n mark.Greater = n + 1
operators_behind n mark.AtLeast = n + 1
operators_behind n mark.Plus = n + 1
operators_behind n mark.Minus = n + 1
operators_behind n mark.Join = n + 1
operators_behind n mark.Times = n + 1
operators_behind n mark.Over = n + 1
operators_behind n mark.Percent = n + 1
operators_behind n mark.Text = n + 1
operators_behind n mark.Len = n + 1
operators_behind n _ = n

abbrev pub brackets_after : ℕ → Word → ℕ
brackets_after n (word.Mark m) = brackets_behind n m
brackets_after n _ = n

abbrev pub operators_after : ℕ → Word → ℕ
operators_after n (word.Mark m) = operators_behind n m
operators_after n _ = n

-- from so many open brackets and operators on, no token passes a limit
abbrev pub WithinFrom : ℕ → ℕ → List Lexeme → Type 0
WithinFrom b o [] = Unit {0}
WithinFrom b o (t ∷ ts) = (brackets_after b t.word ≤ 64) × (operators_after o t.word ≤ 64) × WithinFrom (brackets_after b t.word) (operators_after o t.word) ts

abbrev pub Within : List Lexeme → Type 0
Within ts = WithinFrom 0 0 ts
