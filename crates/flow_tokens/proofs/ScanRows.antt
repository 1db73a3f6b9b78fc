-- The tokens of some texts, by computation.
use Rattle.std.proofs.Common.{◌≡◌, ℕ, [], ◌∷◌, Some, None, pos, refl}
use Rattle.std.specs.Prelude.{codes}
use Rattle.flow_base.specs.declared.token.Mark.{Mark}
use Rattle.flow_base.specs.declared.token.Mark.TheVariants as mark
use Rattle.flow_base.specs.declared.token.Token.{Token}
use Rattle.flow_base.specs.declared.token.Word.{Word}
use Rattle.flow_base.specs.declared.token.Word.TheVariants.{Name, Int, Text}
use Rattle.flow_base.specs.declared.token.Word.TheVariants as word
use Rattle.flow_model.specs.Tokens.{keyword_of}
use Rattle.flow_tokens.specs.Scan.{scan}

abbrev token : Word → ℕ → ℕ → Token
token w from to = record { word = w; from = from; to = to }

abbrev marked : Mark → ℕ → ℕ → Token
marked m from to = token (word.Mark m) from to

kinds_and_places : scan (codes "let a_1 = 42;") ≡ (marked mark.Let 0 3 ∷ token (Name (codes "a_1")) 4 7 ∷ marked mark.Assign 8 9 ∷ token (Int (pos 42)) 10 12 ∷ marked mark.Semicolon 12 13 ∷ [], None)
unfolding scan keyword_of
kinds_and_places = refl

the_longest_is_taken : scan (codes "iff +++ 7a") ≡ (token (Name (codes "iff")) 0 3 ∷ marked mark.Join 4 6 ∷ marked mark.Plus 6 7 ∷ token (Int (pos 7)) 8 9 ∷ token (Name (codes "a")) 9 10 ∷ [], None)
unfolding scan keyword_of
the_longest_is_taken = refl

texts_and_comments : scan (codes "\"#\\n\"#\n1") ≡ (token (Text (35 ∷ 10 ∷ [])) 0 5 ∷ token (Int (pos 1)) 7 8 ∷ [], None)
unfolding scan keyword_of
texts_and_comments = refl

nothing : scan [] ≡ ([], None)
unfolding scan keyword_of
nothing = refl

leading_zero : scan (codes " 01") ≡ ([], Some 1)
unfolding scan keyword_of
leading_zero = refl

never_closed : scan (codes "1 \"a") ≡ (token (Int (pos 1)) 0 1 ∷ [], Some 2)
unfolding scan keyword_of
never_closed = refl

too_large : scan (codes "9223372036854775808") ≡ ([], Some 0)
unfolding scan keyword_of
too_large = refl

no_mark : scan (codes "a ! b") ≡ (token (Name (codes "a")) 0 1 ∷ [], Some 2)
unfolding scan keyword_of
no_mark = refl
