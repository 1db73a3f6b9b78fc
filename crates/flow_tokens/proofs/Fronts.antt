-- What the plain program takes at the front of a text is the longest token there, and there is none where it takes none.
use Rattle.std.proofs.Common.{◌≡◌, Bool, true, false, cond, ◌==◌, Option, Some, get_or, drop, sym, ◌∙◌, refl}
use Rattle.flow_base.specs.Syntax.{Bytes}
use Rattle.flow_base.specs.declared.token.Word.{Word}
use Rattle.flow_model.specs.Tokens.{is_letter, is_digit, unquoted, text_word, long_mark, mark_word, name_word, int_word, front, Begins}
use Rattle.flow_tokens.proofs.Longest.{Form, letters, digits, quotes, signs, form_at}
use Rattle.flow_tokens.proofs.NameFronts.{name_begins, begins_name}
use Rattle.flow_tokens.proofs.NumberFronts.{number_begins, begins_number}
use Rattle.flow_tokens.proofs.QuotedFronts.{quoted_begins, begins_quoted}
use Rattle.flow_tokens.proofs.MarkFronts.{mark_begins, begins_mark}

abbrev front_of : Form → Bytes → Option (Word × Bytes)
front_of letters text = name_word text
front_of digits text = int_word text
front_of quotes text = text_word (unquoted (drop 1 text))
front_of signs text = mark_word text (long_mark (get_or text 0 0) (get_or text 1 0))

by_tests : (u v w : Bool) (text : Bytes) → cond u (name_word text) (cond v (int_word text) (cond w (text_word (unquoted (drop 1 text))) (mark_word text (long_mark (get_or text 0 0) (get_or text 1 0))))) ≡ front_of (cond u letters (cond v digits (cond w quotes signs))) text
by_tests true v w text = refl
by_tests false true w text = refl
by_tests false false true text = refl
by_tests false false false text = refl

by_form : (text : Bytes) → front text ≡ front_of (form_at text) text
by_form text = by_tests (is_letter (get_or text 0 0)) (is_digit (get_or text 0 0)) (get_or text 0 0 == 34) text

form_begins : (k : Form) (text after : Bytes) (w : Word) → form_at text ≡ k → front_of k text ≡ Some (w, after) → Begins text w after
form_begins letters text after w f e = name_begins text after w f e
form_begins digits text after w f e = number_begins text after w f e
form_begins quotes text after w f e = quoted_begins text after w f e
form_begins signs text after w f e = mark_begins text after w f e

begins_form : (k : Form) (text after : Bytes) (w : Word) → form_at text ≡ k → Begins text w after → front_of k text ≡ Some (w, after)
begins_form letters text after w f b = begins_name text after w f b
begins_form digits text after w f b = begins_number text after w f b
begins_form quotes text after w f b = begins_quoted text after w f b
begins_form signs text after w f b = begins_mark text after w f b

pub front_begins : (text : Bytes) (w : Word) (after : Bytes) → front text ≡ Some (w, after) → Begins text w after
front_begins text w after e = form_begins (form_at text) text after w refl (sym (by_form text) ∙ e)

pub begins_front : (text : Bytes) (w : Word) (after : Bytes) → Begins text w after → front text ≡ Some (w, after)
begins_front text w after b = by_form text ∙ begins_form (form_at text) text after w refl b
