-- The tokens of a program text, which is a list of bytes: what the bytes of a token spell, the longest token at the front
-- of a text, and the tokens of a whole text up to the first byte where the text has none. Then the plain program that
-- computes them.
use Rattle.std.specs.Prelude.{◌≡◌, ◌≢◌, ℕ, pos, ◌+◌, ◌-◌, ◌*◌, ◌≤◌, ◌⊎◌, Bool, true, false, cond, not, ◌==◌, ◌&&◌, ◌||◌, nat_le, Option, Some, None, List, [], ◌∷◌, ◌++◌, length, take, drop, slice_index, codes, bytes_eq}
use Rattle.std.specs.List.{list_all, fold, find, prefix_len}
use Rattle.flow_base.specs.Syntax.{Bytes}
use Rattle.flow_base.specs.declared.token.Mark.{Mark}
use Rattle.flow_base.specs.declared.token.Mark.TheVariants as mark
use Rattle.flow_base.specs.declared.token.Word.{Word}
use Rattle.flow_base.specs.declared.token.Word.TheVariants as word
use Rattle.flow_base.specs.declared.token.Token.{Token}

---- Bytes

-- spaces, tabs, line feeds and carriage returns
abbrev pub is_blank : ℕ → Bool
is_blank b = (b == 32) || (b == 9) || (b == 10) || (b == 13)

-- a comment goes on to before the next line feed
abbrev pub is_inside_comment : ℕ → Bool
is_inside_comment b = not (b == 10)

-- a letter or _
abbrev pub is_letter : ℕ → Bool
is_letter b = (nat_le 65 b && nat_le b 90) || (nat_le 97 b && nat_le b 122) || (b == 95)

abbrev pub is_digit : ℕ → Bool
is_digit b = nat_le 48 b && nat_le b 57

abbrev pub is_name_byte : ℕ → Bool
is_name_byte b = is_letter b || is_digit b

-- what stands in a text for itself: all from U+0020 up but " and \
abbrev pub is_plain : ℕ → Bool
is_plain b = nat_le 32 b && not (b == 34) && not (b == 92)

-- the character that \ and this byte stand for
abbrev pub escaped : ℕ → Option ℕ
escaped b = cond (b == 34) (Some 34) (cond (b == 92) (Some 92) (cond (b == 110) (Some 10) None))

---- Marks

-- the bytes of a keyword or a mark
abbrev pub spelled : Mark → Bytes
spelled mark.Workflow = codes "workflow"
spelled mark.Activity = codes "activity"
spelled mark.Signal = codes "signal"
spelled mark.Let = codes "let"
spelled mark.If = codes "if"
spelled mark.Else = codes "else"
spelled mark.While = codes "while"
spelled mark.Call = codes "call"
spelled mark.Retry = codes "retry"
spelled mark.Every = codes "every"
spelled mark.Sleep = codes "sleep"
spelled mark.Wait = codes "wait"
spelled mark.For = codes "for"
spelled mark.Parallel = codes "parallel"
spelled mark.Patch = codes "patch"
spelled mark.Return = codes "return"
spelled mark.Fail = codes "fail"
spelled mark.Continue = codes "continue"
spelled mark.As = codes "as"
spelled mark.New = codes "new"
spelled mark.Int = codes "int"
spelled mark.Text = codes "text"
spelled mark.Len = codes "len"
spelled mark.Now = codes "now"
spelled mark.And = codes "and"
spelled mark.Or = codes "or"
spelled mark.Not = codes "not"
spelled mark.Open = codes "("
spelled mark.Close = codes ")"
spelled mark.BraceOpen = codes "{"
spelled mark.BraceClose = codes "}"
spelled mark.Comma = codes ","
spelled mark.Semicolon = codes ";"
spelled mark.Colon = codes ":"
spelled mark.Assign = codes "="
spelled mark.Equal = codes "=="
spelled mark.Differ = codes "!="
spelled mark.Less = codes "<"
spelled mark.AtMost = codes "<="
spelled mark.Greater = codes ">"
spelled mark.AtLeast = codes ">="
spelled mark.Arrow = codes "->"
spelled mark.Plus = codes "+"
spelled mark.Join = codes "++"
spelled mark.Minus = codes "-"
spelled mark.Times = codes "*"
spelled mark.Over = codes "/"
spelled mark.Percent = codes "%"

abbrev pub is_keyword : Mark → Bool
is_keyword mark.Open = false
is_keyword mark.Close = false
is_keyword mark.BraceOpen = false
is_keyword mark.BraceClose = false
is_keyword mark.Comma = false
is_keyword mark.Semicolon = false
is_keyword mark.Colon = false
is_keyword mark.Assign = false
is_keyword mark.Equal = false
is_keyword mark.Differ = false
is_keyword mark.Less = false
is_keyword mark.AtMost = false
is_keyword mark.Greater = false
is_keyword mark.AtLeast = false
is_keyword mark.Arrow = false
is_keyword mark.Plus = false
is_keyword mark.Join = false
is_keyword mark.Minus = false
is_keyword mark.Times = false
is_keyword mark.Over = false
is_keyword mark.Percent = false
is_keyword m = true

---- What bytes spell

-- a letter or _, and letters, digits and _
abbrev pub is_letters : Bytes → Bool
is_letters [] = false
is_letters (b ∷ bs) = is_letter b && list_all is_name_byte bs

abbrev pub is_digits : Bytes → Bool
is_digits [] = false
is_digits (b ∷ bs) = list_all is_digit (b ∷ bs)

-- several digits of which the first is 0
abbrev pub has_leading_zero : Bytes → Bool
has_leading_zero [] = false
has_leading_zero (b ∷ []) = false
has_leading_zero (b ∷ c ∷ bs) = b == 48

abbrev pub with_digit : ℕ → ℕ → ℕ
with_digit n b = 10 * n + (b - 48)

-- the number that digits write
abbrev pub number_of : Bytes → ℕ
number_of digits = fold with_digit 0 digits

-- what stands between the quotes of a text, and the value that it writes
pub data Writes : Bytes → Bytes → Type 0 where
  nothing : Writes [] []
  itself : {b : ℕ} {bs value : Bytes} → is_plain b ≡ true → Writes bs value → Writes (b ∷ bs) (b ∷ value)
  escape : {b c : ℕ} {bs value : Bytes} → escaped b ≡ Some c → Writes bs value → Writes (92 ∷ b ∷ bs) (c ∷ value)

-- the bytes between quotes write the value
abbrev pub Quotes : Bytes → Bytes → Type 0
Quotes bs value = (inside : Bytes) × ((bs ≡ 34 ∷ (inside ++ 34 ∷ [])) × Writes inside value)

-- the bytes spell the word, within its limits
abbrev pub Spells : Bytes → Word → Type 0
Spells bs (word.Name name) = (name ≡ bs) × (is_letters bs ≡ true) × (length bs ≤ 64) × ((m : Mark) → bs ≢ spelled m)
Spells bs (word.Int z) = (is_digits bs ≡ true) × (has_leading_zero bs ≡ false) × (number_of bs ≤ 9223372036854775807) × (z ≡ pos (number_of bs))
Spells bs (word.Text value) = Quotes bs value × (length value ≤ 4096)
Spells bs (word.Mark m) = bs ≡ spelled m

---- The longest token

-- the bytes have the form of a token, whether or not they keep its limits
abbrev pub LooksLikeToken : Bytes → Type 0
LooksLikeToken bs =
    (is_letters bs ≡ true) ⊎ ((is_digits bs ≡ true) ⊎ (((value : Bytes) × Quotes bs value) ⊎ ((m : Mark) × ((is_keyword m ≡ false) × (bs ≡ spelled m)))))

-- of all fronts of the text that look like a token, this is the longest
abbrev pub IsLongest : (token text : Bytes) → Type 0
IsLongest token text = LooksLikeToken token × ((front behind : Bytes) → text ≡ front ++ behind → LooksLikeToken front → length front ≤ length token)

-- the text begins with a longest token, which spells the word, and goes on with the rest
abbrev pub Begins : Bytes → Word → Bytes → Type 0
Begins text w rest = (token : Bytes) × ((text ≡ token ++ rest) × IsLongest token text × Spells token w)

---- The tokens of a text

abbrev mutual
  -- what is left behind the blanks and comments at the front; a comment is from # to before the next line feed or the end
  pub past_gap : Bytes → Bytes
  past_gap [] = []
  past_gap (b ∷ bs) = cond (is_blank b) (past_gap bs) (cond (b == 35) (past_comment bs) (b ∷ bs))

  pub past_comment : Bytes → Bytes
  past_comment [] = []
  past_comment (b ∷ bs) = cond (is_inside_comment b) (past_comment bs) (past_gap bs)

-- The tokens of what is left of a text that has `whole` bytes, and the place of the first fault. No blank and no comment
-- stands at the front. The place of what is left is what the whole has more.
abbrev pub Reads : (whole : ℕ) → Bytes → List Token → Option ℕ → Type 0
Reads whole rest [] None = rest ≡ []
Reads whole rest [] (Some place) =
    (rest ≢ []) × ((w : Word) (after : Bytes) → Begins rest w after → ⊥) × (place ≡ whole - length rest)
Reads whole rest (t ∷ ts) fault =
    (after : Bytes) × (Begins rest t.word after × (t.from ≡ whole - length rest) × (t.to ≡ whole - length after) × Reads whole (past_gap after) ts fault)

-- these are the tokens of the text, with their places, up to the first fault
abbrev pub TokensOf : Bytes → List Token → Option ℕ → Type 0
TokensOf text ts fault = Reads (length text) (past_gap text) ts fault

---- The plain program

abbrev pub with_rest : Bytes → Option Word → Option (Word × Bytes)
with_rest rest None = None
with_rest rest (Some w) = Some (w, rest)

abbrev pub keywords : List Mark
keywords = mark.Workflow ∷ mark.Activity ∷ mark.Signal ∷ mark.Let ∷ mark.If ∷ mark.Else ∷ mark.While ∷ mark.Call ∷ mark.Retry ∷ mark.Every ∷ mark.Sleep ∷ mark.Wait ∷ mark.For ∷ mark.Parallel ∷ mark.Patch ∷ mark.Return ∷ mark.Fail ∷ mark.Continue ∷ mark.As ∷ mark.New ∷ mark.Int ∷ mark.Text ∷ mark.Len ∷ mark.Now ∷ mark.And ∷ mark.Or ∷ mark.Not ∷ []

unfoldable pub keyword_of : Bytes → Option Mark
keyword_of letters = find (λ m. bytes_eq (spelled m) letters) keywords

abbrev pub word_or_name : Bytes → Option Mark → Option Word
word_or_name letters (Some m) = Some (word.Mark m)
word_or_name letters None = cond (nat_le (length letters) 64) (Some (word.Name letters)) None

abbrev pub number_word : Bytes → Option Word
number_word digits =
    cond (has_leading_zero digits) None (cond (nat_le (number_of digits) 9223372036854775807) (Some (word.Int (pos (number_of digits)))) None)

-- a character before the value
abbrev pub after_character : ℕ → Option (Bytes × Bytes) → Option (Bytes × Bytes)
after_character c None = None
after_character c (Some found) = Some (c ∷ found.0, found.1)

abbrev pub after_escape : Option ℕ → Option (Bytes × Bytes) → Option (Bytes × Bytes)
after_escape None found = None
after_escape (Some c) found = after_character c found

abbrev mutual
  -- behind an opening quote: the value of the text, and what is left behind its closing quote
  pub unquoted : Bytes → Option (Bytes × Bytes)
  unquoted [] = None
  unquoted (b ∷ bs) =
      cond (b == 34) (Some ([], bs)) (cond (b == 92) (behind_escape bs) (cond (is_plain b) (after_character b (unquoted bs)) None))

  pub behind_escape : Bytes → Option (Bytes × Bytes)
  behind_escape [] = None
  behind_escape (c ∷ bs) = after_escape (escaped c) (unquoted bs)

abbrev pub text_word : Option (Bytes × Bytes) → Option (Word × Bytes)
text_word None = None
text_word (Some found) = cond (nat_le (length found.0) 4096) (Some (word.Text found.0, found.1)) None

abbrev pub long_mark : ℕ → ℕ → Option Mark
long_mark a b =
    cond (a == 61 && b == 61) (Some mark.Equal)
    (cond (a == 33 && b == 61) (Some mark.Differ)
    (cond (a == 60 && b == 61) (Some mark.AtMost)
    (cond (a == 62 && b == 61) (Some mark.AtLeast)
    (cond (a == 45 && b == 62) (Some mark.Arrow)
    (cond (a == 43 && b == 43) (Some mark.Join) None)))))

abbrev pub short_mark : ℕ → Option Mark
short_mark a =
    cond (a == 40) (Some mark.Open)
    (cond (a == 41) (Some mark.Close)
    (cond (a == 123) (Some mark.BraceOpen)
    (cond (a == 125) (Some mark.BraceClose)
    (cond (a == 44) (Some mark.Comma)
    (cond (a == 59) (Some mark.Semicolon)
    (cond (a == 58) (Some mark.Colon)
    (cond (a == 61) (Some mark.Assign)
    (cond (a == 60) (Some mark.Less)
    (cond (a == 62) (Some mark.Greater)
    (cond (a == 43) (Some mark.Plus)
    (cond (a == 45) (Some mark.Minus)
    (cond (a == 42) (Some mark.Times)
    (cond (a == 47) (Some mark.Over)
    (cond (a == 37) (Some mark.Percent) None))))))))))))))

abbrev pub short_word : Bytes → Option Mark → Option (Word × Bytes)
short_word text None = None
short_word text (Some m) = Some (word.Mark m, drop 1 text)

abbrev pub mark_word : Bytes → Option Mark → Option (Word × Bytes)
mark_word text (Some m) = Some (word.Mark m, drop 1 (drop 1 text))
mark_word text None = short_word text (short_mark (slice_index text 0))

abbrev pub name_word : Bytes → Option (Word × Bytes)
name_word text =
    with_rest (drop (prefix_len is_name_byte text) text)
    (word_or_name (take (prefix_len is_name_byte text) text) (keyword_of (take (prefix_len is_name_byte text) text)))

abbrev pub int_word : Bytes → Option (Word × Bytes)
int_word text = with_rest (drop (prefix_len is_digit text) text) (number_word (take (prefix_len is_digit text) text))

-- the longest token at the front, and what is left behind it
abbrev pub front : Bytes → Option (Word × Bytes)
front text =
    cond (is_letter (slice_index text 0)) (name_word text)
    (cond (is_digit (slice_index text 0)) (int_word text)
    (cond (slice_index text 0 == 34) (text_word (unquoted (drop 1 text)))
    (mark_word text (long_mark (slice_index text 0) (slice_index text 1)))))

-- the tokens of what is left, by the plain program
abbrev pub Scans : (whole : ℕ) → Bytes → List Token → Option ℕ → Type 0
Scans whole rest [] None = rest ≡ []
Scans whole rest [] (Some place) = (rest ≢ []) × (front rest ≡ None) × (place ≡ whole - length rest)
Scans whole rest (t ∷ ts) fault =
    (after : Bytes) × ((front rest ≡ Some (t.word, after)) × (t.from ≡ whole - length rest) × (t.to ≡ whole - length after) × Scans whole (past_gap after) ts fault)
