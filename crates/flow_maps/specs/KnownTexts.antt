-- What is known of the texts of a book: some of them by their numbers, and how many there are.
use Rattle.std.specs.Prelude.{◌≡◌, ℕ, length, IfSome, Option, Some, None}
use Rattle.std.specs.Ordering.{nat_cmp}
use Rattle.std.specs.BTreeMap.{get}
use Rattle.flow_base.specs.Syntax.{Bytes}
use Rattle.flow_model.specs.Book.{Book, nth}
use Rattle.flow_maps.specs.declared.book_texts.BookTexts.{BookTexts}
use Rattle.flow_maps.specs.declared.texts.TextBodies.{TextBodies}

-- what is known of a text is so
abbrev pub IsText : Option Bytes → Option Bytes → Type 0
IsText None o = Unit {0}
IsText (Some t) o = o ≡ Some t

-- The texts that are known are of this book.
abbrev pub KnowsBodies : TextBodies → Book → Type 0
KnowsBodies m b = (n : ℕ) → IsText (get nat_cmp m.known n) (nth b.texts n)

-- so many texts, if they are counted
abbrev pub IsTextCount : Option ℕ → Book → Type 0
IsTextCount o b = IfSome o (λ n. n ≡ length b.texts)

-- What is known is of this book.
abbrev pub KnowsTexts : BookTexts → Book → Type 0
KnowsTexts m b = KnowsBodies m.bodies b × IsTextCount m.count b
