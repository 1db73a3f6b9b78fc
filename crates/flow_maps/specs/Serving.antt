-- What is known of a book: of its runs all or nothing, how many texts it has, and some of them.
use Rattle.std.specs.Prelude.{Option, MatchOption}
use Rattle.flow_model.specs.Book.{Book}
use Rattle.flow_maps.specs.KnownTexts.{KnowsTexts}
use Rattle.flow_maps.specs.Seats.{Knows}
use Rattle.flow_maps.specs.declared.facts.Facts.{Facts}
use Rattle.flow_maps.specs.declared.maps.Maps.{Maps}

abbrev pub KnowsFacts : Option Facts → Book → Type 0
KnowsFacts o b = MatchOption o (Unit {0}) (λ f. Knows f b)

-- What is known is of this book.
pub record Serves (m : Maps) (b : Book) : Type 0 where
  pub facts : KnowsFacts m.facts b
  pub texts : KnowsTexts m.texts b
