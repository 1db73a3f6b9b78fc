-- A book for contracts alone, and what is known of its runs as they are told.
use Rattle.std.specs.Prelude.{◌≡◌, List}
use Rattle.flow_base.specs.Syntax.{Bytes}
use Rattle.flow_base.specs.declared.book.Run.{Run}
use Rattle.flow_maps.specs.Serving.{Serves}
use Rattle.flow_maps.specs.Undoing.{GoesBack}
use Rattle.flow_maps.specs.declared.maps.Maps.{Maps}
use Rattle.flow_model.specs.Book.{Book}
use Rattle.flow_tables.specs.declared.unread.ToldBook.{ToldBook}

abbrev pub shown_book : ToldBook → Book
shown_book b = record { texts = b.texts; runs = b.runs }

-- The maps know these runs of a book with these texts, and whoever listens was told them.
pub record AreTold {L : Type 0} (heard : L → List Bytes → List Run → Type 0) (texts : List Bytes) (maps : Maps) (told : List Run) (listener : L) (runs : List Run) : Type 0 where
  pub same : told ≡ runs
  pub serves : Serves maps (record { texts = texts; runs = runs })
  pub goes_back : (b : Book) → GoesBack maps b b
  pub hears : heard listener texts runs

-- So it is of the whole book.
pub record Knows {L : Type 0} (heard : L → List Bytes → List Run → Type 0) (book : Book) (maps : Maps) (listener : L) : Type 0 where
  pub serves : Serves maps book
  pub goes_back : (b : Book) → GoesBack maps b b
  pub hears : heard listener book.texts book.runs
