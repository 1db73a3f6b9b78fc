-- What no damage means.
use Rattle.std.proofs.Common.{◌≡◌, Bool, [], length, true, Option, None, Result, Ok, Err, ap, sym, subst, ◌∙◌}
use Rattle.std.specs.Prelude.{IfOk}
use Rattle.std.specs.List.{AllByRecursion}
use Rattle.flow_base.specs.Syntax.{Bytes}
use Rattle.flow_model.specs.Book.{Book}
use Rattle.flow_rows.specs.declared.rows.StoreRows.{StoreRows}
use Rattle.flow_base.specs.declared.fault.Damage.{Damage}
use Rattle.flow_rows.specs.Damages.{first_of, first_damage, damages}
use Rattle.flow_rows.specs.Rows.{Format, AreRowsIn, by_run, rows_in}
use Rattle.flow_rows.specs.Standing.{AreKept, StandsFor}
use Rattle.flow_rows.specs.Told.{book_in, TellsIn}
use Rattle.flow_rows.proofs.Firsts.{none_first}
use Rattle.flow_rows.proofs.BookTables.{book_told, stands}
use Rattle.flow_rows.proofs.Agreed.{undamaged_where}
use Rattle.flow_rows.proofs.Telling.{tells, read_off}

pub stands_for : {E : Type 0} (p : Bytes → Bool) (rows : StoreRows) (r : Result (Option Damage) E) → IfOk r (λ o. o ≡ first_damage p rows)
    → IfOk r (λ o. o ≡ None → (f : Format) → AreRowsIn f rows.events → (b : Book) × StandsFor p f rows b)
stands_for p rows (Ok o) is = λ none f formed. (book_told rows, stands p f rows formed (none_first (damages p rows) (sym is ∙ none)))
stands_for p rows (Err e) is = tt

-- rows of one format without damage tell the book that is read from them
pub undamaged_tells : (p : Bytes → Bool) (f : Format) (rows : StoreRows) → AreRowsIn f rows.events → first_damage p rows ≡ None → TellsIn f (by_run rows) (book_in (by_run rows))
undamaged_tells p f rows formed none =
    let for_book = stands p f rows formed (none_first (damages p rows) none) in
    subst (TellsIn f (by_run rows)) (sym (read_off p f rows (book_told rows) for_book)) (tells p f rows (book_told rows) for_book)

pub tells_book : {E : Type 0} (p : Bytes → Bool) (rows : StoreRows) (r : Result (Option Damage) E) → IfOk r (λ o. o ≡ first_damage p rows)
    → IfOk r (λ o. o ≡ None → (f : Format) → AreRowsIn f rows.events → TellsIn f (by_run rows) (book_in (by_run rows)))
tells_book p rows (Ok o) is = λ none f formed. undamaged_tells p f rows formed (sym is ∙ none)
tells_book p rows (Err e) is = tt

-- the rows of a book that keeps the rules have no damage
pub book_undamaged : (p : Bytes → Bool) (f : Format) (rows : StoreRows) (b : Book) → AllByRecursion (λ t. p t ≡ true) b.texts → AreKept f (length b.texts) [] b.runs → by_run rows ≡ rows_in f b
    → first_damage p rows ≡ None
book_undamaged p f rows b texts runs same = ap first_of (undamaged_where p f rows b (record { texts = texts; runs = runs; same = same }))

pub has_none : {E : Type 0} (p : Bytes → Bool) (rows : StoreRows) (r : Result (Option Damage) E) → IfOk r (λ o. o ≡ first_damage p rows)
    → IfOk r (λ o. (f : Format) (b : Book) → StandsFor p f rows b → o ≡ None)
has_none p rows (Ok o) is = λ f b h. is ∙ ap first_of (undamaged_where p f rows b h)
has_none p rows (Err e) is = tt
