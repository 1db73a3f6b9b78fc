-- What a connection finds that was just opened over the trees of a file. These lemmas have a file of their own, since what tells one
-- book leads to the code of the kit's numbers, and words of contracts stand on those of `Stops`.
use Rattle.std.specs.Prelude.{◌≡◌}
use Rattle.flow_tables.proofs.Names.{Layout, schema_of, State, HasTables, AreOurs, subst, Trees}
use Rattle.flow_tables.proofs.Names.{Book, Database, IsFileOf, LieAs, Tells, ap, book_in, sym, tables_by, tables_in, ◌∙◌}
use Rattle.flow_rows.proofs.Telling.{told}
use Rattle.flow_sql.proofs.Places.{one_layout, tables_are}
use Rattle.sqlite.specs.State.{Opens, IsLive}
use Rattle.sqlite_catalog.proofs.ReadLemmas.{lists_once}

-- A connection that was just opened over the trees of our tables finds their schema, and shows them and the book that they hold.
found_again : (s : State) → Opens s → IsLive s → (l : Layout) → AreOurs l s.now.trees → LieAs l s.now
found_again s opens live l ours = record { laid_out = lists_once _ _ (schema_of l) (live opens.is_open).0.lists ours.sound.lists; ours = ours }

pub opened_file : (s : State) (db : Trees) (b : Book) → Opens s → IsLive s → s.now.trees ≡ db → IsFileOf db b → HasTables s.committed × Tells (tables_in s.committed) b
opened_file s db b opens live same file =
    let l = file.layout in
    let lie = found_again s opens live l (subst (AreOurs l) (sym same) file.ours) in
    let tells : Tells (tables_in s.now) b = subst (λ t. Tells t b) (sym (tables_are l s.now lie)) (subst (λ d. Tells (tables_by l d) b) (sym same) file.tells) in
    let has : HasTables s.now = record { layout = l; lie = lie } in
    subst (λ (d : Database). HasTables d × Tells (tables_in d) b) opens.clean (has, tells)

-- Trees hold one book.
pub one_file : (db : Trees) (b c : Book) → IsFileOf db b → IsFileOf db c → b ≡ c
one_file db b c of_b of_c =
    let same = one_layout of_b.layout of_c.layout (lists_once _ (schema_of of_b.layout) (schema_of of_c.layout) of_b.ours.sound.lists of_c.ours.sound.lists) in
    sym (told (tables_by of_b.layout db) b of_b.tells) ∙ ap (λ l. book_in (tables_by l db)) same ∙ told (tables_by of_c.layout db) c of_c.tells
