-- What becomes of a store while it is opened.
use Rattle.std.proofs.Common.{◌≡◌, ◌⊎◌, ◌∷◌, List, ℤ, pos, true≢false, inl, inr, [], length, refl, sym, ap, ◌∙◌, subst, Err}
use Rattle.std.proofs.Math.Logic.{∥∥₁_elim}
use Rattle.std.specs.Prelude.{IsTrue}
use Rattle.sqlite_trees.specs.declared.store.Store.{Ghosts}
use Rattle.sqlite_trees.specs.Props.{Trees-set}
use Rattle.sqlite_catalog.specs.Listing as catalog
use Rattle.sqlite_catalog.proofs.ReadLemmas.{lists_once}
use Rattle.sqlite.specs.Disk.{MoreFaults}
use Rattle.sqlite.specs.Tree.{Trees}
use Rattle.sqlite.specs.Effect.{Database}
use Rattle.sqlite.specs.State.{State, HasCleanDisk, Opens, IsLive}
use Rattle.sqlite.specs.Steps.{FailsToOpen}
use Rattle.sqlite.specs.declared.error.Error.{Error}
use Rattle.flow_base.specs.declared.fault.Fault.{Fault}
use Rattle.flow_base.specs.declared.fault.Fault.TheVariants as fault
use Rattle.flow_check.specs.Language.{is_program, meaning_of}
use Rattle.flow_check.proofs.Meaning.{meaning_is}
use Rattle.flow_model.specs.Book.{Book, no_book}
use Rattle.flow_model.specs.Sound.{IsSound}
use Rattle.flow_machine.proofs.Keeps.{nothing_sound}
use Rattle.flow_rows.specs.Rows.{Tables}
use Rattle.flow_rows.specs.Told.{Tells, TellsIn}
use Rattle.flow_rows.specs.Rows.{One, Two}
use Rattle.sqlite_schema.specs.declared.schema.Schema.{Schema}
use Rattle.sqlite_value.specs.Order.{Row}
use Rattle.std.specs.Ordering.{int_eq}
use Rattle.flow_sql.specs.Past.{ArePast, HasPast, past_format_row, past_schema, past_tables}
use Rattle.flow_sql.specs.Stored.{format_row, number_at}
use Rattle.flow_rows.proofs.Agreed.{kept_all}
use Rattle.flow_rows.proofs.Stood.{stood, stood_in}
use Rattle.flow_rows.proofs.Telling.{told, told_in, all_told}
use Rattle.flow_tables.specs.Layout.{schema_of, no_schema}
use Rattle.flow_tables.specs.Stored.{tables_in}
use Rattle.flow_tables.specs.Opening.{StandFor, IsFirstDamage, IsOfRows, IsOfTables, IsOfOpening, HasCause, StopsTables}
use Rattle.flow_tables.specs.States.{HasTables, HasEnded}
use Rattle.flow_tables.specs.Owned.{IsOurs, IsFound, IsFileOf, IsHeld, IsHeldBefore, IsPastFileOf, Keeps, LeavesMade}
use Rattle.flow_tables.proofs.Opened.{never_both}
use Rattle.flow_tables.proofs.Owning.{file_of}
use Rattle.flow_tables.proofs.Reopened.{one_file, opened_file}
use Rattle.flow_tables.proofs.Stops.{IsSettled}
use Rattle.flow_commit.specs.Keeping.{rules, IsWell}
use Rattle.flow_recover.specs.Positions.{IsLeastMismatch, Names, OnlyMemory}
use Rattle.flow_recover.specs.Recovering.{HoldsSound, HoldsSoundBefore, AreBlank, HoldBook, StillHolds, IsOpenedOver, IsOfDisk, IsOfRecovery, IsPastTables, IsLeft}

---- The book that is found

abbrev number_in : List Row → ℤ
number_in [] = pos 0
number_in (r ∷ rs) = number_at r 2

-- the row of the format isn't that of both
not_rows : {A : Type 0} (rows : List Row) → rows ≡ format_row ∷ [] → rows ≡ past_format_row ∷ [] → A
not_rows rows ours before = absurd (true≢false (ap (λ xs. int_eq (number_in xs) (pos 1)) (sym before ∙ ours)))

-- Tables are of one format.
pub not_before : {A : Type 0} (d : Database) → HasTables d → HasPast d → A
not_before d has before = not_rows (d.trees 0) has.lie.ours.format before.past.format

pub none_before : {A : Type 0} (d : Database) → d.schema ≡ no_schema → HasPast d → A
none_before d none before = absurd (let clash = ap (λ (s : Schema). s.tables) (sym none ∙ before.laid_out) in cc)

-- A store holds one book.
pub one_found : (s : State) (b b' : Book) → IsFound s b → IsFound s b' → b ≡ b'
one_found s b b' (inl (inl h)) (inl (inl h')) = sym (told (tables_in s.committed) b h.1) ∙ told (tables_in s.committed) b' h'.1
one_found s b b' (inl (inl h)) (inl (inr h')) = never_both s.committed h.0 h'.0
one_found s b b' (inl (inr h)) (inl (inl h')) = never_both s.committed h'.0 h.0
one_found s b b' (inl (inr h)) (inl (inr h')) = h.1 ∙ sym h'.1
one_found s b b' (inl (inl h)) (inr h') = not_before s.committed h.0 h'.past
one_found s b b' (inl (inr h)) (inr h') = none_before s.committed h.0 h'.past
one_found s b b' (inr h) (inl (inl h')) = not_before s.committed h'.0 h.past
one_found s b b' (inr h) (inl (inr h')) = none_before s.committed h'.0 h.past
one_found s b b' (inr h) (inr h') = sym (told_in One (past_tables s.committed.trees) b h.tells) ∙ told_in One (past_tables s.committed.trees) b' h'.tells

-- in which a book is found is ours, or of the first format, or has no tables
pub found_ours : (s : State) (b : Book) → (HasCleanDisk s → IsFound s b) → IsOurs s
found_ours s b found clean = elim (found clean) [ inl (inl h) ↦ inl (inl h.0) | inl (inr h) ↦ inl (inr h.0) | inr h ↦ inr h.past ]

-- tables that stand for a book tell it
stand_tell : (t : Tables) (b : Book) → StandFor is_program t b → Tells t b
stand_tell t b h = record { same = h.same; runs = all_told Two (length b.texts) b.runs (kept_all Two (length b.texts) [] b.runs h.runs) }

pub sound_found : (s : State) → HoldsSound s → (b : Book) × IsFound s b × IsSound rules b
sound_found s (inl h) = (h.0, inl (inl (h.1, stand_tell (tables_in s.committed) h.0 h.2)), h.3)
sound_found s (inr none) = (no_book, inl (inr (none, refl)), nothing_sound rules)

pub sound_ours : (s : State) → (HasCleanDisk s → HoldsSound s) → IsOurs s
sound_ours s sound clean = elim (sound clean) [ inl h ↦ inl (inl h.1) | inr none ↦ inl (inr none) ]

---- Opening anew

-- A store that holds a book isn't refused for its trees: they are a database, with our tables or with none.
pub refused_by_disk : {S : Type 0} (g : Ghosts S) (old new : S) (e : Error) (b : Book) → FailsToOpen (g.view old).trees (MoreFaults (g.faults old) (g.faults new)) e
    → HoldBook (g.view old).trees b → IsOfDisk g old new e
refused_by_disk g old new e b (inl none) (inl file) = absurd (none.1 (schema_of file.layout) file.ours.sound)
refused_by_disk g old new e b (inl none) (inr (inl blank)) = absurd (none.1 no_schema blank.0)
refused_by_disk g old new e b (inl none) (inr (inr before)) = absurd (none.1 past_schema before.past.laid.sound)
refused_by_disk g old new e b (inr failed) held = failed

-- What is found is what the files hold, which is one database.
pub held_opened : (s : State) (Holds : Trees → Type 0) (db : Trees) → Opens s × IsLive s → ((d : Trees) → Holds d → s.committed.trees ≡ d) → ∥ Holds db ∥₁ → IsOpenedOver s db
held_opened s Holds db opened found held = record {
  opens = opened.0;
  live = opened.1;
  trees = ap (λ (d : Database). d.trees) opened.0.clean ∙ ∥∥₁_elim held (Trees-set s.committed.trees db) (found db);
}

---- A book that is there

-- what it shows is what its last commit left
opened_trees : (s : State) (db : Trees) → IsOpenedOver s db → s.committed.trees ≡ db
opened_trees s db over = sym (ap (λ (d : Database). d.trees) over.opens.clean) ∙ over.trees

-- The book of a file is found where a connection was just opened over it.
pub opened_tells : (s : State) (db : Trees) (b : Book) → IsFileOf db b → IsOpenedOver s db → HasTables s.committed × Tells (tables_in s.committed) b
opened_tells s db b file over = opened_file s db b over.opens over.live over.trees file

pub opened_found : (s : State) (db : Trees) (b : Book) → IsFileOf db b → IsOpenedOver s db → IsFound s b
opened_found s db b file over = inl (inl (opened_tells s db b file over))

-- Such a connection keeps it.
pub opened_keeps : (s : State) (db : Trees) (b : Book) → IsSettled s → IsFileOf db b → IsOpenedOver s db → IsTrue s.is_open × Keeps s b
opened_keeps s db b law file over =
    let up : IsTrue s.is_open = over.opens.is_open in (
      up,
      record {
        kept = λ _. opened_tells s db b file over;
        stops = λ left may. subst (λ d. IsFileOf d b) (sym (law left up may ∙ opened_trees s db over)) file;
      },
    )

-- what an open connection keeps is found
pub kept_found : (s : State) (b : Book) → IsTrue s.is_open × Keeps s b → IsFound s b
kept_found s b h = inl (inl (h.1.kept h.0))

-- and what a file of our format holds is ours, or none
pub held_current : (s : State) (b : Book) → IsHeld s b → HasTables s.committed ⊎ (s.committed.schema ≡ no_schema)
held_current s b (inl h) = inl h.0
held_current s b (inr h) = inr h.0

pub kept_held : (s : State) (b : Book) → IsTrue s.is_open × Keeps s b → IsHeld s b
kept_held s b h = inl (h.1.kept h.0)

-- Tables that tell a book which is well stand for it.
well_stands : (t : Tables) (b : Book) → Tells t b → IsWell b → StandFor is_program t b
well_stands t b tells well = let stands = stood meaning_of meaning_is b tells.runs well.sound well.orderly in record { texts = stands.0; runs = stands.1; same = tells.same }

pub well_sound : (s : State) (b : Book) → IsHeld s b → IsWell b → HoldsSound s
well_sound s b (inl h) well = inl (b, h.0, well_stands (tables_in s.committed) b h.1 well, well.sound)
well_sound s b (inr h) well = inr h.0

-- and those of the first format
pub well_before : (s : State) (b : Book) → IsHeldBefore s b → IsWell b → HoldsSoundBefore s
well_before s b before well =
    let stands = stood_in meaning_of meaning_is One b before.tells.runs well.sound well.orderly in
    (b, before.past, record { texts = stands.0; runs = stands.1; same = before.tells.same }, well.sound)

-- a refusal that ended what ran keeps what was kept
pub ended_keeps : (old new : State) (b : Book) → HasEnded old new → LeavesMade old new b → Keeps old b → Keeps new b
ended_keeps old new b ended leaves keeps = record {
  kept = λ up. subst (λ (d : Database). HasTables d × Tells (tables_in d) b) (sym (ended.back up).1) (keeps.kept (ended.was_open up));
  stops = λ db may. elim (leaves db may) [ inl before ↦ keeps.stops db before | inr made ↦ made ];
}

---- A book, or an empty store

not_both : {A : Type 0} (db : Trees) (b : Book) → IsFileOf db b → AreBlank db → A
not_both db b file none =
    let has : HasTables (record { schema = schema_of file.layout; trees = db }) = record { layout = file.layout; lie = record { laid_out = refl; ours = file.ours } } in
    never_both (record { schema = schema_of file.layout; trees = db }) has (lists_once _ (schema_of file.layout) no_schema file.ours.sound.lists none.lists)

not_blank : {A : Type 0} (db : Trees) (b : Book) → IsPastFileOf db b → AreBlank db → A
not_blank db b before none = absurd (let clash = ap (λ (s : Schema). s.tables) (lists_once _ past_schema no_schema before.past.laid.sound.lists none.lists) in cc)

-- Trees hold one book.
pub one_held : (db : Trees) (b b' : Book) → HoldBook db b → HoldBook db b' → b ≡ b'
one_held db b b' (inl h) (inl h') = one_file db b b' h h'
one_held db b b' (inl h) (inr (inl h')) = not_both db b h h'.0
one_held db b b' (inl h) (inr (inr h')) = not_rows (db 0) h.ours.format h'.past.format
one_held db b b' (inr (inl h)) (inl h') = not_both db b' h' h.0
one_held db b b' (inr (inl h)) (inr (inl h')) = h.1 ∙ sym h'.1
one_held db b b' (inr (inl h)) (inr (inr h')) = not_blank db b' h' h.0
one_held db b b' (inr (inr h)) (inl h') = not_rows (db 0) h'.ours.format h.past.format
one_held db b b' (inr (inr h)) (inr (inl h')) = not_blank db b h h'.0
one_held db b b' (inr (inr h)) (inr (inr h')) = sym (told_in One (past_tables db) b h.tells) ∙ told_in One (past_tables db) b' h'.tells

-- the book of a file of the first format
pub opened_before : (s : State) (db : Trees) (b : Book) → IsPastFileOf db b → IsOpenedOver s db → IsHeldBefore s b
opened_before s db b before over =
    let same = opened_trees s db over in
    let here : ArePast s.committed.trees = subst ArePast (sym same) before.past in
    record {
      past = record { laid_out = lists_once _ s.committed.schema past_schema (over.live over.opens.is_open).1.lists here.laid.sound.lists; past = here };
      tells = subst (λ (d : Trees). TellsIn One (past_tables d) b) (sym same) before.tells;
    }

-- It is found where a connection was just opened over them.
pub held_found : (s : State) (db : Trees) (b : Book) → HoldBook db b → IsOpenedOver s db → IsFound s b
held_found s db b (inl file) over = opened_found s db b file over
held_found s db b (inr (inl none)) over =
    let blank = subst AreBlank (sym (opened_trees s db over)) none.0 in
    inl (inr (lists_once _ s.committed.schema no_schema (over.live over.opens.is_open).1.lists blank.lists, none.1))
held_found s db b (inr (inr before)) over = inr (opened_before s db b before over)

-- A stop of an open connection leaves what is found in it.
left_held : (s : State) (b : Book) → IsSettled s → IsLive s → IsTrue s.is_open → IsFound s b → (db : Trees) → s.may_leave db → HoldBook db b
left_held s b law live up (inl (inl h)) db may = inl (subst (λ d. IsFileOf d b) (sym (law db up may)) (file_of s.committed b h.0 h.1))
left_held s b law live up (inl (inr none)) db may =
    inr (inl (subst AreBlank (sym (law db up may)) (subst (λ x. catalog.IsSound x s.committed.trees) none.0 (live up).1), none.1))
left_held s b law live up (inr before) db may =
    inr (inr (subst (λ d. IsPastFileOf d b) (sym (law db up may)) (record { past = before.past.past; tells = before.tells })))

-- tables that are there tell what is found
tables_keep : (s : State) (b : Book) → IsSettled s → IsTrue s.is_open → IsFound s b → HasTables s.committed → Keeps s b
tables_keep s b law up (inl (inl h)) has = record {
  kept = λ _. h;
  stops = λ db may. subst (λ d. IsFileOf d b) (sym (law db up may)) (file_of s.committed b h.0 h.1);
}
tables_keep s b law up (inl (inr none)) has = never_both s.committed has none.0
tables_keep s b law up (inr before) has = not_before s.committed has before.past

-- what is found is found on where the commit stays
found_on : (from to : State) (b : Book) → to.committed ≡ from.committed → IsFound from b → IsFound to b
found_on from to b same (inl (inl h)) = inl (inl (subst (λ (d : Database). HasTables d × Tells (tables_in d) b) (sym same) h))
found_on from to b same (inl (inr h)) = inl (inr (ap (λ (d : Database). d.schema) same ∙ h.0, h.1))
found_on from to b same (inr h) = inr (record { past = subst HasPast (sym same) h.past; tells = subst (λ (d : Database). TellsIn One (past_tables d.trees) b) (sym same) h.tells })

pub keeps_holds : (from to : State) (b : Book) → Keeps to b → StillHolds from to b
keeps_holds from to b keeps = record { found = λ up. inl (inl (keeps.kept up)); stops = λ db may. inl (keeps.stops db may); tables = λ _. keeps }

pub ended_holds : (from to : State) (b : Book) → IsSettled from → IsLive from → HasEnded from to → LeavesMade from to b → IsTrue from.is_open × IsFound from b → StillHolds from to b
ended_holds from to b law live ended leaves holds = record {
  found = λ up. found_on from to b (ended.back up).1 holds.1;
  stops = λ db may. elim (leaves db may) [ inl before ↦ left_held from b law live holds.0 holds.1 db before | inr made ↦ inl made ];
  tables = λ has. ended_keeps from to b ended leaves (tables_keep from b law holds.0 holds.1 has);
}

---- Refusals

-- it names a run of this book
abbrev pub NamesIn : Book → Fault → Type 0
NamesIn b f = Names {A = Unit {0}} (Err f) (IsLeastMismatch meaning_of b)

-- of tables
pub tables_among : (f : Fault) → IsOfOpening f → IsOfRecovery f
tables_among (fault.NoMemory _) of = tt
tables_among fault.StoreRefused of = tt
tables_among fault.NotOurs of = tt
tables_among fault.BadVersion of = tt
tables_among (fault.Damaged d) of = tt
tables_among _ of = absurd of

pub tables_left : (from to : State) (f : Fault) → IsOfOpening f → HasEnded from to → IsLeft from to f
tables_left from to (fault.NoMemory _) of ended = inl ended
tables_left from to (fault.Mismatch run place name) of ended = absurd of
tables_left from to _ of ended = ended

-- of positions
pub past_among : (f : Fault) → IsPastTables f → IsOfRecovery f
past_among (fault.NoMemory _) of = tt
past_among (fault.Mismatch run place name) of = tt
past_among _ of = absurd of

pub past_damage : (t : Tables) (f : Fault) → IsPastTables f → IsFirstDamage is_program t f
past_damage t (fault.NoMemory _) of = tt
past_damage t (fault.Mismatch run place name) of = tt
past_damage t _ of = absurd of

pub past_cause : {S : Type 0} (g : Ghosts S) (f : Fault) → IsPastTables f → HasCause g f
past_cause g (fault.NoMemory _) of = tt
past_cause g (fault.Mismatch run place name) of = tt
past_cause g _ of = absurd of

pub past_why : {S : Type 0} (g : Ghosts S) (from to : State) (f : Fault) → IsPastTables f → StopsTables g from to f
past_why g from to (fault.NoMemory _) of = tt
past_why g from to (fault.Mismatch run place name) of = tt
past_why g from to _ of = absurd of

pub past_left : (from to : State) (b : Book) (f : Fault) → IsPastTables f → NamesIn b f → IsOfRows is_program b → (IsOurs from → IsHeld from b × Keeps to b) → IsLeft from to f
past_left from to b (fault.NoMemory _) of named stands its = inr (λ ours. record { book = b; kept = inl ((its ours).0, stands, (its ours).1); mismatch = tt })
past_left from to b (fault.Mismatch run place name) of named stands its = λ ours. record { book = b; kept = inl ((its ours).0, stands, (its ours).1); mismatch = named }
past_left from to b _ of named stands its = absurd of

pub memory_own : (f : Fault) → OnlyMemory {A = Unit {0}} (Err f) → IsOfTables f
memory_own (fault.NoMemory _) of = tt
memory_own _ of = absurd of

-- what is kept is what a stop leaves
pub leaves_kept : (old new : State) (b : Book) → Keeps new b → LeavesMade old new b
leaves_kept old new b keeps db may = inr (keeps.stops db may)
