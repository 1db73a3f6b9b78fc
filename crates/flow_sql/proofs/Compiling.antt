-- What the statements that make the tables do, whatever tables there are: each keeps the transaction, and none commits.
use Rattle.sqlite_ast.specs.declared.Statement.TheVariants as written
use Rattle.sqlite_ast.specs.declared.Conflict.TheVariants as conflict
use Rattle.sqlite_resolve.specs.Define as define
use Rattle.flow_sql.proofs.Names.{survives_weaker, timed, Row, Executes, HasCleanDisk, IsRolledBack, IsUnchanged, Runs, Shows, State, Survives, shows_rows, text_of, Trees, Error, Statement, first, Checked, Compiled, CompileError, NoSuchTable, Returning, Parsed, cases_Bool, Bool, IsTrue, List}
use Rattle.flow_sql.proofs.Names.{MatchResult, Option, false, true, ℕ, [], refl, Ok, None, Err, Result, ⊤, length, not, reads_listing, sym, ap, ◌∙◌, subst, inl, inr, true≢false, RunsTo, GoesOn, IsMaking, FirstIs, Schema, Table, CommitsNothing, IsReading, index_named, table_named, view_named}
use Rattle.flow_sql.proofs.Names.{◌≡◌, ◌⊎◌, if◌then◌else◌, ◌&&◌, ◌==◌, ◌+◌}
use Rattle.sqlite_ast.specs.declared.CreateTable.{CreateTable}
use Rattle.sqlite_ast.specs.declared.Rows.{Rows}
use Rattle.sqlite_schema.specs.declared.command.Command.{Command}
use Rattle.sqlite_schema.specs.declared.command.Command.TheVariants.{Insert, Update, Delete, CreateTable as MakeTable, Nothing}
use Rattle.sqlite_resolve.specs.declared.error.CompileError.TheVariants.{Unsupported}
use Rattle.sqlite_resolve.specs.Lowering.{and_then}
use Rattle.sqlite_resolve.specs.Scope.{Name}
use Rattle.sqlite_resolve.specs.Compile.{command, returning, shows, planned, meaning, compiled, create_table, creates, delete, is_attached, insert, insert_or_abort, new_rows, target, update, small, with_command, timed as timed_at}
use Rattle.sqlite_ast.specs.declared.Expr.{Expr}
use Rattle.sqlite_resolve.specs.Body.{table_at}
use Rattle.sqlite_resolve.specs.Program.{program}
use Rattle.sqlite_resolve.specs.Write.{updated, deleted}
use Rattle.sqlite_schema.specs.declared.command.Source.{Source}
use Rattle.std.specs.Option.{option_or}
use Rattle.sqlite.specs.Listing.{understood, if_select, is_select, listing_schema}
use Rattle.sqlite.specs.State.{CommitsBy, CommitsShowing, FailsToQuery, Shown, IsNotRun, ExecutesIn}
use Rattle.flow_sql.proofs.Added.{same_value}
use Rattle.flow_sql.proofs.Leaves.{was_clean, error_leaves, rolled_back_ended}

---- What a text becomes

then_gives : {A B : Type 0} (r : Checked A) (f : A → Checked B) (P : B → Type 0) → ((a : A) → r ≡ Ok a → (b : B) → f a ≡ Ok b → P b) → (b : B) → and_then r f ≡ Ok b → P b
then_gives (Ok a) f P each b h = each a refl b h
then_gives (Err e) f P each b h = absurd (let never = h in cc)

if_gives : {B : Type 0} (c : Bool) (x y : Checked B) (P : B → Type 0) → ((b : B) → x ≡ Ok b → P b) → ((b : B) → y ≡ Ok b → P b) → (b : B) → (if c then x else y) ≡ Ok b → P b
if_gives true x y P one two b h = one b h
if_gives false x y P one two b h = two b h

none_gives : {B : Type 0} (e : CompileError) (P : B → Type 0) (b : B) → ◌≡◌ {A = Checked B} (Err e) (Ok b) → P b
none_gives e P b h = absurd (let never = h in cc)

it_gives : {B : Type 0} (x : B) (P : B → Type 0) → P x → (b : B) → ◌≡◌ {A = Checked B} (Ok x) (Ok b) → P b
it_gives x P holds b h = subst P (same_value h) holds

-- changes the database or nothing, and neither begins nor ends a transaction
abbrev pub IsInside : Command → Type 0
IsInside Nothing = ⊤
IsInside (Insert at from) = ⊤
IsInside (Update at q) = ⊤
IsInside (Delete at q) = ⊤
IsInside MakeTable = ⊤
IsInside _ = ⊥

create_inside : (schema : Schema) (formats : List Name) (def : CreateTable) (c : Command) → create_table schema formats def ≡ Ok c → IsInside c
unfolding create_table
create_inside schema formats def =
    let is_free = creates def.if_missing def.name (option_or (table_named schema def.name) (view_named schema def.name)) (index_named schema def.name) in
    let made = λ (t : Table). (if length t.computed == length t.stamps.places && not def.resolves then Ok MakeTable else Err Unsupported) in
    let next = λ (is_new : Bool). (if is_new then and_then (define.table formats def) made else Ok Nothing) in
    if_gives (is_attached schema def.name) (Err Unsupported) (and_then is_free next) IsInside (none_gives Unsupported IsInside)
    (then_gives is_free next IsInside (λ is_new _. if_gives is_new (and_then (define.table formats def) made) (Ok Nothing) IsInside
    (then_gives (define.table formats def) made IsInside (λ t _. if_gives (length t.computed == length t.stamps.places && not def.resolves) (Ok MakeTable) (Err Unsupported) IsInside
    (it_gives MakeTable IsInside tt) (none_gives Unsupported IsInside)))
    (it_gives Nothing IsInside tt)))

insert_inside : (schema : Schema) (base : ℕ) (name : Name) (columns : List Name) (rows : Rows) (c : Command) → insert schema base name columns rows ≡ Ok c → IsInside c
unfolding insert
insert_inside schema base name columns rows =
    let last = λ (at : ℕ) (s : Source). Ok (Insert at s) in
    let next = λ (at : ℕ) (table : Table). and_then (new_rows schema table base columns rows) (last at) in
    then_gives (target schema name) (λ at. and_then (table_at schema at) (next at)) IsInside (λ at _. then_gives (table_at schema at) (next at) IsInside
    (λ table _. then_gives (new_rows schema table base columns rows) (last at) IsInside (λ s _. it_gives (Insert at s) IsInside tt)))

update_inside : (schema : Schema) (name : Name) (sets : List (Name × Expr)) (test : Option Expr) (c : Command) → update schema name sets test ≡ Ok c → IsInside c
unfolding update
update_inside schema name sets test =
    let lowered = λ (at : ℕ) (table : Table). and_then (updated schema at table sets test) (λ d. and_then (program schema [] d) (λ p. Ok (Update at p))) in
    then_gives (target schema name) (λ at. and_then (table_at schema at) (lowered at)) IsInside (λ at _. then_gives (table_at schema at) (lowered at) IsInside
    (λ table _. then_gives (updated schema at table sets test) (λ d. and_then (program schema [] d) (λ p. Ok (Update at p))) IsInside
    (λ d _. then_gives (program schema [] d) (λ p. Ok (Update at p)) IsInside (λ p _. it_gives (Update at p) IsInside tt))))

delete_inside : (schema : Schema) (name : Name) (test : Option Expr) (c : Command) → delete schema name test ≡ Ok c → IsInside c
unfolding delete
delete_inside schema name test =
    let lowered = λ (at : ℕ) (table : Table). and_then (deleted schema at table test) (λ d. and_then (program schema [] d) (λ p. Ok (Delete at p))) in
    then_gives (target schema name) (λ at. and_then (table_at schema at) (lowered at)) IsInside (λ at _. then_gives (table_at schema at) (lowered at) IsInside
    (λ table _. then_gives (deleted schema at table test) (λ d. and_then (program schema [] d) (λ p. Ok (Delete at p))) IsInside
    (λ d _. then_gives (program schema [] d) (λ p. Ok (Delete at p)) IsInside (λ p _. it_gives (Delete at p) IsInside tt))))

command_inside : (schema : Schema) (formats : List Name) (base : ℕ) (st : Statement) → IsMaking st → (c : Command) → command schema formats base st ≡ Ok c → IsInside c
unfolding command insert_or_abort
command_inside schema formats base (written.CreateTable def) making c h = create_inside schema formats def c h
command_inside schema formats base (written.Insert conflict.Abort name columns rows clauses shown) making c h = insert_inside schema base name columns rows c (rw making.0 at h)
command_inside schema formats base (written.Update name sets test shown) making c h = update_inside schema name sets test c h
command_inside schema formats base (written.Delete name test shown) making c h = delete_inside schema name test c h
command_inside schema formats base _ making c h = absurd making

shows_none : (schema : Schema) (base : ℕ) (st : Statement) → IsMaking st → (r : Option Returning) → returning schema base st ≡ Ok r → r ≡ None
unfolding returning shows
shows_none schema base (written.CreateTable def) making r h = sym (same_value h)
shows_none schema base (written.Insert conflict.Abort name columns rows clauses shown) making r h = sym (same_value (rw making.1 at h))
shows_none schema base (written.Update name sets test shown) making r h = sym (same_value (rw making at h))
shows_none schema base (written.Delete name test shown) making r h = sym (same_value (rw making at h))
shows_none schema base _ making r h = absurd making

reads_none : (schema : Schema) (base : ℕ) (st : Statement) → IsReading st → (r : Option Returning) → returning schema base st ≡ Ok r → r ≡ None
unfolding returning
reads_none schema base (written.Select s) reading r h = sym (same_value h)
reads_none schema base _ reading r h = absurd reading

selected : (r : Checked Compiled) (c : Compiled) → if_select r ≡ Ok c → r ≡ Ok c
selected (Ok d) c h = if_gives (is_select d.command) (Ok d) (Err NoSuchTable) (λ b. ◌≡◌ {A = Checked Compiled} (Ok d) (Ok b)) (λ b is. is) (none_gives NoSuchTable _) c h
selected (Err e) c h = absurd (let never = h in cc)

-- what is so of the command of such a statement, and of what it shows, is so of what a text becomes that begins with one
module _ (Q : Statement → Type 0) (P : Command × Option Returning → Type 0)
    (so : (schema : Schema) (formats : List Name) (base : ℕ) (st : Statement) → Q st → (c : Command) → command schema formats base st ≡ Ok c → (shown : Option Returning) → returning schema base st ≡ Ok shown → P (c, shown)) where
  abbrev IsSo : Compiled → Type 0
  IsSo c = P (c.command, c.returning)

  plan_so : (schema : Schema) (p : Parsed) → Q p.statement → (plan : List Name × (Command × Option Returning)) → planned schema p ≡ Ok plan → P plan.1
  unfolding planned meaning
  plan_so schema p it =
      let formats = timed_at schema p.formats p.statement in
      let base = small p.names + small formats in
      let both = λ (shown : Option Returning) (c : Command). Ok (c, shown) in
      let next = λ (shown : Option Returning). and_then (command schema p.formats base p.statement) (both shown) in
      let last = λ (found : Command × Option Returning). Ok (formats, found) in
      then_gives (meaning schema p base) last (λ plan. P plan.1) (λ found found_is. it_gives (formats, found) (λ plan. P plan.1)
      (then_gives (returning schema base p.statement) next P (λ shown shown_is. then_gives (command schema p.formats base p.statement) (both shown) P
      (λ c c_is. it_gives (c, shown) P (so schema p.formats base p.statement it c c_is shown shown_is))) found found_is))

  compiled_so : (schema : Schema) (sql : List ℕ) → FirstIs Q (first sql) → (c : Compiled) → compiled schema sql ≡ Ok c → IsSo c
  unfolding compiled
  compiled_so schema sql it =
      let last = λ (p : Parsed) (plan : List Name × (Command × Option Returning)). Ok (with_command p plan) in
      let next = λ (p : Parsed). and_then (planned schema p) (last p) in
      then_gives (first sql) next IsSo (λ p p_is. then_gives (planned schema p) (last p) IsSo
      (λ plan plan_is. it_gives (with_command p plan) IsSo (plan_so schema p (subst (FirstIs Q) p_is it) plan plan_is)))

  understood_so : (schema : Schema) (sql : List ℕ) → FirstIs Q (first sql) → (c : Compiled) → understood schema sql ≡ Ok c → IsSo c
  unfolding understood
  understood_so schema sql it =
      if_gives (reads_listing schema sql) (if_select (compiled listing_schema sql)) (compiled schema sql) IsSo (λ c h. compiled_so listing_schema sql it c (selected (compiled listing_schema sql) c h)) (compiled_so schema sql it)

-- keeps the transaction, and shows no rows
pub understood_inside : (schema : Schema) (sql : List ℕ) → FirstIs IsMaking (first sql) → (c : Compiled) → understood schema sql ≡ Ok c → IsInside c.command × (c.returning ≡ None)
understood_inside = understood_so IsMaking (λ found. IsInside found.0 × (found.1 ≡ None)) (λ schema formats base st making c c_is shown shown_is. (command_inside schema formats base st making c c_is, shows_none schema base st making shown shown_is))

---- What it does within a transaction

module _ (old new : State) (inside : IsTrue old.in_transaction) where
  shown_on : Shows old new new.now (if old.in_transaction then old.committed else new.now) old.in_transaction → GoesOn old new
  shown_on h = record { was_open = h.was_open; is_open = h.is_open; mode = h.mode ∙ inside; committed = h.committed_is ∙ ap (λ b. if b then old.committed else new.now) inside }

  ran : (returns : Option Returning) (command : Command) → IsInside command → (text : List ℕ) (params : Row) (count : ℕ) → Runs old new returns command text params count → GoesOn old new
  ran returns Nothing is text params count h = record { was_open = h.0.0.was_open; is_open = h.0.0.is_open; mode = h.0.0.mode ∙ inside; committed = h.0.0.committed_is }
  ran returns (Insert at from) is text params count h = shown_on h.shown
  ran returns (Update at q) is text params count h = shown_on h.shown
  ran returns (Delete at q) is text params count h = shown_on h.shown
  ran returns MakeTable is text params count h = shown_on h.shown
  ran returns _ is text params count h = absurd is

  making_goes_on : (sql : List ℕ) (params : Row) (count : ℕ) → FirstIs IsMaking (first sql) → Executes sql params old new (Ok count) → GoesOn old new
  unfolding ExecutesIn
  making_goes_on sql params count making h = elim (cases_Bool (shows_rows false h.0)) [
    | inl shows ↦ absurd (let e = (rw shows at h.2).0 in cc)
    | inr runs ↦ ran h.0.returning h.0.command (understood_inside old.now.schema sql making h.0 h.1.is).0 (text_of sql h.0) (timed params h.0.formats h.1.now) count (rw runs at h.2)
  ]

  pub changing_becomes : (sql : List ℕ) (params : Row) → FirstIs IsMaking (first sql) → (r : Result ℕ Error) → Executes sql params old new r → MatchResult r (λ _. GoesOn old new) (λ _. CommitsNothing old new)
  changing_becomes sql params making (Ok count) h = making_goes_on sql params count making h
  changing_becomes sql params making (Err e) h = elim (error_leaves old new sql params e h) [
    | inl same ↦ inl (record { was_open = same.0.was_open; is_open = same.0.is_open; mode = same.0.mode ∙ inside; committed = same.0.committed_is })
    | inr undone ↦ inr (rolled_back_ended old new undone)
  ]

  pub making_becomes : (sql : List ℕ) → FirstIs IsMaking (first sql) → (r : Result (Unit {0}) Error) → RunsTo sql old new r → MatchResult r (λ _. GoesOn old new) (λ _. CommitsNothing old new)
  making_becomes sql making (Ok x) h = making_goes_on sql [] h.0 making h.1
  making_becomes sql making (Err e) h = changing_becomes sql [] making (Err e) h

  making_commits_nothing : (sql : List ℕ) (params : Row) → FirstIs IsMaking (first sql) → (db : Trees) → ¬ CommitsBy sql params old db
  unfolding CommitsBy
  making_commits_nothing sql params making db h =
      let writes = (understood_inside old.now.schema sql making h.0 h.1.is).0 in
      elim h.2 [
        | inl (inl commits, _) ↦ absurd (rw commits at writes)
        | inl (inr release, _) ↦ absurd (rw release.2 at writes)
        | inr outside ↦ absurd (let e = inside in let f = outside.0 in cc)
      ]

pub making_survives : (old new : State) (sql : List ℕ) (params : Row) → FirstIs IsMaking (first sql) → (HasCleanDisk old → IsTrue old.in_transaction) → Survives old new (CommitsBy sql params old)
    → Survives old new (λ _. ⊥)
making_survives old new sql params making inside h =
    survives_weaker old new _ _ (λ clean db. making_commits_nothing old new (inside (was_clean old new _ h clean)) sql params making db) h

---- What a query leaves: it commits nothing, and changes nothing, or fails with the store

module _ (sql : List ℕ) (reading : FirstIs IsReading (first sql)) (params : Row) (old new : State) where
  -- a query shows no rows of a write
  pub bare : (c : Compiled) → understood old.now.schema sql ≡ Ok c → c.returning ≡ None
  bare = understood_so IsReading (λ found. found.1 ≡ None) (λ schema formats base st reads c c_is. reads_none schema base st reads) old.now.schema sql reading

  pub commits_none : Survives old new (CommitsShowing sql params old) → Survives old new (λ _. ⊥)
  unfolding CommitsShowing
  commits_none h = survives_weaker old new _ _ (λ _ db made. let some = made.2 in let e = rw (bare made.0 made.1.is) at some in true≢false (sym e)) h

  pub failed : (e : Error) → FailsToQuery sql params old new e → IsUnchanged old new ⊎ IsRolledBack old new
  unfolding FailsToQuery IsNotRun
  failed e (inl (inl refused)) = inl refused.1
  failed e (inl (inr fails)) = inr fails.3
  failed e (inr h) = inl (rw (bare h.0 h.1.is) at h.2).3

  pub answered : (rows : List Row) → Shown sql params old new rows → IsUnchanged old new
  unfolding Shown
  answered rows h = (rw (bare h.0 h.1.is) at h.2).3
