-- The headline: however an engine is called, stopped and opened again over one store, there is one log of the commands that it kept.
use Rattle.std.specs.Prelude.{◌≡◌, ◌⊎◌, ◌+◌, ℕ, List, [], ◌∷◌, ◌++◌, length, slice_get, Result, Some, IsTrue}
use Rattle.sqlite_trees.specs.declared.store.Store.{Ghosts}
use Rattle.sqlite.specs.Tree.{Trees}
use Rattle.sqlite.specs.Held.{Held, state}
use Rattle.sqlite.specs.State.{HasCleanDisk}
use Rattle.flow_base.specs.declared.command.Command.{Command}
use Rattle.flow_base.specs.declared.book.Totals.{Totals}
use Rattle.flow_base.specs.declared.fault.Fault.{Fault}
use Rattle.flow_base.specs.Keys.{Key}
use Rattle.flow_check.specs.Language.{meaning_of}
use Rattle.flow_base.specs.declared.submission.Taken.{Taken}
use Rattle.flow_base.specs.declared.submission.Receipt.{Receipt}
use Rattle.flow_model.specs.Book.{Book, nth}
use Rattle.flow_model.specs.Apply.{after, replies}
use Rattle.flow_tables.specs.Opening.{IsOfStore, StopsOpening}
use Rattle.flow_tables.specs.Owned.{IsFound, Keeps, state_of}
use Rattle.flow_commit.specs.declared.outcome.Outcome.{Outcome}
use Rattle.flow_commit.specs.Boards.{Boarded}
use Rattle.flow_commit.specs.Calls.{BoardSays, CommitSays, VerifySays}
use Rattle.flow_commit.specs.Keeping.{Keeping, IsFit, IsWell, KeepsBook, rules}
use Rattle.flow_recover.specs.declared.positions.Position.{Position}
use Rattle.flow_recover.specs.Positions.{ArePositions}
use Rattle.flow_recover.specs.Recovering.{HoldBook, IsOpenedOver, StillHolds}
use Rattle.flow_engine.specs.declared.done.Done.{Done}
use Rattle.flow_engine.specs.Boarding.{PassesBoardedOnly, RunsBoarded}
use Rattle.flow_engine.specs.Driving.{PassesOnly, Runs, done_of, in_hand, kept_of, receipts_told}
use Rattle.flow_engine.specs.Opening.{HasFound, IsUnopened, Opens}

-- A life: an engine was opened, handed out positions and drove batches until it was stopped or closed; or it answered batches with
-- boards in between, as where it serves a hub; or its opening was refused.
pub data Life (S : Type 0) : Type 0 where
  Lived : (conn : Held S) (first : Keeping S) (positions : List Position) (last : Keeping S) (batches : List (List Taken)) (dones : List Done) → Life S
  Served : (conn : Held S) (first : Keeping S) (positions : List Position) (last : Keeping S) (batches : List (List Taken)) (dones : List Done) → Life S
  Refused : (conn : Held S) (f : Fault) (back : Held S) → Life S

-- Its connection at the beginning and at the end, what it committed, its batch in hand of which nobody knew, and its receipts.
pub record Seen (S : Type 0) : Type 0 where
  pub conn : Held S
  pub last : Held S
  pub kept : List Command
  pub hand : List Command
  pub receipts : List Receipt

abbrev pub seen : {S : Type 0} → Life S → Seen S
seen (Lived conn first positions last bs ds) =
    record { conn = conn; last = last.stored.held; kept = kept_of bs ds; hand = in_hand bs ds; receipts = receipts_told bs ds }
seen (Served conn first positions last bs ds) =
    record { conn = conn; last = last.stored.held; kept = kept_of bs ds; hand = in_hand bs ds; receipts = receipts_told bs ds }
seen (Refused conn f back) = record { conn = conn; last = back; kept = []; hand = []; receipts = [] }

module _ {S : Type 0} (g : Ghosts S) where
  -- What the calls of a life have said, at whose end the disk had told no lie.
  abbrev pub IsLife : Life S → Type 0
  IsLife (Lived conn first positions last bs ds) =
      HasCleanDisk (state_of g last.stored) × Opens g conn first × (IsFit g first → HasFound g first positions) × Runs g first last bs ds
  IsLife (Served conn first positions last bs ds) =
      HasCleanDisk (state_of g last.stored) × Opens g conn first × (IsFit g first → HasFound g first positions) × RunsBoarded g first last bs ds
  IsLife (Refused conn f back) = HasCleanDisk (state g back) × IsUnopened g (state g conn) (state g back) f

  -- It begins over a connection that holds this book in our tables, or the empty one in none; one that is refused is open.
  abbrev pub Begins : Book → Life S → Type 0
  Begins b (Lived conn first positions last bs ds) = HasCleanDisk (state g conn) → IsFound (state g conn) b
  Begins b (Served conn first positions last bs ds) = HasCleanDisk (state g conn) → IsFound (state g conn) b
  Begins b (Refused conn f back) = HasCleanDisk (state g conn) → IsTrue (state g conn).is_open × IsFound (state g conn) b

  -- The next life begins over trees that a stop of this one may leave, or over the connection that closing it gave back.
  abbrev pub Continues : Seen S → Seen S → Type 0
  Continues l m =
      ∥ ((db : Trees) × (state g l.last).may_leave db × (HasCleanDisk (state g m.conn) → IsOpenedOver (state g m.conn) db)) ∥₁
      ⊎ ((m.conn ≡ l.last) × IsTrue (state g l.last).is_open)

  abbrev pub Lives : (Life S → Type 0) → List (Life S) → Type 0
  Lives Begin [] = Unit {0}
  Lives Begin (l ∷ ls) = Begin l × IsLife l × Lives (λ m. Continues (seen l) (seen m)) ls

  -- What an opening over this book gave: the book, with exactly one position, which stands, for each of its open runs; or E01, E80 or
  -- E81: the book is held on, in no tables only where there were none, and why E80 or E81 is told.
  abbrev pub Finds : Book → Life S → Type 0
  Finds b (Lived conn first positions last bs ds) = KeepsBook g first b × ArePositions meaning_of b positions
  Finds b (Served conn first positions last bs ds) = KeepsBook g first b × ArePositions meaning_of b positions
  Finds b (Refused conn f back) = StillHolds (state g conn) (state g back) b × IsOfStore f × StopsOpening g (state g conn) (state g back) f

  -- What each batch has done, and why: behind E80 of one that isn't applied stands the store, or numbers that have run out.
  abbrev pub Works : Book → Life S → Type 0
  Works b (Lived conn first positions last bs ds) = PassesOnly g first last b bs ds
  Works b (Served conn first positions last bs ds) = PassesBoardedOnly g first last b bs ds
  Works b (Refused conn f back) = Unit {0}

  -- A life's place in the log, behind the commands before it: what it committed, and its batch in hand whole or not at all.
  pub record IsIn (b : Book) (log before part : List Command) (l : Life S) : Type 0 where
    pub found : Finds (after rules b before) l
    pub works : Works (after rules b before) l
    pub whole : (part ≡ (seen l).kept) ⊎ (part ≡ (seen l).kept ++ (seen l).hand)
    pub receipts : (i : ℕ) (r : Receipt) → slice_get (seen l).receipts i ≡ Some r
        → (nth log (length before + r.place) ≡ Some r.command) × (nth (replies rules b log) (length before + r.place) ≡ Some r.reply)

  abbrev pub AreIn : Book → List Command → List Command → List (Life S) → Type 0
  AreIn b log before [] = before ≡ log
  AreIn b log before (l ∷ ls) = (part : List Command) × IsIn b log before part l × AreIn b log (before ++ part) ls

  -- A life may begin over a connection that was opened over trees with a book or over none, or handed back while the book was kept.
  abbrev pub OpenedBegin : Type 0
  OpenedBegin = (b : Book) (l : Life S)
      → ((db : Trees) × HoldBook db b × (HasCleanDisk (state g (seen l).conn) → IsOpenedOver (state g (seen l).conn) db))
      ⊎ (HasCleanDisk (state g (seen l).conn) → IsTrue (state g (seen l).conn).is_open × Keeps (state g (seen l).conn) b)
      → Begins b l

  -- Several calls in one life are as one.
  abbrev pub CallsJoin : Type 0
  CallsJoin = (old mid new : Keeping S) (bs cs : List (List Taken)) (ds es : List Done) → Runs g old mid bs ds → Runs g mid new cs es → Runs g old new (bs ++ cs) (ds ++ es)

  -- So are calls with boards in between.
  abbrev pub BoardedCallsJoin : Type 0
  BoardedCallsJoin = (old mid new : Keeping S) (bs cs : List (List Taken)) (ds es : List Done) → RunsBoarded g old mid bs ds → RunsBoarded g mid new cs es → RunsBoarded g old new (bs ++ cs) (ds ++ es)

  -- Batches that were driven are such calls.
  abbrev pub DrivenAreBoarded : Type 0
  DrivenAreBoarded = (old new : Keeping S) (bs : List (List Taken)) (ds : List Done) → Runs g old new bs ds → RunsBoarded g old new bs ds

  -- So is what a commit says, with its batch, and what only reads the book, with none.
  abbrev pub CommitsAreCalls : Type 0
  CommitsAreCalls = (old new : Keeping S) (batch : List Taken) (result : Outcome) → CommitSays g old new batch result → Runs g old new (batch ∷ []) (done_of result ∷ [])

  abbrev pub BoardsAreCalls : Type 0
  BoardsAreCalls = (posted : List Key) (moment : ℕ) (old new : Keeping S) (result : Result Boarded Fault) → BoardSays g posted moment old new result → RunsBoarded g old new [] []

  abbrev pub VerifiesAreCalls : Type 0
  VerifiesAreCalls = (old new : Keeping S) (result : Result Totals Fault) → VerifySays g old new result → RunsBoarded g old new [] []

  -- Whatever the lives, from a book such as commands make there is one log of them all.
  abbrev pub Headline : Type 0
  Headline = (b : Book) → IsWell b → (lives : List (Life S)) → Lives (Begins b) lives → ∥ ((log : List Command) × AreIn b log [] lives) ∥₁
