-- What a keeper keeps, and what becomes of a batch.
use Rattle.std.specs.Prelude.{◌≡◌, ◌+◌, ℕ, zero, suc, Bool, true, false, List, [], ◌∷◌, length, map, refl}
use Rattle.std.specs.Coded.{Coded, code_by, coded×, coded_ℕ, coded_bool, coded_list}
use Rattle.sqlite_trees.specs.declared.store.Store.{Ghosts}
use Rattle.flow_base.specs.declared.command.Command.{Command}
use Rattle.flow_base.specs.declared.command.Reply.{Reply}
use Rattle.flow_base.specs.Keys.{Key, key_code}
use Rattle.flow_check.specs.Language.{meaning_of}
use Rattle.flow_model.specs.Book.{Book}
use Rattle.flow_commit.specs.Accounts.{Accounted, book_code, handed_in, log_code}
use Rattle.sqlite.specs.Held.{state}
use Rattle.flow_model.specs.Apply.{Rules, rules_of, outcome, after, after_one, replies}
use Rattle.flow_model.specs.Sound.{IsSound, IsOrderly}
use Rattle.flow_base.specs.declared.submission.Taken.{Taken}
use Rattle.flow_base.specs.declared.submission.Receipt.{Receipt}
use Rattle.flow_base.specs.contracts.submission.Taken as taken_row
use Rattle.flow_tables.specs.Owned as tables
use Rattle.flow_tables.specs.Owned.{Stored, stored_code, state_of, Keeps, LeavesEither}

-- The value of a keeper: its tables, how many commands it has kept since they were opened, and whether it has halted; for
-- contracts alone also the book that was found when it was made, the receipts of all commands that it has kept since, and what had
-- been posted when the last board was made.
pub record Keeping (S : Type 0) : Type 0 where
  pub stored : Stored S
  pub kept : ℕ
  pub halted : Bool
  pub found : Book
  pub log : List Receipt
  pub posted : List Key

abbrev pub keeping_code : {S : Type 0} → Coded S → Coded (Keeping S)
keeping_code {S} store =
    code_by (Stored S × (ℕ × (Bool × (Book × (List Receipt × List Key))))) (coded× (stored_code store) (coded× coded_ℕ (coded× coded_bool (coded× book_code (coded× log_code (coded_list key_code))))))
    (λ k. (k.stored, (k.kept, (k.halted, (k.found, (k.log, k.posted))))))
    (λ p. record { stored = p.0; kept = p.1.0; halted = p.1.1.0; found = p.1.1.1.0; log = p.1.1.1.1.0; posted = p.1.1.1.1.1 }) (λ _. refl)

-- the rules of the product
abbrev pub rules : Rules
rules = rules_of meaning_of

-- A book such as commands make from the empty one: it is sound, its texts are programs, and no request started two runs.
pub record IsWell (b : Book) : Type 0 where
  pub sound : IsSound rules b
  pub orderly : IsOrderly rules b

-- The tables that were opened were ours or none, and the disk has told no lie so far.
abbrev pub IsFit : {S : Type 0} → Ghosts S → Keeping S → Type 0
IsFit g k = tables.IsFit g k.stored

-- the connection is open
abbrev pub IsUp : {S : Type 0} → Ghosts S → Keeping S → Type 0
IsUp g k = tables.IsUp g k.stored

-- the book that the last commit left, read off the tables
abbrev pub kept_book : {S : Type 0} → Ghosts S → Keeping S → Book
kept_book g k = tables.kept_book g k.stored

-- The keeper keeps this book, and each stop at this moment leaves it.
abbrev pub KeepsBook : {S : Type 0} → Ghosts S → Keeping S → Book → Type 0
KeepsBook g k b = Keeps (state_of g k.stored) b

---- What it has kept since it was made

abbrev pub logged_command : Receipt → Command
logged_command r = r.command

-- the commands of these receipts
abbrev pub logged : List Receipt → List Command
logged rs = map logged_command rs

abbrev pub replied : Receipt → Reply
replied r = r.reply

abbrev pub replied_in : List Receipt → List Reply
replied_in rs = map replied rs

abbrev pub place_of : Receipt → ℕ
place_of r = r.place

-- n numbers from first on
abbrev pub count_from : ℕ → ℕ → List ℕ
count_from first zero = []
count_from first (suc n) = first ∷ count_from (suc first) n

-- the replies are those of apply, each at its place among the commands that were applied to a book
abbrev pub AreReplies : Book → List Receipt → Type 0
AreReplies b rs = replied_in rs ≡ replies rules b (logged rs)

-- As far as the disk has told no lie the tables keep the book after all these commands, while the keeper goes on.
abbrev pub IsAfter : {S : Type 0} → Ghosts S → Keeping S → Type 0
IsAfter g k = IsFit g k → k.halted ≡ false → KeepsBook g k (after rules k.found (logged k.log))

-- What a keeper keeps true of what it has kept: one history, whose places count from 1. As far as the disk has told no lie all replies
-- are those of apply over the book that was found.
pub record IsLawfulKeeper {S : Type 0} (g : Ghosts S) (k : Keeping S) : Type 0 where
  pub legal : IsFit g k → AreReplies k.found k.log
  pub stands : IsAfter g k
  pub counts : k.kept ≡ length k.log
  pub places : map place_of k.log ≡ count_from 1 k.kept

-- what a stamp tells of it
abbrev pub account_of : {S : Type 0} → Ghosts S → Keeping S → Accounted
account_of g k = record { base = record { found = k.found; opened = handed_in (state g k.stored.opened) }; clean = (state_of g k.stored).is_clean; kept = k.kept; log = k.log }

---- A batch

abbrev pub batch_code : Coded (List Taken)
batch_code = coded_list taken_row.the_row.coded

abbrev pub command_of : Taken → Command
command_of t = t.command

abbrev pub commands_of : List Taken → List Command
commands_of ts = map command_of ts

abbrev pub receipt_with : ℕ → Taken → Reply → Receipt
receipt_with place t r = record { ticket = t.ticket; place = place; command = t.command; reply = r }

-- The receipts of a batch behind so many commands, with these replies, one for each: at the places kept + 1, kept + 2 and so on.
abbrev pub receipts_with : ℕ → List Taken → List Reply → List Receipt
receipts_with kept [] rs = []
receipts_with kept (t ∷ ts) [] = []
receipts_with kept (t ∷ ts) (r ∷ rs) = receipt_with (kept + 1) t r ∷ receipts_with (kept + 1) ts rs

abbrev pub receipt_of : ℕ → Book → Taken → Receipt
receipt_of place b t = record { ticket = t.ticket; place = place; command = t.command; reply = (outcome rules b t.command).reply }

-- The receipts of a batch that is applied to a book behind so many commands: the replies of apply, at their places.
abbrev pub receipts_of : ℕ → Book → List Taken → List Receipt
receipts_of kept b [] = []
receipts_of kept b (t ∷ ts) = receipt_of (kept + 1) b t ∷ receipts_of (kept + 1) (after_one rules b t.command) ts

-- The batch is kept: the book is what apply makes of it.
pub record HasKept {S : Type 0} (g : Ghosts S) (old new : Keeping S) (b : Book) (batch : List Taken) (receipts : List Receipt) : Type 0 where
  pub book : KeepsBook g new (after rules b (commands_of batch))
  pub told : receipts ≡ receipts_of old.kept b batch
  pub counts : new.kept ≡ old.kept + length batch
  pub goes_on : new.halted ≡ false

-- It isn't, and nothing has changed.
pub record HasRefused {S : Type 0} (g : Ghosts S) (old new : Keeping S) (b : Book) : Type 0 where
  pub book : KeepsBook g new b
  pub counts : new.kept ≡ old.kept
  pub goes_on : new.halted ≡ false

-- Nobody knows: a stop may leave the book before it or the book after it. The keeper has halted. Where the connection is still open
-- nothing was committed, so that closing it gives back the book before.
pub record IsUnknown {S : Type 0} (g : Ghosts S) (old new : Keeping S) (b : Book) (batch : List Taken) : Type 0 where
  pub either : LeavesEither (state_of g new.stored) b (after rules b (commands_of batch))
  pub still : IsUp g new → KeepsBook g new b
  pub halted : new.halted ≡ true
