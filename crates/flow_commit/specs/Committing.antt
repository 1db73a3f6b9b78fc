-- How transactions and commits end.
use Rattle.std.specs.Prelude.{◌≡◌, ◌⊎◌, ◌+◌, ◌++◌, ◌≤◌, ◌^◌, ℕ, true, false, List, length, map, codes}
use Rattle.sqlite_trees.specs.declared.store.Store.{Ghosts}
use Rattle.flow_base.specs.declared.command.Command.{Command}
use Rattle.flow_model.specs.Book.{Book}
use Rattle.flow_model.specs.Apply.{after, replies}
use Rattle.flow_base.specs.declared.submission.Taken.{Taken}
use Rattle.flow_base.specs.declared.submission.Receipt.{Receipt}
use Rattle.flow_machine.specs.Stuck.{IsStuckWithin}
use Rattle.flow_machine.specs.Fitting.{IsUnfitWithin}
use Rattle.flow_tables.specs.Puts.{IsUnfit, PassesLast}
use Rattle.flow_base.specs.declared.book.Change.{Change}
use Rattle.flow_base.specs.declared.book.Change.TheVariants.{SetAttempt}
use Rattle.flow_view.specs.declared.fault.ViewFault.{ViewFault}
use Rattle.flow_view.specs.declared.fault.ViewFault.TheVariants as fault
use Rattle.flow_tables.specs.Faults.{HasFailed, IsCutOff, Since}
use Rattle.flow_tables.specs.States.{HasGoneBack}
use Rattle.flow_tables.specs.Owned.{Stored, state_of, IsUp, Keeps, Follows, Refuses, LeavesEither}
use Rattle.flow_commit.specs.declared.outcome.Outcome.{Outcome}
use Rattle.flow_commit.specs.declared.outcome.Outcome.TheVariants as outcomes
use Rattle.flow_commit.specs.declared.transaction.End.{End}
use Rattle.flow_commit.specs.declared.transaction.End.TheVariants as end
use Rattle.flow_commit.specs.Keeping.{Keeping, rules, account_of, IsWell, commands_of, kept_book, HasKept, HasRefused, IsUnknown}
use Rattle.flow_commit.specs.Stamps.{IsStampOf}

-- how a transaction has ended that was to apply commands to a book
abbrev pub EndsAs : {S : Type 0} → Ghosts S → Stored S → Book → List Command → End → Type 0
EndsAs g new b cs (end.Kept rs) = (rs.items ≡ replies rules b cs) × Keeps (state_of g new) (after rules b cs)
EndsAs g new b cs (end.Refused f) = Keeps (state_of g new) b
EndsAs g new b cs (end.Unknown f _) = LeavesEither (state_of g new) b (after rules b cs) × (IsUp g new → Keeps (state_of g new) b)

-- one that was committed has so many replies
abbrev pub HasReplies : ℕ → End → Type 0
HasReplies count (end.Kept rs) = length rs.items ≡ count
HasReplies count (end.Refused f) = Unit {0}
HasReplies count (end.Unknown f _) = Unit {0}

-- it wasn't
abbrev pub IsUnkept : End → Type 0
IsUnkept (end.Kept rs) = ⊥
IsUnkept (end.Refused f) = Unit {0}
IsUnkept (end.Unknown f _) = Unit {0}

---- Why nothing is kept

-- Commands can't be applied to a book: one of them can't be decided there, or makes a change that doesn't fit.
abbrev pub CantBeApplied : Book → List Command → Type 0
CantBeApplied b cs = IsStuckWithin rules b cs ⊎ IsUnfitWithin IsUnfit rules b cs

-- The change needs a number past the last one, of a text, of a run or of an event. Attempts end long before.
abbrev pub RunsOut : Book → Change → Type 0
RunsOut b (SetAttempt n event attempt ready) = ⊥
RunsOut b c = PassesLast b c

-- One of them would need such a number.
abbrev pub NumbersRunOut : Book → List Command → Type 0
NumbersRunOut b cs = IsUnfitWithin RunsOut rules b cs

-- Over a book such as commands make nothing else keeps commands from being applied.
abbrev pub OnlyNumbersRunOut : Type 0
OnlyNumbersRunOut = (b : Book) (cs : List Command) → IsWell b → CantBeApplied b cs → NumbersRunOut b cs

-- The connection is shut, or the store hindered what was done since the first state.
abbrev pub IsDown : {S : Type 0} → Ghosts S → Stored S → Stored S → Type 0
IsDown g first t = ((state_of g t).is_open ≡ false) ⊎ Refuses g first t

-- The store refused something of a transaction for this, and what it had begun was rolled back.
abbrev pub WasGivenUp : {S : Type 0} → Ghosts S → Stored S → Stored S → Type 0
WasGivenUp {S} g old new = (mid : Stored S) × Follows g old mid × IsDown g old mid × HasGoneBack g mid.held new.held

-- The store refused the commit, or the way back, with this. Where it is E80 the disk has failed once more since the beginning, or
-- the connection is shut.
abbrev pub WasCutOff : {S : Type 0} → Ghosts S → Stored S → Stored S → ViewFault → Type 0
WasCutOff {S} g old new f =
    (mid : Stored S) × Follows g old mid × (IsCutOff (codes "COMMIT") (state_of g mid) (state_of g new) f ⊎ IsCutOff (codes "ROLLBACK") (state_of g mid) (state_of g new) f)
    × (f ≡ fault.StoreRefused → HasFailed (state_of g old) (state_of g new))

-- a transaction that was to apply commands has these causes where it was given up for E80, and where nobody knows
abbrev pub EndsFor : Type 0 → (ViewFault → Type 0) → End → Type 0
EndsFor stopped unknown (end.Refused fault.StoreRefused) = stopped
EndsFor stopped unknown (end.Unknown f _) = unknown f
EndsFor stopped unknown _ = Unit {0}

-- behind so many commands, the last of a batch would have a place past the last number
abbrev pub HasNoRoom : ℕ → List Taken → Type 0
HasNoRoom kept batch = 2 ^ 63 ≤ kept + length batch

-- and a commit, over a book that is kept
abbrev pub IsFor : {S : Type 0} → Ghosts S → Keeping S → Keeping S → Book → List Taken → Outcome → Type 0
IsFor g old new b batch (outcomes.NotApplied back fault.StoreRefused) = HasNoRoom old.kept batch ⊎ (CantBeApplied b (commands_of batch) ⊎ WasGivenUp g old.stored new.stored)
IsFor g old new b batch (outcomes.Unknown back f) = WasCutOff g old.stored new.stored f
IsFor g old new b batch _ = Unit {0}

-- E80 of a commit in the words of what the keeper is before and behind, over the book that is read off the tables: the last place would
-- be past the last number, the batch can't be applied, or the connection is shut or the store hindered what was done.
abbrev pub IsRefusedFor : {S : Type 0} → Ghosts S → Keeping S → Keeping S → List Taken → Outcome → Type 0
IsRefusedFor g old new batch (outcomes.NotApplied back fault.StoreRefused) = HasNoRoom old.kept batch ⊎ (CantBeApplied (kept_book g old) (commands_of batch) ⊎ IsDown g old.stored new.stored)
IsRefusedFor g old new batch _ = Unit {0}

-- What holds from call to call: no failure of the disk is forgotten and the limit on the steps of a query stays, a connection that is
-- shut stays shut, no transaction is left running, behind a refusal neither, and each command that is kept is counted.
pub record HasGoneOn {S : Type 0} (g : Ghosts S) (old new : Keeping S) : Type 0 where
  pub since : Since (state_of g old.stored) (state_of g new.stored)
  pub up : IsUp g new.stored → IsUp g old.stored
  pub rest : (state_of g old.stored).in_transaction ≡ false → (state_of g new.stored).in_transaction ≡ false
  pub counts : old.kept ≤ new.kept

-- what a commit has done, by its outcome
abbrev pub HasCommitted : {S : Type 0} → Ghosts S → Keeping S → Keeping S → Book → List Taken → Outcome → Type 0
HasCommitted g old new b batch (outcomes.Kept receipts stamp) = (old.halted ≡ false) × (stamp.number ≡ new.kept) × HasKept g old new b batch receipts.items
HasCommitted g old new b batch (outcomes.NotApplied back f) = (old.halted ≡ false) × (back ≡ batch) × HasRefused g old new b
HasCommitted g old new b batch (outcomes.Unknown back f) = (old.halted ≡ false) × (back ≡ batch) × IsUnknown g old new b batch
HasCommitted g old new b batch (outcomes.Halted back) = (old.halted ≡ true) × (back ≡ batch) × (new ≡ old)

-- the submission that a receipt answers
abbrev pub taken_of : Receipt → Taken
taken_of r = record { ticket = r.ticket; command = r.command }

-- What the keeper notes of a batch, whatever the disk tells it: one that is kept is counted, has a receipt for each command, which
-- repeats its submission, and these receipts are what the log has more; its stamp names what is kept, and them. One that isn't kept
-- comes back, and the log is as before; behind one of which nobody knows the keeper has halted.
abbrev pub HasNoted : {S : Type 0} → Ghosts S → Keeping S → Keeping S → List Taken → Outcome → Type 0
HasNoted g old new batch (outcomes.Kept receipts stamp) =
    (new.halted ≡ false) × (new.kept ≡ old.kept + length batch) × (length receipts.items ≡ length batch) × (map taken_of receipts.items ≡ batch) × (new.log ≡ old.log ++ receipts.items) × IsStampOf (account_of g new) receipts.items stamp
HasNoted g old new batch (outcomes.NotApplied back f) = (new.halted ≡ false) × (new.kept ≡ old.kept) × (new.log ≡ old.log) × (back ≡ batch)
HasNoted g old new batch (outcomes.Unknown back f) = (new.halted ≡ true) × (new.kept ≡ old.kept) × (new.log ≡ old.log) × (back ≡ batch)
HasNoted g old new batch (outcomes.Halted back) = (new.halted ≡ true) × (new ≡ old) × (back ≡ batch)
