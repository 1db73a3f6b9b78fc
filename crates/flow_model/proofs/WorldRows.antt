-- The world on short ways, by computation: over any rules, any book and any commands.
use Rattle.std.proofs.Common.{◌≡◌, ℕ, zero, suc, [], ◌∷◌, refl, sym, arith, inl, inr}
use Rattle.std.specs.Prelude.{◌≢◌, Contains}
use Rattle.flow_base.specs.declared.value.Value.{Value}
use Rattle.flow_base.specs.declared.command.Command.{Command}
use Rattle.flow_model.specs.Book.{Book}
use Rattle.flow_model.specs.Apply.{Rules, outcome, after_one}
use Rattle.flow_model.specs.Logs.{entry, limited}
use Rattle.flow_model.specs.World.{Attempt, Idle, Writing, Committing, Halted, World, first, Submit, Report, Failure, Take, Write, WriteFails, CommitBegins, CommitDone, CommitFails, RefusedRollback, Publish, Dispatch, Crash, Reopen, Migrate, submitted, taken, rolled_back, commit_begun, commit_done, commit_failed, not_rolled_back, published_in, stopped, opened, migrated, Comes}

-- a command that is committed and published has its reply at place 1
committed : Rules → ℕ → Book → Command → World
committed u n base c =
    record (first n base) {
      log = entry n c ∷ [];
      may = after_one (limited u n) base c ∷ [];
      published = 1;
      receipts = record { opening = 0; place = 1; command = c; reply = (outcome (limited u n) base c).reply } ∷ [];
    }

commits : (u : Rules) (n : ℕ) (base : Book) (c : Command) → Comes u (first n base) (Submit c ∷ Take 1 ∷ Write ∷ CommitBegins ∷ CommitDone ∷ Publish ∷ []) (committed u n base c)
unfolding committed
commits u n base c =
    let w1 = submitted (first n base) Idle c in
    let w2 = taken w1 Idle 1 in
    let w3 = commit_begun u w2 Writing in
    let w4 = commit_done u w3 Committing in
    let w5 = published_in u w4 Idle in
    (w1, (refl, (w2, (refl, (w2, (refl, (w3, (refl, (w4, (refl, (w5, (refl, refl))))))))))))

-- a write that fails leaves no command and no receipt
forgets : (u : Rules) (n : ℕ) (base : Book) (c : Command) → Comes u (first n base) (Submit c ∷ Take 1 ∷ Write ∷ WriteFails ∷ Publish ∷ []) (first n base)
forgets u n base c =
    let w1 = submitted (first n base) Idle c in
    let w2 = taken w1 Idle 1 in
    let w3 = rolled_back w2 Writing in
    (w1, (refl, (w2, (refl, (w2, (refl, (w3, (refl, (published_in u w3 Idle, (refl, refl))))))))))

-- after a failed commit either book may be left, and nothing more is taken
halted : Rules → ℕ → Book → Command → Command → World
halted u n base c d =
    record (first n base) { inbox = d ∷ []; batch = entry n c ∷ []; may = base ∷ after_one (limited u n) base c ∷ []; stage = Halted }

halts : (u : Rules) (n : ℕ) (base : Book) (c d : Command) → Comes u (first n base) (Submit c ∷ Submit d ∷ Take 1 ∷ CommitBegins ∷ CommitFails ∷ Take 1 ∷ Publish ∷ []) (halted u n base c d)
unfolding halted
halts u n base c d =
    let w1 = submitted (first n base) Idle c in
    let w2 = submitted w1 Idle d in
    let w3 = taken w2 Idle 1 in
    let w4 = commit_begun u w3 Writing in
    let w5 = commit_failed w4 Committing in
    (w1, (refl, (w2, (refl, (w3, (refl, (w4, (refl, (w5, (refl, (w5, (refl, (published_in u w5 Halted, (refl, refl))))))))))))))

-- a stop in a commit that left the old book: the log is as it was
old_book_found : (u : Rules) (n : ℕ) (base : Book) (c : Command) → Comes u (first n base) (Submit c ∷ Take 1 ∷ CommitBegins ∷ Crash base ∷ Reopen ∷ []) (first n base)
old_book_found u n base c =
    let w1 = submitted (first n base) Idle c in
    let w2 = taken w1 Idle 1 in
    let w3 = commit_begun u w2 Writing in
    let w4 = stopped w3 base in
    (w1, (refl, (w2, (refl, (w3, (refl, (w4, (((0, omega arith, refl), refl), (first n base, (inl ((0, omega arith, refl), refl), refl))))))))))

-- a stop in a commit that left the new book: the batch has joined the log, a life begins behind it, and the command of this
-- life is at place 1
reopened : Rules → ℕ → Book → Command → Command → World
reopened u n base c d =
    record (first n base) {
      log = entry n c ∷ entry n d ∷ [];
      may = after_one (limited u n) (after_one (limited u n) base c) d ∷ [];
      opening = 1;
      published = 2;
      receipts = record { opening = 1; place = 1; command = d; reply = (outcome (limited u n) (after_one (limited u n) base c) d).reply } ∷ [];
    }

not_found : (u : Rules) (base : Book) (c : Command) → base ≢ after_one u base c → Contains (after_one u base c ∷ []) base → ⊥
not_found u base c other (zero, k, e) = other (sym e)
not_found u base c other (suc i, k, e) = absurd (omega (arith, k))

new_book_found : (u : Rules) (n : ℕ) (base : Book) (c d : Command) → base ≢ after_one (limited u n) base c
    → Comes u (first n base) (Submit c ∷ Take 1 ∷ CommitBegins ∷ Crash (after_one (limited u n) base c) ∷ Reopen ∷ Submit d ∷ Take 1 ∷ CommitBegins ∷ CommitDone ∷ Publish ∷ []) (reopened u n base c d)
unfolding reopened
new_book_found u n base c d other =
    let w1 = submitted (first n base) Idle c in
    let w2 = taken w1 Idle 1 in
    let w3 = commit_begun u w2 Writing in
    let w4 = stopped w3 (after_one (limited u n) base c) in
    let w5 = opened w4 (entry n c ∷ []) in
    let w6 = submitted w5 Idle d in
    let w7 = taken w6 Idle 1 in
    let w8 = commit_begun u w7 Writing in
    let w9 = commit_done u w8 Committing in
    (w1, (refl, (w2, (refl, (w3, (refl, (w4, (((1, omega arith, refl), refl), (w5, (inr (not_found (limited u n) base c other, refl), (w6, (refl, (w7, (refl, (w8, (refl, (w9, (refl, (published_in u w9 Idle, (refl, refl))))))))))))))))))))

---- Batches of more than one

-- two commands that are committed at once have their replies at the places 1 and 2, the second over the book after the first
both_committed : Rules → ℕ → Book → Command → Command → World
both_committed u n base c d =
    record (first n base) {
      log = entry n c ∷ entry n d ∷ [];
      may = after_one (limited u n) (after_one (limited u n) base c) d ∷ [];
      published = 2;
      receipts =
          record { opening = 0; place = 1; command = c; reply = (outcome (limited u n) base c).reply }
          ∷ record { opening = 0; place = 2; command = d; reply = (outcome (limited u n) (after_one (limited u n) base c) d).reply } ∷ [];
    }

commits_both : (u : Rules) (n : ℕ) (base : Book) (c d : Command) → Comes u (first n base) (Submit c ∷ Submit d ∷ Take 2 ∷ CommitBegins ∷ CommitDone ∷ Publish ∷ []) (both_committed u n base c d)
unfolding both_committed
commits_both u n base c d =
    let w1 = submitted (first n base) Idle c in
    let w2 = submitted w1 Idle d in
    let w3 = taken w2 Idle 2 in
    let w4 = commit_begun u w3 Writing in
    let w5 = commit_done u w4 Committing in
    (w1, (refl, (w2, (refl, (w3, (refl, (w4, (refl, (w5, (refl, (published_in u w5 Idle, (refl, refl))))))))))))

-- a stop in their commit leaves the book before both or the book behind both, and none between
both_or_none : (u : Rules) (n : ℕ) (base : Book) (c d : Command) → (commit_begun u (taken (submitted (submitted (first n base) Idle c) Idle d) Idle 2) Writing).may ≡ base ∷ after_one (limited u n) (after_one (limited u n) base c) d ∷ []
both_or_none u n base c d = refl

-- none, more than there are, or more than 64 are no batch
takes_none : (u : Rules) (n : ℕ) (base : Book) (c : Command) → Comes u (first n base) (Submit c ∷ Take 0 ∷ Take 2 ∷ Take 65 ∷ []) (submitted (first n base) Idle c)
takes_none u n base c = let w = submitted (first n base) Idle c in (w, (refl, (w, (refl, (w, (refl, (w, (refl, refl))))))))

---- Steps out of place

-- without a batch nothing is written, rolled back or committed, and what wasn't stopped isn't opened
not_without_batch : (u : Rules) (n : ℕ) (base : Book) → Comes u (first n base) (Write ∷ WriteFails ∷ RefusedRollback ∷ CommitBegins ∷ CommitDone ∷ CommitFails ∷ Reopen ∷ []) (first n base)
not_without_batch u n base = let w = first n base in (w, (refl, (w, (refl, (w, (refl, (w, (refl, (w, (refl, (w, (refl, (w, (refl, refl))))))))))))))

-- a begun commit isn't rolled back or begun again, and nothing is taken beside it
not_while_committing : (u : Rules) (n : ℕ) (base : Book) (c : Command)
    → (let w = commit_begun u (taken (submitted (first n base) Idle c) Idle 1) Writing in Comes u w (Write ∷ WriteFails ∷ RefusedRollback ∷ CommitBegins ∷ Take 1 ∷ Reopen ∷ Migrate ∷ []) w)
not_while_committing u n base c =
    let w = commit_begun u (taken (submitted (first n base) Idle c) Idle 1) Writing in
    (w, (refl, (w, (refl, (w, (refl, (w, (refl, (w, (refl, (w, (refl, (w, (refl, refl))))))))))))))

-- a rolling back that was refused halts, and nothing is taken, written or committed any more
refused_halts : (u : Rules) (n : ℕ) (base : Book) (c : Command)
    → (let w = not_rolled_back (taken (submitted (first n base) Idle c) Idle 1) Writing in
    Comes u (first n base) (Submit c ∷ Take 1 ∷ RefusedRollback ∷ Write ∷ WriteFails ∷ RefusedRollback ∷ CommitBegins ∷ CommitDone ∷ CommitFails ∷ Take 1 ∷ Reopen ∷ Migrate ∷ []) w)
refused_halts u n base c =
    let w1 = submitted (first n base) Idle c in
    let w2 = taken w1 Idle 1 in
    let w = not_rolled_back w2 Writing in
    (w1, (refl, (w2, (refl, (w, (refl, (w, (refl, (w, (refl, (w, (refl, (w, (refl, (w, (refl, (w, (refl, (w, (refl, (w, (refl, (w, (refl, refl))))))))))))))))))))))))

-- after a stop nothing happens but a stop or an opening
not_after_crash : (u : Rules) (n : ℕ) (base : Book) (c : Command) (v : Value) (a : Attempt)
    → (let w = stopped (submitted (first n base) Idle c) base in
    Comes u w (Submit c ∷ Report 0 v 1 ∷ Failure 0 [] 1 ∷ Take 1 ∷ Write ∷ WriteFails ∷ RefusedRollback ∷ CommitBegins ∷ CommitDone ∷ CommitFails ∷ Publish ∷ Dispatch a ∷ Migrate ∷ []) w)
not_after_crash u n base c v a =
    let w = stopped (submitted (first n base) Idle c) base in
    (w, (refl, (w, (refl, (w, (refl, (w, (refl, (w, (refl, (w, (refl, (w, (refl, (w, (refl, (w, (refl, (w, (refl, (w, (refl, (w, (refl, (w, (refl, refl))))))))))))))))))))))))))

---- The move of a store

-- A command before it stands in the log with the limit of its life, one behind it with that of the rules; the book, the log and what
-- a stop may leave are as they were.
abbrev kept : Rules → ℕ → Book → Command → World
kept u n base c = record (first n base) { log = entry n c ∷ []; may = after_one (limited u n) base c ∷ []; opening = 1; published = 1 }

moves : (u : Rules) (n : ℕ) (base : Book) (c d : Command)
    → (let moved = record (kept u n base c) { limit = u.limit } in
    Comes u (kept u n base c) (Migrate ∷ Submit d ∷ Take 1 ∷ CommitBegins ∷ CommitDone ∷ [])
    (record moved { log = entry n c ∷ entry u.limit d ∷ []; may = after_one u (after_one (limited u n) base c) d ∷ [] }))
moves u n base c d =
    let w1 = migrated u (kept u n base c) Idle in
    let w2 = submitted w1 Idle d in
    let w3 = taken w2 Idle 1 in
    let w4 = commit_begun u w3 Writing in
    let w5 = commit_done u w4 Committing in
    (w1, (refl, (w2, (refl, (w3, (refl, (w4, (refl, (w5, (refl, refl))))))))))

-- behind its first commit a life moves no store
moves_no_more : (u : Rules) (n : ℕ) (base : Book) (c : Command) → (let w = record (kept u n base c) { opening = 0 } in Comes u w (Migrate ∷ []) w)
moves_no_more u n base c = (record (kept u n base c) { opening = 0 }, (refl, refl))
