-- Logs: commands one after the other. Where a list of them is cut changes no book and no reply.
use Rattle.std.specs.Prelude.{◌≡◌, ◌+◌, ℕ, List, [], ◌∷◌, ◌++◌, length, map, Some}
use Rattle.flow_base.specs.declared.command.Command.{Command}
use Rattle.flow_base.specs.declared.command.Reply.{Reply}
use Rattle.flow_model.specs.Book.{Book, nth}
use Rattle.flow_model.specs.Apply.{Rules, outcome, after_one, after, replies}

abbrev pub AfterCut : Type 0
AfterCut = (u : Rules) (b : Book) (l m : List Command) → after u b (l ++ m) ≡ after u (after u b l) m

abbrev pub RepliesCut : Type 0
RepliesCut = (u : Rules) (b : Book) (l m : List Command) → replies u b (l ++ m) ≡ replies u b l ++ replies u (after u b l) m

-- One more command leads to the book that it makes of the one before it.
abbrev pub AfterOneMore : Type 0
AfterOneMore = (u : Rules) (b : Book) (l : List Command) (c : Command) → after u b (l ++ c ∷ []) ≡ after_one u (after u b l) c

-- Each command is answered, and the next one gets the reply that it has over the book before it.
abbrev pub RepliesInOrder : Type 0
RepliesInOrder =
    (u : Rules) (b : Book) (l : List Command) (c : Command) → nth (replies u b (l ++ c ∷ [])) (length l + 1) ≡ Some (outcome u (after u b l) c).reply

-- The log of several lives. The most events of a history may be another number in each of them, so a command stands there with that of its life.

pub record Entry : Type 0 where
  pub limit : ℕ
  pub command : Command

-- these rules under a limit
abbrev pub limited : Rules → ℕ → Rules
limited u n = record u { limit = n }

abbrev pub entry : ℕ → Command → Entry
entry n c = record { limit = n; command = c }

-- commands as they stand in the log of a life with this limit
abbrev pub entered : ℕ → List Command → List Entry
entered n cs = map (entry n) cs

abbrev pub its_command : Entry → Command
its_command e = e.command

-- the commands of a log
abbrev pub commands_in : List Entry → List Command
commands_in es = map its_command es

abbrev pub after_entry : Rules → Book → Entry → Book
after_entry u b e = after_one (limited u e.limit) b e.command

abbrev pub entry_reply : Rules → Book → Entry → Reply
entry_reply u b e = (outcome (limited u e.limit) b e.command).reply

-- The book after a log, each command under its own limit.
abbrev pub after_log : Rules → Book → List Entry → Book
after_log u b [] = b
after_log u b (e ∷ es) = after_log u (after_entry u b e) es

-- What they are answered, in their order.
abbrev pub log_replies : Rules → Book → List Entry → List Reply
log_replies u b [] = []
log_replies u b (e ∷ es) = entry_reply u b e ∷ log_replies u (after_entry u b e) es

-- Where all lives have one limit, a log is a list of commands under it.
abbrev pub AfterOneLimit : Type 0
AfterOneLimit = (u : Rules) (n : ℕ) (b : Book) (cs : List Command) → after_log u b (entered n cs) ≡ after (limited u n) b cs

abbrev pub RepliesOneLimit : Type 0
RepliesOneLimit = (u : Rules) (n : ℕ) (b : Book) (cs : List Command) → log_replies u b (entered n cs) ≡ replies (limited u n) b cs

abbrev pub AfterLogCut : Type 0
AfterLogCut = (u : Rules) (b : Book) (l m : List Entry) → after_log u b (l ++ m) ≡ after_log u (after_log u b l) m

abbrev pub LogRepliesCut : Type 0
LogRepliesCut = (u : Rules) (b : Book) (l m : List Entry) → log_replies u b (l ++ m) ≡ log_replies u b l ++ log_replies u (after_log u b l) m
