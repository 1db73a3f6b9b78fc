-- The book's definitions on worked rows, by computation.
use Rattle.std.proofs.Common.{◌≡◌, ℕ, List, [], ◌∷◌, ◌++◌, refl}
use Rattle.std.specs.Prelude.{codes, pos, Result, Ok, Err, bytes_eq, if◌then◌else◌}
use Rattle.flow_base.specs.Syntax.{Bytes, Number, Literal, Variable, Combine, Let, Call, Return, block_of, once, NoElse, Activity, Program}
use Rattle.flow_base.specs.declared.syntax.Binary.TheVariants.{Add}
use Rattle.flow_base.specs.declared.value.Value.{Value}
use Rattle.flow_base.specs.declared.value.Value.TheVariants.{Int, Text}
use Rattle.flow_base.specs.declared.value.Kind.TheVariants as kind
use Rattle.flow_base.specs.declared.event.Cmd.TheVariants as cmd
use Rattle.flow_base.specs.declared.event.Input.TheVariants as input
use Rattle.flow_base.specs.declared.event.State.TheVariants as state
use Rattle.flow_base.specs.declared.event.What.TheVariants.{Came, Asked}
use Rattle.flow_base.specs.declared.code.Code.TheVariants.{Unexpected, NoText, BadArguments, AlreadyOpen, NotOpen, OldAttempt, WrongType, NoRun}
use Rattle.flow_base.specs.declared.command.Command.{Command}
use Rattle.flow_base.specs.declared.command.Command.TheVariants as command
use Rattle.flow_base.specs.declared.command.TextFault.{TextFault}
use Rattle.flow_base.specs.declared.command.Reply.TheVariants as reply
use Rattle.flow_model.specs.Turned.{turned, position_from}
use Rattle.flow_model.specs.Book.{no_book}
use Rattle.flow_model.specs.Apply.{Rules, rules_of, outcome, register, start, complete, report_refusal, input_recorded, recorded, terminate, describe, history, after, replies}
use Rattle.flow_model.proofs.Commands.{start_of, complete_of}

-- workflow a(n: int) { activity c(int, text) -> int; let r = 0; r = call c(n, "eur"); return r + 1; }
abbrev A : Program
A =
    record {
      at = 0;
      name = codes "a";
      parameters = record { at = 0; name = codes "n"; kind = kind.Int } ∷ [];
      parameters_end = 0;
      declarations = Activity 0 0 (codes "c") (record { at = 0; kind = kind.Int } ∷ record { at = 0; kind = kind.Text } ∷ []) kind.Int ∷ [];
      body = block_of (
          Let 0 0 (codes "r") (Number 0 (pos 0))
          ∷ Call 0 (codes "r") 0 (codes "c") (Variable 0 (codes "n") ∷ Literal 0 (codes "eur") ∷ []) once NoElse
          ∷ Return 0 (Combine Add (Variable 0 (codes "r")) (Number 0 (pos 1))) ∷ []);
      body_end = 0;
    }

-- workflow e() {}
abbrev E : Program
E = record { at = 0; name = codes "e"; parameters = []; parameters_end = 0; declarations = []; body = block_of []; body_end = 0 }

abbrev library : Bytes → Result Program TextFault
library t =
    if bytes_eq t (codes "a") then Ok A else (if bytes_eq t (codes "e") then Ok E else Err (record { code = Unexpected; at = 0 }))

abbrev rules : Rules
rules = rules_of library

-- with room for three events
abbrev tight : Rules
tight = record { limit = 3; program_of = library }

abbrev int : ℕ → Value
int n = Int (pos n)

-- register a, start it with [7] at 1000
abbrev begun : List Command
begun = command.Register (codes "a") ∷ start_of (codes "q") (codes "f") 1 (int 7 ∷ []) 1000 ∷ []

abbrev reported : List Command
reported = begun ++ complete_of 1 2 1 (int 41) 1500 ∷ []

-- A run from its start to its result, and its history.
row_1 : replies rules no_book (reported ++ command.History 1 ∷ []) ≡ reply.Registered 1 ∷ reply.Started 1 ∷ reply.Recorded 1 3 ∷ reply.History (
    record { id = 1; at = 1000; what = Came (input.Started (int 7 ∷ [])) }
    ∷ record { id = 2; at = 1000; what = Asked (cmd.Schedule (codes "c") (int 7 ∷ Text (codes "eur") ∷ []) 1 0 kind.Int) }
    ∷ record { id = 3; at = 1500; what = Came (input.ActivityCompleted 2 (int 41)) }
    ∷ record { id = 4; at = 1500; what = Asked (cmd.Complete (int 42)) } ∷ []) ∷ []
unfolding outcome register start complete history report_refusal input_recorded recorded turned position_from
row_1 = refl

-- An empty program completes with the empty text.
row_2 : replies rules no_book (command.Register (codes "e") ∷ start_of (codes "q") (codes "f") 1 [] 0 ∷ command.History 1 ∷ []) ≡ reply.Registered 1 ∷ reply.Started 1 ∷ reply.History (
    record { id = 1; at = 0; what = Came (input.Started []) } ∷ record { id = 2; at = 0; what = Asked (cmd.Complete (Text [])) } ∷ []) ∷ []
unfolding outcome register start history turned
row_2 = refl

-- The same report again is refused, and changes nothing.
row_3 : replies rules (after rules no_book reported) (complete_of 1 2 1 (int 41) 1500 ∷ []) ≡ reply.Refused NotOpen ∷ []
unfolding outcome register start complete report_refusal input_recorded recorded turned position_from
row_3 = refl

row_3_book : after rules (after rules no_book reported) (complete_of 1 2 1 (int 41) 1500 ∷ []) ≡ after rules no_book reported
unfolding outcome register start complete report_refusal input_recorded recorded turned position_from
row_3_book = refl

-- A value of the wrong type, and an old attempt, which is told before it.
row_4 : replies rules (after rules no_book begun) (complete_of 1 2 1 (Text (codes "41")) 1500 ∷ complete_of 1 2 2 (Text (codes "41")) 1500 ∷ [])
    ≡ reply.Refused WrongType ∷ reply.Refused OldAttempt ∷ []
unfolding outcome register start complete report_refusal input_recorded recorded turned position_from
row_4 = refl

-- A sum that leaves 64 bits fails the run.
row_5 : replies rules (after rules no_book begun) (complete_of 1 2 1 (int 9223372036854775807) 1500 ∷ command.Describe 1 ∷ [])
    ≡ reply.Recorded 1 3 ∷ reply.Run (record { flow = codes "f"; text = 1; state = state.Failed; events = 4; activities = []; timers = [] }) ∷ []
unfolding outcome register start complete describe report_refusal input_recorded recorded turned position_from
row_5 = refl

-- The refusals of a start in their order, and a request and a text that are known.
starts : replies rules no_book (
    start_of (codes "q") (codes "f") 1 [] 0 ∷ begun ++ command.Register (codes "a") ∷ command.Register (codes "b")
    ∷ start_of (codes "q") (codes "g") 9 [] 0 ∷ start_of (codes "r") (codes "f") 9 [] 0
    ∷ start_of (codes "r") (codes "f") 1 [] 0 ∷ start_of (codes "r") (codes "f") 1 (int 7 ∷ []) 0 ∷ command.Describe 2 ∷ [])
    ≡ reply.Refused NoText ∷ reply.Registered 1 ∷ reply.Started 1 ∷ reply.Registered 1 ∷ reply.BadText (record { code = Unexpected; at = 0 })
    ∷ reply.Duplicate 1 ∷ reply.Refused NoText ∷ reply.Refused BadArguments ∷ reply.Refused AlreadyOpen ∷ reply.Refused NoRun ∷ []
unfolding outcome register start describe turned
starts = refl

-- A turn that would pass the limit is not recorded: the run is terminated, and that is told.
full_history : replies tight no_book (reported ++ command.History 1 ∷ []) ≡ reply.Registered 1 ∷ reply.Started 1 ∷ reply.Full 1 3 ∷ reply.History (
    record { id = 1; at = 1000; what = Came (input.Started (int 7 ∷ [])) }
    ∷ record { id = 2; at = 1000; what = Asked (cmd.Schedule (codes "c") (int 7 ∷ Text (codes "eur") ∷ []) 1 0 kind.Int) }
    ∷ record { id = 3; at = 1500; what = Came (input.Terminated (codes "history limit")) } ∷ []) ∷ []
unfolding outcome register start complete history report_refusal input_recorded recorded turned position_from
full_history = refl

-- with room for two events
abbrev full : Rules
full = record { limit = 2; program_of = library }

-- An open run is terminated, not before its last event. A full history takes the reason too, in the place of the text that would
-- close it.
terminated_run : replies full no_book (begun ++ command.Terminate 1 (codes "why") 900 ∷ command.History 1 ∷ []) ≡ reply.Registered 1 ∷ reply.Started 1 ∷ reply.Recorded 1 3 ∷ reply.History (
    record { id = 1; at = 1000; what = Came (input.Started (int 7 ∷ [])) }
    ∷ record { id = 2; at = 1000; what = Asked (cmd.Schedule (codes "c") (int 7 ∷ Text (codes "eur") ∷ []) 1 0 kind.Int) }
    ∷ record { id = 3; at = 1000; what = Came (input.Terminated (codes "why")) } ∷ []) ∷ []
unfolding outcome register start terminate history turned
terminated_run = refl

-- Its activity is open no more, and it is terminated once. A run that isn't there is told as such.
terminated_once : replies rules (after rules no_book begun) (
    command.Terminate 1 (codes "why") 1500 ∷ command.Describe 1 ∷ complete_of 1 2 1 (int 41) 1500 ∷ command.Terminate 1 (codes "again") 1500
    ∷ command.Terminate 2 [] 1500 ∷ [])
    ≡ reply.Recorded 1 3 ∷ reply.Run (record { flow = codes "f"; text = 1; state = state.Terminated; events = 3; activities = []; timers = [] })
    ∷ reply.Refused NotOpen ∷ reply.Refused NotOpen ∷ reply.Refused NoRun ∷ []
unfolding outcome register start complete terminate describe report_refusal turned
terminated_once = refl
