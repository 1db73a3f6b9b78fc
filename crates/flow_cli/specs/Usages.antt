-- How the program is called.
use Rattle.std.specs.Prelude.{ℕ, List, [], ◌∷◌, ◌++◌, codes, Option, Some, None}
use Rattle.flow_base.specs.Names.{first_named}
use Rattle.flow_cli.specs.declared.usage.CallName.{CallName}
use Rattle.flow_cli.specs.declared.usage.CallName.TheVariants as call

abbrev pub call_name : CallName → List ℕ
call_name call.Check = codes "check"
call_name call.Safe = codes "safe"
call_name call.Settle = codes "settle"
call_name call.Replay = codes "replay"
call_name call.Drive = codes "drive"
call_name call.Work = codes "work"
call_name call.Serve = codes "serve"
call_name call.History = codes "history"
call_name call.Open = codes "open"
call_name call.Verify = codes "verify"

abbrev pub calls : List CallName
calls = call.Check ∷ call.Safe ∷ call.Settle ∷ call.Replay ∷ call.Drive ∷ call.Work ∷ call.Serve ∷ call.History ∷ call.Open ∷ call.Verify ∷ []

-- the call that begins with this word
abbrev pub call_named : List ℕ → Option CallName
call_named = first_named call_name calls

-- the call that words are meant as, behind the program's own
abbrev pub meant_by : List (List ℕ) → Option CallName
meant_by [] = None
meant_by (own ∷ []) = None
meant_by (own ∷ (word ∷ words)) = call_named word

-- what stands behind the call's name
abbrev pub call_words : CallName → List ℕ
call_words call.Check = codes "FILE"
call_words call.Safe = codes "OLD NEW"
call_words call.Settle = codes "OLD NEW"
call_words call.Replay = codes "FILE HISTORY"
call_words call.Drive = codes "DB [--batch N] [--cache N]"
call_words call.Work = codes "DB [--settings FILE] [--leave-unknown]"
call_words call.Serve = codes "DB [--settings FILE]"
call_words call.History = codes "DB RUN"
call_words call.Open = codes "DB"
call_words call.Verify = codes "DB"

-- what its numbers may be, in a line below its own where it is shown alone
abbrev pub call_notes : CallName → List ℕ
call_notes call.Drive = codes "  --batch takes 1 to 64, --cache 1 to 4096" ++ (10 ∷ [])
call_notes call.History = codes "  RUN is a number, from 1 up" ++ (10 ∷ [])
call_notes c = []

-- a line for each of these calls
abbrev pub usage_lines : List CallName → List ℕ
usage_lines [] = []
usage_lines (c ∷ cs) = codes "  flow " ++ (call_name c ++ (codes " " ++ (call_words c ++ (10 ∷ usage_lines cs))))

-- of the call that was meant, and of all where none was
abbrev pub usage_text : Option CallName → List ℕ
usage_text (Some c) = usage_lines (c ∷ []) ++ call_notes c
usage_text None = usage_lines calls
