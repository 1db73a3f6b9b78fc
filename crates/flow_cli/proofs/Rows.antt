-- What clap's getters give, in its rows; and words that are written out.
use Rattle.std.proofs.Common.{◌≡◌, [], ◌∷◌, codes, Some, None, true, false, refl}
use Rattle.clap.proofs.OnLiterals.{clap_on_literals}
use Rattle.clap.proofs.WalkLemmas.{first_value-rows}
use Rattle.clap.specs.Words.{Text, fault_of, first_of, first_value, rows_of}
use Rattle.clap.specs.declared.error.kind.ErrorKind.TheVariants as kind
use Rattle.clap.specs.declared.parser.matches.Found.{Found}
use Rattle.flow_cli.specs.Calls.{flow, call_in, Check, Safe, Settle, Replay, Drive, History, Open, Verify, Work, Serve}

pub first_in_rows : (f : Found) (id : Text) → first_value f id ≡ first_of id (rows_of f)
first_in_rows f id = first_value-rows f id

check_is_taken : fault_of flow (codes "flow" ∷ codes "check" ∷ codes "a" ∷ []) ≡ []
unfolding clap_on_literals
check_is_taken = refl

check_says : call_in (codes "flow" ∷ codes "check" ∷ codes "a" ∷ []) ≡ Some (Check (codes "a"))
unfolding clap_on_literals
check_says = refl

drive_is_taken : fault_of flow (codes "flow" ∷ codes "drive" ∷ codes "-" ∷ []) ≡ []
unfolding clap_on_literals
drive_is_taken = refl

drive_says : call_in (codes "flow" ∷ codes "drive" ∷ codes "-" ∷ []) ≡ Some (Drive (codes "-") 1 256)
unfolding clap_on_literals
drive_says = refl

batch_is_taken : fault_of flow (codes "flow" ∷ codes "drive" ∷ codes "-" ∷ codes "--batch" ∷ codes "64" ∷ []) ≡ []
unfolding clap_on_literals
batch_is_taken = refl

batch_says : call_in (codes "flow" ∷ codes "drive" ∷ codes "-" ∷ codes "--batch" ∷ codes "64" ∷ []) ≡ Some (Drive (codes "-") 64 256)
unfolding clap_on_literals
batch_says = refl

batch_before : call_in (codes "flow" ∷ codes "drive" ∷ codes "--batch=3" ∷ codes "-" ∷ []) ≡ Some (Drive (codes "-") 3 256)
unfolding clap_on_literals
batch_before = refl

no_batch_of_0 : call_in (codes "flow" ∷ codes "drive" ∷ codes "-" ∷ codes "--batch" ∷ codes "0" ∷ []) ≡ None
unfolding clap_on_literals
no_batch_of_0 = refl

no_batch_of_65 : call_in (codes "flow" ∷ codes "drive" ∷ codes "-" ∷ codes "--batch" ∷ codes "65" ∷ []) ≡ None
unfolding clap_on_literals
no_batch_of_65 = refl

cache_is_taken : fault_of flow (codes "flow" ∷ codes "drive" ∷ codes "-" ∷ codes "--cache" ∷ codes "4096" ∷ []) ≡ []
unfolding clap_on_literals
cache_is_taken = refl

cache_says : call_in (codes "flow" ∷ codes "drive" ∷ codes "-" ∷ codes "--cache" ∷ codes "4096" ∷ []) ≡ Some (Drive (codes "-") 1 4096)
unfolding clap_on_literals
cache_says = refl

cache_behind_batch : call_in (codes "flow" ∷ codes "drive" ∷ codes "--batch=3" ∷ codes "--cache=1" ∷ codes "-" ∷ []) ≡ Some (Drive (codes "-") 3 1)
unfolding clap_on_literals
cache_behind_batch = refl

no_cache_of_0 : call_in (codes "flow" ∷ codes "drive" ∷ codes "-" ∷ codes "--cache" ∷ codes "0" ∷ []) ≡ None
unfolding clap_on_literals
no_cache_of_0 = refl

no_cache_of_4097 : call_in (codes "flow" ∷ codes "drive" ∷ codes "-" ∷ codes "--cache" ∷ codes "4097" ∷ []) ≡ None
unfolding clap_on_literals
no_cache_of_4097 = refl

history_is_taken : fault_of flow (codes "flow" ∷ codes "history" ∷ codes "a" ∷ codes "12" ∷ []) ≡ []
unfolding clap_on_literals
history_is_taken = refl

history_says : call_in (codes "flow" ∷ codes "history" ∷ codes "a" ∷ codes "12" ∷ []) ≡ Some (History (codes "a") 12)
unfolding clap_on_literals
history_says = refl

safe_is_taken : fault_of flow (codes "flow" ∷ codes "safe" ∷ codes "a" ∷ codes "b" ∷ []) ≡ []
unfolding clap_on_literals
safe_is_taken = refl

safe_says : call_in (codes "flow" ∷ codes "safe" ∷ codes "a" ∷ codes "b" ∷ []) ≡ Some (Safe (codes "a") (codes "b"))
unfolding clap_on_literals
safe_says = refl

settle_is_taken : fault_of flow (codes "flow" ∷ codes "settle" ∷ codes "a" ∷ codes "b" ∷ []) ≡ []
unfolding clap_on_literals
settle_is_taken = refl

settle_says : call_in (codes "flow" ∷ codes "settle" ∷ codes "a" ∷ codes "b" ∷ []) ≡ Some (Settle (codes "a") (codes "b"))
unfolding clap_on_literals
settle_says = refl

replay_is_taken : fault_of flow (codes "flow" ∷ codes "replay" ∷ codes "a" ∷ codes "-" ∷ []) ≡ []
unfolding clap_on_literals
replay_is_taken = refl

replay_says : call_in (codes "flow" ∷ codes "replay" ∷ codes "a" ∷ codes "-" ∷ []) ≡ Some (Replay (codes "a") (codes "-"))
unfolding clap_on_literals
replay_says = refl

open_is_taken : fault_of flow (codes "flow" ∷ codes "open" ∷ codes "a" ∷ []) ≡ []
unfolding clap_on_literals
open_is_taken = refl

open_says : call_in (codes "flow" ∷ codes "open" ∷ codes "a" ∷ []) ≡ Some (Open (codes "a"))
unfolding clap_on_literals
open_says = refl

verify_is_taken : fault_of flow (codes "flow" ∷ codes "verify" ∷ codes "a" ∷ []) ≡ []
unfolding clap_on_literals
verify_is_taken = refl

verify_says : call_in (codes "flow" ∷ codes "verify" ∷ codes "a" ∷ []) ≡ Some (Verify (codes "a"))
unfolding clap_on_literals
verify_says = refl

run_none : call_in (codes "flow" ∷ codes "history" ∷ codes "a" ∷ codes "0" ∷ []) ≡ None
unfolding clap_on_literals
run_none = refl

help_is_refused : fault_of flow (codes "flow" ∷ codes "--help" ∷ []) ≡ kind.DisplayHelp ∷ []
unfolding clap_on_literals
help_is_refused = refl

no_subcommand : fault_of flow (codes "flow" ∷ []) ≡ kind.MissingSubcommand ∷ []
unfolding clap_on_literals
no_subcommand = refl

work_is_taken : fault_of flow (codes "flow" ∷ codes "work" ∷ codes "a" ∷ codes "--settings" ∷ codes "s" ∷ []) ≡ []
unfolding clap_on_literals
work_is_taken = refl

work_says : call_in (codes "flow" ∷ codes "work" ∷ codes "a" ∷ codes "--settings" ∷ codes "s" ∷ []) ≡ Some (Work (codes "a") (Some (codes "s")) false)
unfolding clap_on_literals
work_says = refl

work_without : call_in (codes "flow" ∷ codes "work" ∷ codes "a" ∷ []) ≡ Some (Work (codes "a") None false)
unfolding clap_on_literals
work_without = refl

work_is_free : fault_of flow (codes "flow" ∷ codes "work" ∷ codes "a" ∷ []) ≡ []
unfolding clap_on_literals
work_is_free = refl

leave_is_taken : fault_of flow (codes "flow" ∷ codes "work" ∷ codes "--leave-unknown" ∷ codes "a" ∷ []) ≡ []
unfolding clap_on_literals
leave_is_taken = refl

leave_says : call_in (codes "flow" ∷ codes "work" ∷ codes "--leave-unknown" ∷ codes "a" ∷ []) ≡ Some (Work (codes "a") None true)
unfolding clap_on_literals
leave_says = refl

serve_is_taken : fault_of flow (codes "flow" ∷ codes "serve" ∷ codes "a" ∷ codes "--settings" ∷ codes "s" ∷ []) ≡ []
unfolding clap_on_literals
serve_is_taken = refl

serve_says : call_in (codes "flow" ∷ codes "serve" ∷ codes "a" ∷ codes "--settings" ∷ codes "s" ∷ []) ≡ Some (Serve (codes "a") (Some (codes "s")))
unfolding clap_on_literals
serve_says = refl
