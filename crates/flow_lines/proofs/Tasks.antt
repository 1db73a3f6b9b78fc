-- The bytes of a task's line.
use Rattle.std.proofs.Common.{◌≡◌, false, refl}
use Rattle.serde_json.specs.Written.{has_float, compact_text}
use Rattle.serde_json.proofs.OnLiterals.{serde_json_on_literals}
use Rattle.flow_base.proofs.Exact.{values_exact}
use Rattle.flow_base.specs.declared.task.Task.{Task}
use Rattle.flow_lines.specs.Tasks.{task_out, task_text}

pub task_plain : (t : Task) → has_float (task_out t) ≡ false
task_plain t = rw (values_exact.plain t.args) refl

pub task_bytes : (t : Task) → compact_text (task_out t) ≡ task_text t
unfolding serde_json_on_literals
task_bytes t = refl
