-- Lines of tasks: what is to be done outside, and for which attempt.
use Rattle.std.specs.Prelude.{List, ℕ, ◌++◌, codes, decimal}
use Rattle.serde_json.specs.Data.{Data, object, array, string, member, no_members}
use Rattle.serde_json.specs.Written.{compact_text}
use Rattle.json.specs.Print.{quoted}
use Rattle.flow_base.specs.Leaves.{list_out}
use Rattle.flow_base.specs.declared.task.Task.{Task}
use Rattle.flow_lines.specs.Replies.{whole_out}

-- its keys in byte order
abbrev pub task_out : Task → Data
task_out t = object (
    member (codes "activity") (string t.activity) (
    member (codes "args") (array (list_out t.args)) (
    member (codes "attempt") (whole_out t.attempt) (
    member (codes "event") (whole_out t.event) (
    member (codes "flow") (string t.flow) (
    member (codes "reply") (string (codes "task")) (
    member (codes "run") (whole_out t.run) no_members)))))))

-- the same, byte for byte; `quoted` is a JSON string
abbrev pub task_text : Task → List ℕ
task_text t =
    codes "{\"activity\":" ++ (quoted t.activity
    ++ (codes ",\"args\":" ++ (compact_text (array (list_out t.args))
    ++ (codes ",\"attempt\":" ++ (decimal t.attempt
    ++ (codes ",\"event\":" ++ (decimal t.event
    ++ (codes ",\"flow\":" ++ (quoted t.flow
    ++ (codes ",\"reply\":\"task\",\"run\":" ++ (decimal t.run ++ codes "}")))))))))))
