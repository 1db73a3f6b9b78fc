-- What the parts of a turn mean in the definitions.
use Rattle.std.specs.Prelude.{◌≡◌, List, [], ◌∷◌, ◌++◌, map}
use Rattle.flow_base.specs.Syntax.{activities_of}
use Rattle.flow_base.specs.Shown.{shown_declaration}
use Rattle.flow_values.specs.Named.{look_up}
use Rattle.flow_values.specs.Slots.{slot_of}
use Rattle.flow_model.specs.Rest as tree
use Rattle.flow_model.specs.Step as step
use Rattle.flow_model.specs.Turn as turn
use Rattle.flow_run.specs.declared.waits.OpenWait.{OpenWait}
use Rattle.flow_run.specs.declared.waits.OpenWait.TheVariants as wait
use Rattle.flow_run.specs.declared.setting.Setting.{Setting}
use Rattle.flow_run.specs.declared.setting.Answers.{Answers}
use Rattle.flow_run.specs.declared.setting.Answers.TheVariants.{Fresh, Recorded}
use Rattle.flow_run.specs.declared.store.Store.{Store}

abbrev pub shown_answers : Answers → turn.Answers
shown_answers Fresh = turn.Fresh
shown_answers (Recorded r) = turn.Recorded r.now

-- the open waits of a rest, from the left
abbrev pub waits_of : tree.Rest → List OpenWait
waits_of tree.Done = []
waits_of (tree.OnActivity n x k o) = wait.Activity n x k ∷ []
waits_of (tree.OnTimer n) = wait.Timer n ∷ []
waits_of (tree.OnSignal x s) = wait.Signal x s ∷ []
waits_of (tree.OnSignalFor x s n b) = wait.SignalFor x s n ∷ []
waits_of (tree.Raised c t) = []
waits_of (tree.Then r b) = waits_of r
waits_of (tree.Beside a b) = waits_of a ++ waits_of b

abbrev pub shown_store : Store → step.Store
shown_store s = record { variables = slot_of s.variables; buffer = s.buffer; decided = look_up s.decided; tests = s.tests }

abbrev pub shown_setting : Setting → step.Setting
shown_setting s =
    record {
      activities = activities_of (map shown_declaration s.declarations.now);
      at = s.at;
      is_first = s.is_first;
      waits = s.waits;
      event = s.event;
      answer = turn.answer_of (shown_answers s.answers) s.taken;
    }
