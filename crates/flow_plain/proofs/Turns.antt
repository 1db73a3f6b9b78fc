-- A turn from its parts.
use Rattle.std.proofs.Common.{◌≡◌, ℕ, ◌+◌, List, sym, ap, ◌∙◌, Some, Bool}
use Rattle.flow_base.specs.Syntax.{Program, ActivityType, activities_of}
use Rattle.flow_base.specs.declared.event.Cmd.{Cmd}
use Rattle.flow_base.specs.declared.event.Input.{Input}
use Rattle.flow_model.specs.Configuration.{Configuration}
use Rattle.flow_model.specs.Deliver.{Progress, deliver}
use Rattle.flow_model.specs.Turn.{Frame, Answers, Turn, frame, steps, left_by, is_started, answer_of}

pub turn_is : (p : Program) (answers : Answers) (old : Configuration) (at : ℕ) (i : Input) (start last : Progress) (f : Frame) (cmds : List Cmd) (new : Configuration) → f ≡ frame p old at i answers → deliver p old i ≡ Some start → (n : ℕ) × (steps n f start ≡ Some last) → cmds ≡ last.asked → new ≡ left_by f last → Turn p answers old at i cmds new
turn_is p answers old at i start last f cmds new e d r h k =
    record {
      start = start;
      delivered = d;
      count = r.0;
      last = last;
      runs = ap (λ (g : Frame). steps r.0 g start) (sym e) ∙ r.1;
      asks = h;
      leaves = k ∙ ap (λ (g : Frame). left_by g last) e;
    }

pub frame_is : (p : Program) (answers : Answers) (old : Configuration) (at : ℕ) (i : Input) (acts : List ActivityType) (b : Bool) → acts ≡ activities_of p.declarations → b ≡ is_started i → ◌≡◌ {A = Frame} (record { activities = acts; at = at; is_first = b; events = old.events + 1; answer = answer_of answers }) (frame p old at i answers)
frame_is p answers old at i acts b e h = λ x. record { activities = e x; at = at; is_first = h x; events = old.events + 1; answer = answer_of answers }
