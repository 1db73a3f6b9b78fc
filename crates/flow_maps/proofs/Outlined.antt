-- What is known of an open run is how it stands.
use Rattle.flow_maps.proofs.Names.{true, false, refl, sym, ap, ◌∙◌, List, [], Run, Timer, State, head_of, Head, IsSeat, Seat}
use Rattle.std.specs.Prelude.{◌≡◌, if◌then◌else◌}
use Rattle.flow_base.specs.declared.event.State.TheVariants.{Unbegun, Open, Completed, Failed, Continued, Terminated}
use Rattle.flow_model.specs.Configuration.{is_open}
use Rattle.flow_model.specs.Open.{open_timers, state_of, timers_left}
use Rattle.flow_view.specs.Outlines.{outline_of}
use Rattle.flow_view.specs.declared.outline.Outline.{Outline}

never : false ≡ true → ⊥
never is = let same = is in cc

-- an open state is one state
open_state : (s : State) → is_open s ≡ true → s ≡ Open
open_state Open is = refl
open_state Unbegun is = absurd (never is)
open_state Completed is = absurd (never is)
open_state Failed is = absurd (never is)
open_state Continued is = absurd (never is)
open_state Terminated is = absurd (never is)

abbrev pub made : Head → State → List Timer → Outline
made h q ts = record { head = h; state = q; timers = ts }

pub seat_stands : (s : Seat) (r : Run) → IsSeat s r → s.head.is_open ≡ true → made s.head Open s.timers ≡ outline_of r
seat_stands s r h opened =
    let now : is_open (state_of r.history) ≡ true = ap (λ (x : Head). x.is_open) h.head ∙ opened in
    let state : Open ≡ state_of r.history = sym (open_state (state_of r.history) now) in
    let left : open_timers r.history ≡ timers_left r.history = sym (ap (λ q. if q then open_timers r.history else []) now) in
    ap (λ (x : Head). made x Open s.timers) (sym h.head) ∙ ap (λ (q : State). made (head_of r) q s.timers) state ∙ ap (λ (ts : List Timer). made (head_of r) (state_of r.history) ts) (sym h.timers ∙ left)
