-- A run that isn't damaged can be held by its types, and is the one that its rows tell.
use Rattle.std.proofs.Common.{◌≡◌, ℕ, ◌+◌, ◌≤◌, ℤ, pos, List, [], ◌∷◌, ◌++◌, length, map, true, not, ◌&&◌, if◌then◌else◌, Some, None, sym, ap, ◌∙◌, subst, arith}
use Rattle.std.specs.Prelude.{nat_le}
use Rattle.std.specs.List.{AllByRecursion, list_any}
use Rattle.std.specs.Ordering.{int_eq}
use Rattle.flow_base.specs.declared.book.OpenActivity.{OpenActivity}
use Rattle.flow_base.specs.declared.event.Event.{Event}
use Rattle.flow_base.specs.declared.fault.Table.TheVariants as table
use Rattle.flow_model.specs.Configuration.{is_open}
use Rattle.flow_model.specs.Open.{open_activities, state_of, tasks_after, tasks_after_one}
use Rattle.flow_rows.specs.declared.rows.EventRow.{EventRow}
use Rattle.flow_rows.specs.declared.rows.OutboxRow.{OutboxRow}
use Rattle.flow_rows.specs.declared.rows.RunRow.{RunRow}
use Rattle.flow_rows.specs.Rows.{activities_left, open_number}
use Rattle.flow_rows.specs.Damages.{cells_fit, closes, damages_from, damages_of_event, flow_is_free, history_from, is_begun, read_event, request_is_new, task_difference, unless}
use Rattle.flow_rows.specs.Recalling.{flow_in, request_in, run_of, tasks_in, text_in}
use Rattle.flow_rows.specs.Told.{request_of, task_of, whole}
use Rattle.flow_rows.specs.Parts.{RunPart, history_damaged, outbox_damaged, part_fits, run_damaged, told_part}
use Rattle.flow_rows.specs.Inspecting.{told_with}
use Rattle.flow_rows.proofs.BookRuns.{has_cells, no_difference}
use Rattle.flow_rows.proofs.BookTexts.{both_left, front_none, holds, rest_none}
use Rattle.flow_rows.proofs.Histories.{is_event, read_number}
use Rattle.flow_rows.proofs.LeftOpen.{tasks_are}
use Rattle.flow_rows.proofs.Recalled.{tasks_back}
use Rattle.flow_rows.proofs.Telling.{AreNumbered, agree_typed, left_all, tasks_one}

---- Events that read are numbered from 1

abbrev pub AreFrom : ℕ → List Event → Type 0
AreFrom i [] = Unit {0}
AreFrom i (e ∷ es) = (e.id ≡ i) × AreFrom (i + 1) es

pub history_numbered : (run : ℤ) (i : ℕ) (rs : List EventRow) → damages_from run i rs ≡ [] → AreFrom i (history_from i rs)
history_numbered run i [] none = tt
history_numbered run i (r ∷ rs) none =
    let v = is_event run i r (front_none _ (damages_from run (i + 1) rs) none) in
    subst (λ o. AreFrom i (read_event o ++ history_from (i + 1) rs)) (sym v.reads)
    (read_number i r v.event v.reads, history_numbered run (i + 1) rs (rest_none (damages_of_event run i r) _ none))

tasks_numbered : (i : ℕ) (ts : List OpenActivity) (es : List Event) → AreFrom i es → 1 ≤ i → AreNumbered ts → AreNumbered (tasks_after ts es)
tasks_numbered i ts [] are least all = all
tasks_numbered i ts (e ∷ es) are least all =
    tasks_numbered (i + 1) (tasks_after_one ts e) es are.1 (omega (arith, least)) (tasks_one (λ (t : OpenActivity). 1 ≤ t.event) ts e.id e.at e.what all (let id = are.0 in omega (arith, id, least)))

---- Its tasks

-- the activities that a history leaves open can be held, and so can the rows that agree with them
tasks_readable : (h : List Event) (run : ℤ) (rs : List OutboxRow) → AreFrom 1 h → AllByRecursion (λ r. r.run ≡ run) rs → task_difference h rs (activities_left h) ≡ None
    → tasks_in rs ≡ Some (map task_of rs)
tasks_readable h run rs numbered named none =
    let are = tasks_are h run rs (activities_left h) named none in
    let left : AreNumbered (activities_left h) = left_all (λ (t : OpenActivity). 1 ≤ t.event) h (is_open (state_of h)) (tasks_numbered 1 [] h numbered (omega arith) tt) in
    ap tasks_in (sym are.0) ∙ tasks_back run (map task_of rs) (agree_typed h (map task_of rs) (activities_left h) are.1 left)

---- The run

-- a run that breaks no rule, and whose events and tasks aren't damaged, is the one that its rows tell
pub told_of_undamaged : (texts : ℕ) (before : List RunRow) (n : ℕ) (q : RunPart) → AllByRecursion (λ r. r.run ≡ pos n) q.outbox
    → run_damaged texts before n q ≡ [] → history_damaged n q ≡ [] → outbox_damaged n q ≡ [] → told_with q (history_from 1 q.events) ≡ Some (told_part q)
told_of_undamaged texts before n q named run history outbox =
    let fits = holds (part_fits texts before n q) table.Run (pos n) (pos 0) run in
    let mark = int_eq q.row.isopen (open_number (not (list_any closes q.events))) in
    let cells = has_cells texts before n q.row (both_left (cells_fit texts before n q.row) mark (both_left (cells_fit texts before n q.row && mark) (flow_is_free before q.row) fits)) in
    let short : nat_le (length q.row.req) 64 ≡ true = both_left (nat_le (length q.row.req) 64) (request_is_new before q.row.req) cells.request in
    let events = rest_none (unless (is_begun q.events) table.Event (pos n) (pos 1)) (damages_from (pos n) 1 q.events) history in
    let h = history_from 1 q.events in
    let tasks = no_difference (pos n) (task_difference h q.outbox (activities_left h)) outbox in
    let flow_is : flow_in q.row ≡ Some q.row.flow = ap (λ v. if v then Some q.row.flow else None) cells.flow in
    let request_is : request_in q.row ≡ Some (request_of q.row.req) = ap (λ v. if v then Some (request_of q.row.req) else None) short in
    let text_is : text_in q.row ≡ Some (whole q.row.textnum) = ap (λ v. if v then Some (whole q.row.textnum) else None) cells.least in
    let tasks_is : tasks_in q.outbox ≡ Some (map task_of q.outbox) = tasks_readable h (pos n) q.outbox (history_numbered (pos n) 1 q.events events) named tasks in
    λ i. run_of (flow_is i) (request_is i) (text_is i) (Some h) (tasks_is i)
