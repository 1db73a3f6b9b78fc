use Rattle.std.proofs.Common.{rules, ◌≡◌, [], List, length, refl, sym, ap, subst, ◌∙◌}
use Rattle.flow_model.specs.Checked.{is_program_by}
use Rattle.flow_rows.specs.declared.rows.StoreRows.{StoreRows}
use Rattle.flow_rows.specs.declared.rows.TextRow.{TextRow}
use Rattle.flow_rows.specs.Damages.{first_damage}
use Rattle.flow_rows.specs.Passing.{counted, rows_with, seen_of}
use Rattle.flow_rows.specs.Rows.{events_of, tasks_of}
use Rattle.flow_rows.specs.Told.{runs_told}
use Rattle.flow_rows.proofs.PassedBlocks.{begun, counted_whole, given_all, none_given}
use Rattle.flow_rows.proofs.damage.go_through.Goals as goal

pub returns-clause-first : goal.returns-clause-first
returns-clause-first g c =
    let p = is_program_by g.T.Texts.meaning in
    let lists = c.lists_of-lists.result in
    let rows = c.args.rows.now in
    let texts : c.as_slice.result.now ≡ rows.texts = search rules in
    let runs : c.as_slice-2.result.now ≡ rows.runs = search rules in
    let timers : c.as_slice-3.result.now ≡ rows.timers = search rules in
    let outbox : c.as_slice-4.result.now ≡ rows.outbox = search rules in
    let slice : c.as_slice-5.result.now ≡ rows.events = search rules in
    let same : rows_with lists rows.events ≡ rows = c.lists_of-lists.ensures.rows rows.events ∙ (λ k. record { texts = texts k; runs = runs k; events = rows.events; timers = timers k; outbox = outbox k }) in
    let count = length lists.runs.now in
    let es = counted_whole lists c.in_ok-pass.pass.seen count c.as_slice-5.result.now c.in_ok-pass.ensures.none refl ∙ slice in
    let passed = (c.in_ok-see_block.ensures.passed p [] (begun p lists c.in_ok-pass.pass c.in_ok-pass.ensures)).0 in
    c.finish-found.ensures.first p (counted c.in_ok-pass.pass.seen count (length lists.runs.now) c.as_slice-5.result.now) passed c.in_ok-see_block.ensures.to
    ∙ ap (λ l. first_damage p (rows_with lists l)) es ∙ ap (first_damage p) same

pub returns-clause-seen : goal.returns-clause-seen
returns-clause-seen g c = λ none start.
    let p = is_program_by g.T.Texts.meaning in
    let lists = c.lists_of-lists.result in
    let rows = c.args.rows.now in
    let texts : c.as_slice.result.now ≡ rows.texts = search rules in
    let runs : c.as_slice-2.result.now ≡ rows.runs = search rules in
    let timers : c.as_slice-3.result.now ≡ rows.timers = search rules in
    let outbox : c.as_slice-4.result.now ≡ rows.outbox = search rules in
    let slice : c.as_slice-5.result.now ≡ rows.events = search rules in
    let same : rows_with lists rows.events ≡ rows = c.lists_of-lists.ensures.rows rows.events ∙ (λ k. record { texts = texts k; runs = runs k; events = rows.events; timers = timers k; outbox = outbox k }) in
    let count = length lists.runs.now in
    let events = counted c.in_ok-pass.pass.seen count (length lists.runs.now) c.as_slice-5.result.now in
    let es = counted_whole lists c.in_ok-pass.pass.seen count c.as_slice-5.result.now c.in_ok-pass.ensures.none refl ∙ slice in
    let went = c.in_ok-see_block.ensures.passed p [] (begun p lists c.in_ok-pass.pass c.in_ok-pass.ensures) in
    let all = c.in_ok-see_block.ensures.to in
    let of_texts : lists.texts.now ≡ rows.texts = ap (λ (r : StoreRows). r.texts) same in
    let begun_so : g.W.Onlooker.seen c.args.watch.now lists.texts.now [] = subst (λ (ts : List TextRow). g.W.Onlooker.seen c.args.watch.now ts []) (sym of_texts) start in
    let given = given_all p lists c.see_block.new.self events went.0 all (seen_of g.W.Onlooker.seen lists) c.see_block.new.watch
    (went.1 (none_given p lists (seen_of g.W.Onlooker.seen lists) c.in_ok-pass.pass c.args.watch.now c.in_ok-pass.ensures begun_so))
    (c.finish-found.ensures.clean p events went.0 all none) in
    subst (λ (ts : List TextRow). g.W.Onlooker.seen c.see_block.new.watch ts (runs_told (events_of rows.events) (tasks_of rows.outbox) 1 rows.runs)) of_texts
    (subst (g.W.Onlooker.seen c.see_block.new.watch lists.texts.now)
    (ap (λ l. runs_told (events_of l) (tasks_of lists.outbox.now) 1 lists.runs.now) es
    ∙ ap (λ (r : StoreRows). runs_told (events_of r.events) (tasks_of r.outbox) 1 r.runs) same) given)
