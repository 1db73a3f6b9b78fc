use Rattle.std.proofs.Common.{rules, refl, ap, length, ◌≡◌, ◌+◌, ◌∷◌, List, None, Some, arith}
use Rattle.flow_base.specs.declared.book.Run.{Run}
use Rattle.flow_model.specs.Book.{Book, nth}
use Rattle.flow_tables.specs.Calls.{LooksOn}
use Rattle.flow_tables.proofs.Calls.{looked_by, looked_on, no_look, no_memory_read, not_looked, not_read, read_so}
use Rattle.flow_tables.proofs.RunsRead.{gathers_all, gathers_more}
use Rattle.flow_tables.proofs.learning.gather.Goals as goal

pub loop-count-init : goal.loop-count-init
loop-count-init g c = record { looked = no_look g.V.Runs.shows c.args.view.now tt; numbered = search rules; gathers = λ _. refl }

pub loop-count-preserved : goal.loop-count-preserved
loop-count-preserved g c =
    let shows = g.V.Runs.shows in
    let first = shows.book c.args.view.now in
    let mid = shows.book c.loop-count.view in
    let was = c.loop-count.invariant in
    let there : shows.is_sure c.recall.new.self → nth mid.runs (c.loop-count.count + 1) ≡ Some c.in-Ok-Some.run' = search rules in
    let more : (rs : List Run) → g.G.Gathers.comes_to c.take_in.new.gathered (c.loop-count.count + 1 + 1) rs ≡ g.G.Gathers.comes_to c.loop-count.gathered (c.loop-count.count + 1) (c.in-Ok-Some.run' ∷ rs) = search rules in
    record {
      looked = looked_on shows c.args.view.now c.loop-count.view c.recall.new.self tt _ was.looked (looked_by shows c.loop-count.view c.recall.new.self _ tt _ c.in-Ok-Some.ensures);
      numbered = search rules;
      gathers = λ sure.
          let before = c.recall.ensures.sure sure in
          gathers_more g.G.Gathers.comes_to _ first mid c.loop-count.count c.loop-count.gathered c.take_in.new.gathered c.in-Ok-Some.run' (was.looked.reads before) (there sure) more (was.gathers before);
    }

pub returns-in-Err-take_in : goal.returns-in-Err-take_in
returns-in-Err-take_in g c =
    let shows = g.V.Runs.shows in
    let looked : LooksOn shows c.args.view.now c.recall.new.self =
    looked_on shows c.args.view.now c.loop-count.view c.recall.new.self tt _ c.loop-count.invariant.looked (looked_by shows c.loop-count.view c.recall.new.self _ tt _ c.in-Ok-Some.ensures) in
    no_memory_read shows c.args.view.now c.recall.new.self tt c.from.result (λ (b : Book). g.G.Gathers.comes_to c.args.gathers 1 b.runs) c.from.ensures looked

pub returns-in-Ok-None : goal.returns-in-Ok-None
returns-in-Ok-None g c =
    let shows = g.V.Runs.shows in
    let first = shows.book c.args.view.now in
    let mid = shows.book c.loop-count.view in
    let was = c.loop-count.invariant in
    let none : shows.is_sure c.recall.new.self → nth mid.runs (c.loop-count.count + 1) ≡ None = search rules in
    let looked : LooksOn shows c.args.view.now c.recall.new.self =
    looked_on shows c.args.view.now c.loop-count.view c.recall.new.self tt _ was.looked (looked_by shows c.loop-count.view c.recall.new.self _ tt _ c.in-Ok-None.ensures) in
    read_so shows c.args.view.now c.recall.new.self tt c.end.result (λ (b : Book). g.G.Gathers.comes_to c.args.gathers 1 b.runs) looked (λ sure.
    let before = c.recall.ensures.sure sure in
    gathers_all g.G.Gathers.comes_to _ first mid c.loop-count.count c.loop-count.gathered c.end.result (was.looked.reads before) (none sure) c.end.ensures (was.gathers before))

pub returns-in-Err : goal.returns-in-Err
returns-in-Err g c =
    let shows = g.V.Runs.shows in
    not_read shows c.args.view.now c.recall.new.self c.in-Err.fault (λ (b : Book). g.G.Gathers.comes_to c.args.gathers 1 b.runs)
    (looked_on shows c.args.view.now c.loop-count.view c.recall.new.self tt _ c.loop-count.invariant.looked (not_looked {B = Unit {0}} shows c.loop-count.view c.recall.new.self c.in-Err.fault _ c.in-Err.ensures))

pub returns : goal.returns
returns g c =
    let same : length c.as_slice.result.now ≡ length c.loop-count.numbers.items = ap (λ xs. length xs) c.as_slice.ensures.value in
    let is = c.few.ensures.length in
    let few = c.few.ensures.few in
    let numbered = c.loop-count.invariant.numbered in
    let last = c.loop-count-test.false in
    absurd (omega (arith, same, is, few, numbered, last))
