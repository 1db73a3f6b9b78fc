use Rattle.std.proofs.Common.{rules, ◌≡◌, ◌+◌, None, Some, [], refl, take}
use Rattle.flow_model.specs.Book.{nth}
use Rattle.flow_tables.proofs.Calls.{looked_by, looked_on, looked_so, no_look, not_looked}
use Rattle.flow_tables.proofs.RunsRead.{serves_all, serves_more}
use Rattle.flow_tables.proofs.learning.learn_runs.Goals as goal

pub loop-count-init : goal.loop-count-init
loop-count-init g c = record {
  looked = no_look g.V.Runs.shows c.args.view.now tt;
  serves = λ _. c.none-maps.ensures.serves (record { texts = (g.V.Runs.shows.book c.args.view.now).texts; runs = [] }) refl;
}

pub loop-count-preserved : goal.loop-count-preserved
loop-count-preserved g c =
    let shows = g.V.Runs.shows in
    let first = shows.book c.args.view.now in
    let mid = shows.book c.loop-count.view in
    let was = c.loop-count.invariant in
    let there : shows.is_sure c.recall.new.self → nth mid.runs (c.loop-count.count + 1) ≡ Some c.in-Ok-Some.run' = search rules in
    record {
      looked = looked_on shows c.args.view.now c.loop-count.view c.recall.new.self tt _ was.looked (looked_by shows c.loop-count.view c.recall.new.self _ tt _ c.in-Ok-Some.ensures);
      serves = λ sure.
          let before = c.recall.ensures.sure sure in
          serves_more c.add_whole.new.self first mid c.loop-count.count c.in-Ok-Some.run' (was.looked.reads before) (there sure) (c.add_whole.ensures.serves (record { texts = first.texts; runs = take c.loop-count.count first.runs }) (was.serves before));
    }

pub returns-in-Ok-None-clause-serves : goal.returns-in-Ok-None-clause-serves
returns-in-Ok-None-clause-serves g c = λ sure.
    let shows = g.V.Runs.shows in
    let mid = shows.book c.loop-count.view in
    let before = c.recall.ensures.sure sure in
    let none : nth mid.runs (c.loop-count.count + 1) ≡ None = (let h : shows.is_sure c.recall.new.self → nth mid.runs (c.loop-count.count + 1) ≡ None = search rules in h sure) in
    serves_all c.loop-count.maps (shows.book c.args.view.now) mid c.loop-count.count (c.loop-count.invariant.looked.reads before) none (c.loop-count.invariant.serves before)

pub returns-in-Ok-None-clause-looked : goal.returns-in-Ok-None-clause-looked
returns-in-Ok-None-clause-looked g c =
    let shows = g.V.Runs.shows in
    looked_on shows c.args.view.now c.loop-count.view c.recall.new.self tt _ c.loop-count.invariant.looked (looked_by shows c.loop-count.view c.recall.new.self _ c.loop-count.maps _ c.in-Ok-None.ensures)

pub returns-in-Err-clause-looked : goal.returns-in-Err-clause-looked
returns-in-Err-clause-looked g c =
    let shows = g.V.Runs.shows in
    looked_on shows c.args.view.now c.loop-count.view c.recall.new.self tt _ c.loop-count.invariant.looked (not_looked shows c.loop-count.view c.recall.new.self c.in-Err.fault _ c.in-Err.ensures)

pub returns-clause-serves : goal.returns-clause-serves
returns-clause-serves g c = λ sure. c.unknown.ensures (g.V.Runs.shows.book c.args.view.now)

pub returns-clause-looked : goal.returns-clause-looked
returns-clause-looked g c = looked_so g.V.Runs.shows c.args.view.now c.loop-count.view c.loop-count.view tt c.unknown.result refl c.loop-count.invariant.looked
