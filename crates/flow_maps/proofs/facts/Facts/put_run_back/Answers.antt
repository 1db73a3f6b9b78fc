use Rattle.flow_maps.proofs.Names.{ℕ, None, Option, Some, refl, subst, sym, Run, Book, nth, replaced, KnowsRuns}
use Rattle.flow_maps.proofs.Undone.{back_is, left_out, now_there, put_again, runs_set}
use Rattle.flow_maps.proofs.facts.Facts.put_run_back.Goals as goal

pub returns : goal.returns
returns c is b d it h =
    let u = c.args.before in
    let runs : ℕ → Option Run = λ n. nth d.runs n in
    let m = record c.args.self.now.runs { seats = c.put.new.self } in
    let put = put_again c.put.new.self u.run (Some it.was) runs (c.put.ensures is (replaced u.run None runs) it.was (left_out u.run runs) it.seat (c.clear.ensures c.if-not-clear.false runs h.runs.seats)) in
    record {
      runs = subst (λ (x : Book). KnowsRuns m x) (back_is u b d it) (runs_set c.args.self.now.runs m d it.now it.was u.run (now_there u b d it) (sym it.request) h.runs refl refl put);
      signals = c.put_back.ensures c.if-not-put_back.false b d it.signals h.signals;
    }
