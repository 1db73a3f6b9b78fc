use Rattle.flow_maps.proofs.Names.{ℕ, None, Option, Some, refl, subst, sym, ◌∙◌, Run, Head, IsUntaken, Book, nth, with_run, replaced, KnowsRuns, made_of}
use Rattle.flow_maps.proofs.Serving.{run_is}
use Rattle.flow_maps.proofs.Undone.{left_out, made_request, put_again, runs_set}
use Rattle.flow_maps.proofs.facts.Facts.go_on.Goals as goal

pub returns : goal.returns
returns c b h =
    let run = c.args.run in
    let f = made_of c.args.change.now in
    let runs : ℕ → Option Run = λ n. nth b.runs n in
    let taken = c.in-Some.ensures runs h.runs.seats in
    let r = taken.0 in
    let signal = c.in-Some-signal_by.ensures b r taken.1 taken.2.0 h.signals in
    let kept = c.in-Some-taken_on.ensures r taken.2.0 in
    let seated = c.in-Some-seat_behind.ensures r (kept.0, taken.2.1) in
    let put = put_again c.put.new.self run (Some (f r)) runs (c.put.ensures c.if-not-put.false (replaced run None runs) (f r) (left_out run runs) seated taken.3) in
    let is = run_is b run f r taken.1 in (
      record {
        runs = subst (λ (d : Book). KnowsRuns (record c.args.self.now.runs { seats = c.put.new.self }) d) is
            (runs_set c.args.self.now.runs (record c.args.self.now.runs { seats = c.put.new.self }) b r (f r) run taken.1 (made_request c.args.change.now r) h.runs refl refl put);
        signals = signal.0;
      },
      record { was = r; now = f r; there = taken.1; seat = (kept.1, taken.2.1); made = sym is; request = made_request c.args.change.now r; signals = subst (λ (k : Head). IsUntaken c.in-Some-signal_by.signal k.flow b (with_run b run f)) (sym taken.2.0.head ∙ kept.1.head) signal.1 },
    )
