use Rattle.std.specs.Prelude.{◌++◌, ◌∷◌}
use Rattle.flow_maps.proofs.Names.{[], ap, subst, ◌∙◌, Book, signalled, Knows}
use Rattle.flow_maps.proofs.Signalled.{stays_known}
use Rattle.flow_maps.proofs.facts.Facts.take_run_back.Goals as goal

pub returns : goal.returns
returns c is b d it h =
    let was = subst (λ (x : Book). Knows c.args.self.now x) it.made h in
    record { runs = c.take_last_back.ensures is b it.now it.request was.runs; signals = stays_known c.args.self.now.signals d b it.signals h.signals }
