use Rattle.std.specs.Prelude.{◌≡◌, ◌+◌}
use Rattle.flow_maps.proofs.Names.{◌∙◌, ap, rules, IfSome, length, Book, KnowsRuns}
use Rattle.flow_maps.proofs.Serving.{some_weaker}
use Rattle.flow_maps.proofs.facts.KnownRuns.next_run.Goals as goal

pub returns : goal.returns
returns c =
    some_weaker c.new.result (λ n. n ≡ c.args.self.now.count + 1) (λ n. (b : Book) → KnowsRuns c.args.self.now b → n ≡ length b.runs + 1) (λ n is b h. is ∙ ap (λ k. k + 1) h.count) (search rules)
