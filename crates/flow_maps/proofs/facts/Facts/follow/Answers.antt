use Rattle.flow_maps.proofs.Names.{subst, sym, Book, Knows, WasBefore}
use Rattle.flow_maps.proofs.facts.Facts.follow.Goals as goal

pub returns-in-Some : goal.returns-in-Some
returns-in-Some c b is h = subst (λ (d : Book). Knows c.go_on.new.self d × WasBefore c.in-Some.before b d) (sym is) (c.in-Some.ensures b h)
