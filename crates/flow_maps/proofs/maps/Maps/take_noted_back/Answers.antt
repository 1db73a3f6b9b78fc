use Rattle.flow_maps.proofs.Names.{MatchOption, subst, Book, Serves, Leads}
use Rattle.flow_maps.proofs.maps.Maps.take_noted_back.Goals as goal

pub returns-in-Some : goal.returns-in-Some
returns-in-Some c b h =
    let it = subst (λ o. MatchOption o (Unit {0}) (λ us. (d : Book) × Leads us.items b d × Serves c.args.self.now d)) c.in-Some.is h in
    c.take_all_back.ensures b it.0 it.1 it.2

pub returns-in-None : goal.returns-in-None
returns-in-None c b h = c.forget.ensures.serves b
