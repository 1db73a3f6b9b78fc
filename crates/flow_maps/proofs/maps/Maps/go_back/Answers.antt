use Rattle.flow_maps.proofs.Names.{subst, sym, MatchOption, Book, Serves, Leads}
use Rattle.flow_maps.proofs.Undone.{returns_on}
use Rattle.flow_maps.proofs.maps.Maps.go_back.Goals as goal

pub returns-clause-serves : goal.returns-clause-serves
returns-clause-serves c b h =
    let m = c.args.self.now in
    let taken = record m { journal = c.take-noted.new.self } in
    c.settle.ensures.serves b (c.take_noted_back.ensures b (subst (λ o. MatchOption o (Unit {0}) (λ us. (d : Book) × Leads us.items b d × Serves taken d)) (sym c.take-noted.ensures.taken)
    (returns_on m taken b m.journal.steps (λ d k. record { facts = k.facts; texts = k.texts }) h)))
