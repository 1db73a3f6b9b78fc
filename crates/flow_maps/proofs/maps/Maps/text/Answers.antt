use Rattle.std.specs.Prelude.{◌≡◌}
use Rattle.flow_maps.proofs.Names.{Some, Book, nth, KnowsBodies, Serves}
use Rattle.flow_maps.proofs.Serving.{some_weaker}
use Rattle.flow_maps.proofs.maps.Maps.text.Goals as goal

pub returns : goal.returns
returns c = some_weaker c.find.result (λ t. (b : Book) → KnowsBodies c.args.self.now.texts.bodies b → Some t ≡ nth b.texts c.args.number) (λ t. (b : Book) → Serves c.args.self.now b → Some t ≡ nth b.texts c.args.number) (λ t is b h. is b h.texts.0) c.find.ensures
