use Rattle.flow_maps.proofs.Names.{refl}
use Rattle.flow_maps.proofs.Undone.{counted_is}
use Rattle.flow_maps.proofs.maps.Maps.text_count.Goals as goal

pub returns : goal.returns
returns c = counted_is c.args.self.now c.args.self.now.texts.count refl
