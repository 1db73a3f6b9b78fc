use Rattle.flow_maps.proofs.Names.{vec_len, Book, Serves, Leads}
use Rattle.flow_maps.proofs.maps.Maps.take_all_back.Given as goal

abbrev pub invariant-loop-undo : goal.invariant-loop-undo
invariant-loop-undo l = (b c : Book) → Leads l.fn.steps.items b c → Serves l.fn.self c → (d : Book) × Leads l.steps.items b d × Serves l.self d

abbrev pub decreases-loop-undo : goal.decreases-loop-undo
decreases-loop-undo l = vec_len l.steps
