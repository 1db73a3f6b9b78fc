use Rattle.flow_hub.proofs.Moves.{begins}
use Rattle.flow_hub.proofs.seats.Opened.new.Goals as goal

pub of_words-requires : goal.of_words-requires
of_words-requires c = begins
