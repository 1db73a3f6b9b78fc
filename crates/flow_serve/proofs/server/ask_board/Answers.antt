use Rattle.flow_serve.proofs.server.ask_board.Goals as goal

pub next_board-requires : goal.next_board-requires
next_board-requires g c = record { still = λ goes. c.requires.still c.if-again.true goes }
