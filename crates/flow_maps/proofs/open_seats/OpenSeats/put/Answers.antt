use Rattle.flow_maps.proofs.Names.{Some, sym, subst, IsSeated}
use Rattle.flow_maps.proofs.Seating.{closed_in}
use Rattle.flow_maps.proofs.open_seats.OpenSeats.put.Goals as goal

pub returns-in-Some : goal.returns-in-Some
returns-in-Some c is rs r none seated h = c.put_open.ensures is rs r none (subst (λ o. IsSeated o (Some r)) c.in-Some.is seated) h

pub returns-in-None : goal.returns-in-None
returns-in-None c is rs r none seated h = closed_in c.args.self.now c.args.run rs (Some r) h none (subst (λ o. IsSeated o (Some r)) c.in-None.is seated)
