use Rattle.flow_machine.proofs.tick.+fire_due.Given as goal

abbrev pub decreases-fire_due : goal.decreases-fire_due
decreases-fire_due g l = l.left
