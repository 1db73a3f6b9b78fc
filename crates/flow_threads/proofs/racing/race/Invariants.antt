use Rattle.flow_threads.proofs.racing.race.Given as goal

abbrev pub ghosts-race_named-B-Room : goal.ghosts-race_named-B-Room
ghosts-race_named-B-Room g a = record { table = a.opened.table }

abbrev pub ghosts-race_named-B-Ledger : goal.ghosts-race_named-B-Ledger
ghosts-race_named-B-Ledger g a = record { name = a.opened.name; parts = a.opened.parts }
