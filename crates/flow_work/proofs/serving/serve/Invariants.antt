use Rattle.flow_work.proofs.serving.serve.Given as goal

abbrev pub ghosts-serve_in-B-Room : goal.ghosts-serve_in-B-Room
ghosts-serve_in-B-Room g a = record { table = a.opened.table }

abbrev pub ghosts-serve_in-B-Ledger : goal.ghosts-serve_in-B-Ledger
ghosts-serve_in-B-Ledger g a = record { name = a.opened.name; parts = a.opened.parts }
