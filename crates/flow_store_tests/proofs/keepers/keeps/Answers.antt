use Rattle.flow_store_tests.proofs.keepers.keeps.Goals as goal

-- the book that was read is the one that the tables keep
pub over_tables-requires : goal.over_tables-requires
over_tables-requires g c fit = (c.in-Ok.ensures.found fit).1
