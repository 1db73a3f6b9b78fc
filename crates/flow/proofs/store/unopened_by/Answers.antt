use Rattle.flow.proofs.store.unopened_by.Goals as goal

pub returns-in-OutOfMemory : goal.returns-in-OutOfMemory
returns-in-OutOfMemory g c = record { memory = λ _. c.from.ensures; looked = λ not. absurd (not c.in-OutOfMemory.is) }

pub returns-in_default : goal.returns-in_default
returns-in_default g c = record { memory = λ is. absurd (c.in_default.not-OutOfMemory is); looked = λ _. (c.unopened.result, (c.unopened.ensures, c.unopened-in_default.ensures)) }
