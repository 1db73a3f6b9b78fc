use Rattle.flow.proofs.over.verify.Goals as goal

pub returns-in-text : goal.returns-in-text
returns-in-text g c = record { in_memory = λ _. c.verify_memory.ensures; in_file = λ other. absurd (other c.in-text.is) }

pub returns-in_default : goal.returns-in_default
returns-in_default g c = record { in_memory = λ is. absurd (c.in_default.not-text is); in_file = λ _. c.verify_file.ensures }
