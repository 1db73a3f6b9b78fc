-- What holds of the one work and of the other.
use Rattle.std.specs.Prelude.{ℕ}
use Rattle.flow_cli.specs.declared.work.Work.{Work}
use Rattle.flow_cli.specs.declared.work.Work.TheVariants as work

-- the first of so many commands that are answered together, the other of the run whose history is told
abbrev pub OfWork : Work → (ℕ → Type 0) → (ℕ → Type 0) → Type 0
OfWork (work.Drive most kept) drives tells = drives most
OfWork (work.History run) drives tells = tells run
