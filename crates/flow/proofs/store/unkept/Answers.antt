use Rattle.flow.proofs.store.unkept.Goals as goal

pub returns-in-StoreRefused : goal.returns-in-StoreRefused
returns-in-StoreRefused c = record { refused = λ _. c.unopened.ensures; other = λ not. absurd (not c.in-StoreRefused.is) }

pub returns-in_default : goal.returns-in_default
returns-in_default c = record { refused = λ is. absurd (c.in_default.not-StoreRefused is); other = λ _. c.from.ensures }
