-- What a stop may leave, from call to call.
use Rattle.std.specs.Prelude.{◌≡◌}
use Rattle.flow_tables.proofs.Names.{State, Survives, IsTrue, Trees}
use Rattle.sqlite.proofs.StateLemmas.{survives_then}

-- the law `settled` of the store, at the state of a connection over it
abbrev pub IsSettled : State → Type 0
IsSettled s = (db : Trees) → IsTrue s.is_open → s.may_leave db → db ≡ s.committed.trees

-- two calls of which none commits
pub quiet_then : (a b c : State) → Survives a b (λ _. ⊥) → Survives b c (λ _. ⊥) → Survives a c (λ _. ⊥)
quiet_then a b c one two = survives_then a b c _ _ _ (λ _ _ none. none) (λ _ _ none. none) one two

-- what follows a call that commits nothing
pub quiet_first : (a b c : State) (P : Trees → Type 0) → Survives a b (λ _. ⊥) → Survives b c P → Survives a c P
quiet_first a b c P one two = survives_then a b c _ _ _ (λ _ _ none. absurd none) (λ _ _ made. made) one two
