-- What names a task.
use Rattle.std.specs.Prelude.{ℕ, refl}
use Rattle.std.specs.Coded.{Coded, code_by, coded×, coded_ℕ}
use Rattle.flow_base.specs.declared.task.Task.{Task}

-- a task that was posted, by its run, its event and its attempt
abbrev pub Key : Type 0
Key = ℕ × ℕ × ℕ

abbrev pub key_code : Coded Key
key_code = code_by (ℕ × (ℕ × ℕ)) (coded× coded_ℕ (coded× coded_ℕ coded_ℕ)) (λ k. (k.0, (k.1, k.2))) (λ p. (p.0, p.1.0, p.1.1)) (λ _. refl)

abbrev pub key_of : Task → Key
key_of t = (t.run, t.event, t.attempt)
