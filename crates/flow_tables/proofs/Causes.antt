-- What stands behind a refused statement.
use Rattle.std.specs.Prelude.{◌≡◌, ◌∷◌, ◌+◌, ◌≤◌}
use Rattle.flow_tables.proofs.Names.{Turn, Cmd, Event, Came, IfErr, List, ℕ, Refusal, length, Result, Asked, subst, sym, inl, inr, arith, Because, IsUnfitTurn, AreUnfit, IsUnfitInput, AreWithin, ap}
use Rattle.flow_events.specs.Row.{IsCommandWithinLimits, IsWithinLimits}
use Rattle.std.proofs.lemmas.Result.{IfErr-weaker}
use Rattle.flow_tables.specs.declared.fault.Refusal.TheVariants.{NoMemory, Stopped, Unfit}

---- Commands within the limits

-- the first of those that are left
first_within : (rest more : List Cmd) (c : Cmd) → rest ≡ c ∷ more → AreWithin rest → IsCommandWithinLimits c
first_within rest more c is all = let both = subst AreWithin is all in both.0

-- and the others
pub rest_within : (rest more : List Cmd) (c : Cmd) → rest ≡ c ∷ more → AreWithin rest → AreWithin more
rest_within rest more c is all = let both = subst AreWithin is all in both.1

---- Why a turn is refused

pub because_on : {W V U T : Type 0} (f : Refusal) → Because f W U → (W → V) → (U → T) → Because f V T
because_on (NoMemory _) h stop unfit = h
because_on Stopped h stop unfit = stop h
because_on Unfit h stop unfit = unfit h

pub all_because : {A W V U T : Type 0} (r : Result A Refusal) → IfErr r (λ f. Because f W U) → (W → V) → (U → T) → IfErr r (λ f. Because f V T)
all_because {A} {W} {V} {U} {T} r h stop unfit = IfErr-weaker r (λ f. Because f W U) (λ f. Because f V T) (λ f why. because_on f why stop unfit) h

-- An event past its limits.
module _ (from : ℕ) (cs : List Cmd) where
  pub event_unfit : (at k : ℕ) (rest more : List Cmd) (c : Cmd) (e : Event) → rest ≡ c ∷ more → e ≡ record { id = k; at = at; what = Asked c } → (AreWithin cs → AreWithin rest) → (IsWithinLimits e → ⊥) → AreUnfit from cs
  event_unfit at k rest more c e is event left past = inl (λ all. past (subst IsWithinLimits (sym event) (first_within rest more c is (left all))))

  -- the same of an input and commands behind it
  module _ (input : Event) (c : Cmd) (rest : List Cmd) (is : cs ≡ c ∷ rest) where
    pub two_unfit : (e : Event) → e ≡ record { id = from; at = input.at; what = Asked c } → (IsWithinLimits input → IsWithinLimits e → ⊥) → IsUnfitInput input from cs
    two_unfit e event past = inl (λ within all. past within (subst IsWithinLimits (sym event) (first_within cs rest c is all)))

    pub rest_unfit : (1 ≤ from + 1 → AreUnfit (from + 1) rest) → IsUnfitInput input from cs
    rest_unfit unfit = elim (unfit (omega arith)) [
      | inl past ↦ inl (λ within all. past (rest_within cs rest c is all))
      | inr past ↦ inr (let longer = ap (λ (l : List Cmd). length l) is in omega (arith, longer, past))
    ]

-- and of a turn
pub turn_unfit : (count : ℕ) (turn : Turn) (cs : List Cmd) (e : Event) → cs ≡ turn.commands → e ≡ record { id = count + 1; at = turn.at; what = Came turn.input } → IsUnfitInput e (count + 2) cs → IsUnfitTurn count turn
turn_unfit count turn cs e same event unfit = elim (subst (IsUnfitInput e (count + 2)) same unfit) [
  | inl past ↦ inl (λ all. past (subst IsWithinLimits (sym event) all.0) all.1)
  | inr past ↦ inr past
]
