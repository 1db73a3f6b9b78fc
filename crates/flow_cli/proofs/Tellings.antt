-- What is told of texts, by what was told of each part.
use Rattle.std.proofs.Common.{◌≡◌, ℕ, List, [], ◌∷◌, ◌++◌, Option, inl, refl, sym, subst, Err}
use Rattle.std.specs.Io.KnownBytes.{Appends}
use Rattle.flow_base.specs.declared.fault.Fault.{Fault}
use Rattle.flow_base.specs.declared.fault.Fault.TheVariants as fault
use Rattle.flow_lines.proofs.Endings.{same_kept}
use Rattle.flow_lines.specs.declared.output.Output.{Ghosts}
use Rattle.flow_cli.specs.Telling.{Told, telling, Tells}

-- memory ran out before anything was written
pub untold : {O P : Type 0} (o : Ghosts O) (p : Ghosts P) (t : Told) (old : O) (before : P) (f : Fault) → f ≡ fault.NoMemory _ → Tells o p t old old before before (Err f)
untold o p t old before f is =
    subst (λ x. Tells o p t old old before before (Err x)) (sym is) (record {
      told = tt;
      status = tt;
      stopped = same_kept (o.contents old);
      early = refl;
      output = refl;
      input = λ was. refl;
      cause = inl refl;
      marked = tt;
      unmarked = refl;
    })

pub same_told : (line line' marks marks' : List ℕ) (status status' : ℕ) → line ≡ line' → marks ≡ marks' → status ≡ status' → telling line marks status ≡ telling line' marks' status'
same_told line line' marks marks' status status' lines are is =
    subst (λ l. telling line marks status ≡ telling l marks' status') lines
    (subst (λ m. telling line marks status ≡ telling line m status') are
    (subst (λ n. telling line marks status ≡ telling line marks n) is refl))

-- two lines, each by what it says
pub both_as : (old new : Option (List ℕ)) (a a' b b' : List ℕ) → a ≡ a' → b ≡ b' → Appends old new ((a ++ 10 ∷ []) ++ (b ++ 10 ∷ [])) → Appends old new ((a' ++ 10 ∷ []) ++ (b' ++ 10 ∷ []))
both_as old new a a' b b' e f h =
    subst (λ x. Appends old new ((x ++ 10 ∷ []) ++ (b' ++ 10 ∷ []))) e (subst (λ y. Appends old new ((a ++ 10 ∷ []) ++ (y ++ 10 ∷ []))) f h)
