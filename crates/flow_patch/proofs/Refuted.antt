-- Where a settled patch was answered no the law doesn't hold: a run that went behind it, and its history under the settled text.
use Rattle.std.proofs.Common.{◌≡◌, ℕ, List, [], ◌∷◌, Bool, true, false, Option, Some, None, Result, Ok, Err, refl, sym, ◌∙◌, subst}
use Rattle.std.specs.Prelude.{codes, pos, bytes_eq}
use Rattle.flow_base.specs.Syntax.{Bytes, Statement, Number, Patch, Return, Block, End, Next, Program}
use Rattle.flow_base.specs.declared.value.Value.TheVariants.{Int}
use Rattle.flow_base.specs.declared.event.Cmd.TheVariants.{Complete}
use Rattle.flow_base.specs.declared.event.Input.TheVariants.{Started}
use Rattle.flow_base.specs.declared.event.What.TheVariants.{Came, Asked}
use Rattle.flow_base.specs.declared.event.Wrong.{Wrong}
use Rattle.flow_base.specs.declared.event.Wrong.TheVariants.{OtherContent}
use Rattle.flow_base.specs.declared.event.Event.{Event}
use Rattle.flow_model.specs.Configuration.{Configuration, first_configuration}
use Rattle.flow_model.specs.Turned.{turned}
use Rattle.flow_model.specs.Verdict.{verdict, verdict_from}
use Rattle.flow_model.proofs.Verdicts.{verdict_of_standing}
use Rattle.flow_patch.specs.Settle.{deprecated, NoIsRefused}

abbrev program : Block → Program
program b = record { at = 0; name = codes "d"; parameters = []; parameters_end = 0; declarations = []; body = b; body_end = 0 }

abbrev answers : ℕ → Block
answers n = Next (Return 0 (Number 0 (pos n))) End

-- { patch "v2" { return 1; } else { return 2; } }
abbrev old : Program
old = program (Next (Patch 0 0 (codes "v2") (answers 1) 0 (answers 2) 0) End)

-- { deprecate "v2"; return 1; }
abbrev new : Program
new = program (Next (deprecated (codes "v2")) (answers 1))

-- begun before the patch was there, and run to its end under the old text
abbrev history : List Event
history = record { id = 1; at = 0; what = Came (Started []) } ∷ record { id = 2; at = 0; what = Asked (Complete (Int (pos 2))) } ∷ []

abbrev where_left : Result Configuration (ℕ × Wrong) → Configuration
where_left (Ok k) = k
where_left (Err x) = first_configuration

old_stands : verdict old history ≡ Ok (where_left (verdict old history))
unfolding turned verdict_from
old_stands = refl

new_fails : verdict new history ≡ Err (2, OtherContent)
unfolding turned verdict_from
new_fails = refl

abbrev Failed : Result Configuration (ℕ × Wrong) → Type 0
Failed (Ok k) = ⊥
Failed (Err x) = Unit {0}

pub no_is_refused : NoIsRefused
no_is_refused law =
    let stands = (verdict_of_standing old history (where_left (verdict old history))).0 old_stands in
    let found = law (λ id. bytes_eq id (codes "v2")) old new history (where_left (verdict old history)) (record { name = refl; parameters = refl; declarations = refl; body = refl }) stands in
    subst Failed (sym new_fails ∙ (verdict_of_standing new history found.0).1 found.1.0) tt
