-- The numbers that words name.
use Rattle.std.proofs.Common.{◌≡◌, ◌<◌, ◌≤◌, ◌^◌, ℕ, List, false, Option, Some, None, IfSome, refl, arith, ap, ◌∙◌, sym}
use Rattle.std.specs.Prelude.{IsSome}
use Rattle.std.proofs.lemmas.Bool.{true≢false}
use Rattle.std.specs.Str.Parse.{IsNumeral, digits_value, without_leading_plus}
use Rattle.clap.specs.ValueTests.{is_unsigned_in}
use Rattle.clap.proofs.ValueTestLemmas.{accepts-Accepts, Accepts-accepts}
use Rattle.clap.specs.declared.builder.value_parser.ValueParser.TheVariants as vp
use Rattle.flow_lines.proofs.Lines.{by_test}
use Rattle.flow_cli.specs.Calls.{number_in}

-- a number that was read is named where it is within
pub number_read : (last : ℕ) (word : List ℕ) (n : ℕ) (o : Option ℕ) → IsNumeral 10 (without_leading_plus word) → digits_value 10 (without_leading_plus word) < 2 ^ 64 → n ≡ digits_value 10 (without_leading_plus word) → (IsSome o → (1 ≤ n) × (n ≤ last)) → ((1 ≤ n) × (n ≤ last) → IsSome o) → IfSome o (λ r. r ≡ n) → o ≡ number_in last word
number_read last word n None numeral small is fits within value =
    by_test (is_unsigned_in 1 last word)
    (λ t. let a = accepts-Accepts false (vp.Unsigned 1 last) word t in absurd (true≢false (sym (within (omega arith, omega arith)))))
    (λ t. rw t refl)
number_read last word n (Some r) numeral small is fits within value =
    let fit = fits refl in
    rw (Accepts-accepts false (vp.Unsigned 1 last) word (numeral, small, omega arith, omega arith)) (ap Some (value ∙ is))

-- another word names none
pub number_missing : (last : ℕ) (word : List ℕ) → ¬ (IsNumeral 10 (without_leading_plus word) × (digits_value 10 (without_leading_plus word) < 2 ^ 64)) → None ≡ number_in last word
number_missing last word none =
    by_test (is_unsigned_in 1 last word)
    (λ t. let a = accepts-Accepts false (vp.Unsigned 1 last) word t in absurd (none (a.0, a.1)))
    (λ t. rw t refl)
