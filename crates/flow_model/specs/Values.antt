-- The value of an expression, or the fault that stands: operands from the left, the first fault, `and` and `or` only as far
-- as needed. In a checked program each name is there and each operand has its type; elsewhere a missing variable is 0, the
-- number of a text is 0 and the text of a number is empty. Places don't matter.
use Rattle.std.specs.Prelude.{ℕ, ◌+◌, ◌^◌, ℤ, pos, negsuc, ◌+ℤ◌, ◌-ℤ◌, ◌*ℤ◌, neg_ℤ, int_lt, int_le, int_div, int_rem, Bool, true, false, not, List, [], ◌∷◌, ◌++◌, length, Option, Some, None, Result, Ok, Err, nat_lt, nat_eq, nat_le, bytes_eq, if◌then◌else◌}
use Rattle.std.specs.Fmt.{signed_decimal}
use Rattle.flow_base.specs.Syntax.{Bytes, Expression, Number, Literal, Variable, Now, Apply, Combine}
use Rattle.flow_base.specs.declared.value.Value.{Value}
use Rattle.flow_base.specs.declared.value.Value.TheVariants.{Int, Text}
use Rattle.flow_base.specs.declared.syntax.Unary.{Unary}
use Rattle.flow_base.specs.declared.syntax.Unary.TheVariants.{Negate, Not, TextOf, Length}
use Rattle.flow_base.specs.declared.syntax.Binary.{Binary}
use Rattle.flow_base.specs.declared.syntax.Binary.TheVariants.{Or, And, Equal, Differ, Less, AtMost, Greater, AtLeast, Add, Subtract, Join, Multiply, Divide, Remain}
use Rattle.flow_base.specs.declared.event.Cause.{Cause}
use Rattle.flow_base.specs.declared.event.Cause.TheVariants.{Arith, TextLimit, BadDelay}

-- The variables of a run: from names to values.
abbrev pub Variables : Type 0
Variables = Bytes → Option Value

abbrev pub none_set : Variables
none_set name = None

-- a variable gets a value
abbrev pub with_variable : Variables → Bytes → Value → Variables
with_variable vars name v = λ x. if bytes_eq x name then Some v else vars x

-- a value as a number: 0 where it is a text
abbrev pub number_of : Value → ℤ
number_of (Int z) = z
number_of (Text t) = pos 0

-- a value as a text: empty where it is a number
abbrev pub text_of : Value → Bytes
text_of (Int z) = []
text_of (Text t) = t

-- the value of a variable: 0 where it has none
abbrev pub there : Option Value → Value
there None = Int (pos 0)
there (Some v) = v

-- whether a number has 64 bits
abbrev pub fits_64 : ℤ → Bool
fits_64 (pos n) = nat_lt n (2 ^ 63)
fits_64 (negsuc n) = nat_lt n (2 ^ 63)

-- a number, if it has 64 bits
abbrev pub whole : ℤ → Result Value Cause
whole z = if fits_64 z then Ok (Int z) else Err Arith

-- the most bytes of a text
abbrev pub text_limit : ℕ
text_limit = 4096

-- a text, if it isn't too long
abbrev pub joined : Bytes → Result Value Cause
joined t = if nat_le (length t) text_limit then Ok (Text t) else Err TextLimit

-- 1 or 0
abbrev pub flag : Bool → Value
flag b = if b then Int (pos 1) else Int (pos 0)

abbrev pub is_zero : ℤ → Bool
is_zero (pos n) = nat_eq n 0
is_zero (negsuc n) = false

-- as a condition, any number but 0 is true
abbrev pub is_true : Value → Bool
is_true v = not (is_zero (number_of v))

abbrev pub int_same : ℤ → ℤ → Bool
int_same (pos a) (pos b) = nat_eq a b
int_same (pos a) (negsuc b) = false
int_same (negsuc a) (pos b) = false
int_same (negsuc a) (negsuc b) = nat_eq a b

-- whether two values are one
abbrev pub same_value : Value → Value → Bool
same_value (Int a) (Int b) = int_same a b
same_value (Int a) (Text b) = false
same_value (Text a) (Int b) = false
same_value (Text a) (Text b) = bytes_eq a b

-- Quotient or remainder: division cuts toward zero. Neither is there for a divisor 0 or where the quotient leaves 64 bits.
abbrev pub divided : (ℤ → ℤ → ℤ) → ℤ → ℤ → Result Value Cause
divided f a b = if is_zero b then Err Arith else (if fits_64 (int_div a b) then Ok (Int (f a b)) else Err Arith)

-- an operator with one operand
abbrev pub applied : Unary → Value → Result Value Cause
applied Negate v = whole (neg_ℤ (number_of v))
applied Not v = Ok (flag (not (is_true v)))
applied TextOf v = joined (signed_decimal (number_of v))
applied Length v = Ok (Int (pos (length (text_of v))))

-- an operator with two operands, both of which are needed
abbrev pub combined : Binary → Value → Value → Result Value Cause
combined Or a b = Ok (flag (is_true b))
combined And a b = Ok (flag (is_true b))
combined Equal a b = Ok (flag (same_value a b))
combined Differ a b = Ok (flag (not (same_value a b)))
combined Less a b = Ok (flag (int_lt (number_of a) (number_of b)))
combined AtMost a b = Ok (flag (int_le (number_of a) (number_of b)))
combined Greater a b = Ok (flag (int_lt (number_of b) (number_of a)))
combined AtLeast a b = Ok (flag (int_le (number_of b) (number_of a)))
combined Add a b = whole (number_of a +ℤ number_of b)
combined Subtract a b = whole (number_of a -ℤ number_of b)
combined Join a b = joined (text_of a ++ text_of b)
combined Multiply a b = whole (number_of a *ℤ number_of b)
combined Divide a b = divided int_div (number_of a) (number_of b)
combined Remain a b = divided int_rem (number_of a) (number_of b)

-- what the left operand decides alone
abbrev pub decided_by : Binary → Value → Option Value
decided_by Or a = if is_true a then Some (flag true) else None
decided_by And a = if is_true a then None else Some (flag false)
decided_by op a = None

-- goes on with the value, if there is no fault
infixl 10 ◌>>=◌
abbrev pub ◌>>=◌ : {A B : Type 0} → Result A Cause → (A → Result B Cause) → Result B Cause
(Ok a) >>= f = f a
(Err c) >>= f = Err c

abbrev pub or_else : Option Value → Result Value Cause → Result Value Cause
or_else None r = r
or_else (Some v) r = Ok v

-- The value of an expression at a moment.
abbrev pub value : Variables → ℕ → Expression → Result Value Cause
value vars at (Number place z) = Ok (Int z)
value vars at (Literal place t) = Ok (Text t)
value vars at (Variable place x) = Ok (there (vars x))
value vars at (Now place) = Ok (Int (pos at))
value vars at (Apply place op e) = value vars at e >>= applied op
value vars at (Combine op e f) =
    value vars at e >>= (λ a. or_else (decided_by op a) (value vars at f >>= combined op a))

-- The values of a list of expressions, from the left, or the first fault.
abbrev pub values : Variables → ℕ → List Expression → Result (List Value) Cause
values vars at [] = Ok []
values vars at (e ∷ es) = value vars at e >>= (λ v. values vars at es >>= (λ vs. Ok (v ∷ vs)))

-- the last moment, in milliseconds
abbrev pub last_moment : ℕ
last_moment = 10 ^ 15

-- the moment that comes so much later, if the delay isn't negative and doesn't lead past the last moment
abbrev pub due_in : ℕ → ℤ → Result ℕ Cause
due_in at (pos n) = if nat_le (at + n) last_moment then Ok (at + n) else Err BadDelay
due_in at (negsuc n) = Err BadDelay

-- When a delay is over that begins at this moment.
abbrev pub due : Variables → ℕ → Expression → Result ℕ Cause
due vars at e = value vars at e >>= (λ v. due_in at (number_of v))
