-- What a function returned, against what a definition gives. Where memory ran out nothing is said.
use Rattle.std.specs.Prelude.{◌≡◌, Option, Some, None, Result, Ok, Err}
use Rattle.flow_base.specs.declared.fields.FieldFault.{FieldFault}
use Rattle.flow_base.specs.declared.fields.FieldFault.TheVariants as refused
use Rattle.flow_base.specs.declared.value.ValueFault.{ValueFault}
use Rattle.flow_base.specs.declared.value.ValueFault.TheVariants as fault

-- the refusal is the given one
abbrev pub FailsAsGiven : {Y : Type 0} → ValueFault → Result Y ValueFault → Type 0
FailsAsGiven (fault.NoMemory _) given = Unit {0}
FailsAsGiven fault.NotAValue given = given ≡ Err fault.NotAValue
FailsAsGiven fault.TooLong given = given ≡ Err fault.TooLong

-- Ok exactly where the definition gives a value, and that value; else its refusal
abbrev pub GivesValue : {Y : Type 0} → Result Y ValueFault → Result Y ValueFault → Type 0
GivesValue (Ok x) given = given ≡ Ok x
GivesValue (Err f) given = FailsAsGiven f given

-- nothing is given, or memory ran out
abbrev pub GivesNone : {Y : Type 0} → FieldFault → Option Y → Type 0
GivesNone (refused.Memory _) given = Unit {0}
GivesNone refused.Unfit given = given ≡ None

-- Ok exactly where the definition gives a value, and that value
abbrev pub Gives : {X Y : Type 0} → (X → Y) → Result X FieldFault → Option Y → Type 0
Gives shown (Ok x) given = given ≡ Some (shown x)
Gives shown (Err e) given = GivesNone e given

-- a reader of members stops for want of memory, or since a value isn't one of those that are read
abbrev pub refusal_of : ValueFault → FieldFault
refusal_of (fault.NoMemory _) = refused.Memory _
refusal_of fault.NotAValue = refused.Unfit
refusal_of fault.TooLong = refused.Unfit
