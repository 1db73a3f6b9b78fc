-- No two refusals have one number.
use Rattle.std.proofs.Common.{◌≡◌, ◌∙◌, ℕ, List, [], ◌∷◌, Option, Some, None, cond, nat_eq, refl, ap, sym}
use Rattle.flow_base.specs.Codes.{code_number}
use Rattle.flow_base.specs.declared.code.Code.{Code}
use Rattle.flow_base.specs.declared.code.Code.TheVariants as code

all : List Code
all = code.NoMemory ∷ code.NotAValue ∷ code.TooLong ∷ code.BadToken ∷ code.Unexpected ∷ code.TextTooLong ∷ code.TooDeep ∷ code.NotVisible ∷ code.DeclaredTwice ∷ code.BadType ∷ code.BadCount ∷ code.EndsInParallel ∷ code.PatchTwice ∷ code.TooManyNames ∷ code.TooManyBranches ∷ code.BadRetry ∷ code.NotDeclared ∷ code.BadKind ∷ code.BadBody ∷ code.SecondSpelling ∷ code.NotAwaited ∷ code.Closed ∷ code.OtherKind ∷ code.OtherContent ∷ code.MissingEvent ∷ code.ExtraEvent ∷ code.InputNotAwaited ∷ code.AfterClose ∷ code.BadNumbering ∷ code.NotAWrap ∷ code.NotSettled ∷ code.NoText ∷ code.BadArguments ∷ code.AlreadyOpen ∷ code.NoOpenRun ∷ code.NotOpen ∷ code.OldAttempt ∷ code.WrongType ∷ code.NoSuchSignal ∷ code.Mismatch ∷ code.HistoryFull ∷ code.NoRun ∷ code.StoreRefused ∷ code.NotOurs ∷ code.BadVersion ∷ code.Damaged ∷ code.Unknown ∷ code.Halted ∷ code.NoFile ∷ code.InputFailed ∷ code.OutputFailed ∷ code.BadSettings ∷ code.BadUsage ∷ []

-- the refusal of a number
abbrev numbered : List Code → ℕ → Option Code
numbered [] n = None
numbered (c ∷ cs) n = cond (nat_eq (code_number c) n) (Some c) (numbered cs n)

found : (c : Code) → numbered all (code_number c) ≡ Some c
unfolding all
found code.NoMemory = refl
found _ = refl

some_is : {x y : Code} → Some x ≡ Some y → x ≡ y
some_is h = cc

pub same_code : (c d : Code) → code_number c ≡ code_number d → c ≡ d
same_code c d h = some_is (sym (found c) ∙ ap (numbered all) h ∙ found d)
