-- Lists in which each patch is changed: joined to others, and without their places. And what comes behind a walk over such lists.
use Rattle.std.proofs.Common.{◌≡◌, ℕ, List, refl, sym, ap, ◌∙◌, Bool, true, false, Option, Some, None, Result, Ok, Err}
use Rattle.std.specs.Prelude.{map, if◌then◌else◌}
use Rattle.std.proofs.lemmas.Bool.{true≢false}
use Rattle.flow_base.specs.Syntax.{Bytes, Statement, Let, Assign, Call, WaitSignal, WaitSignalFor, Sleep, If, While, Parallel, Patch, Deprecate, Return, FailWith, Continue, Block, End, Next, Otherwise, NoElse, Else, Branches, NoBranch, Branch}
use Rattle.flow_base.specs.Bare.{bare_expression, bare_retry, bare_statement, bare_block, bare_otherwise, bare_branches}
use Rattle.flow_patch.specs.Wrap.{joined, Patching, placed, changed, changed_otherwise, changed_branches}
use Rattle.flow_patch.specs.Difference.{Rebuilding, rebuilt_statement, rebuilt, rebuilt_otherwise, rebuilt_branches, first_place}
use Rattle.flow_patch.specs.Behind.{unless_told, and_behind}

---- Lists joined

pub joined_end : (b : Block) → joined b End ≡ b
joined_end End = refl
joined_end (Next s b) = ap (Next s) (joined_end b)

pub joined_joined : (a b c : Block) → joined (joined a b) c ≡ joined a (joined b c)
joined_joined End b c = refl
joined_joined (Next s a) b c = ap (Next s) (joined_joined a b c)

-- what becomes of a patch leaves alone what follows
pub record Joins (t : Rebuilding) : Type 0 where
  pub patch : (at id_at : ℕ) (id : Bytes) (a : Block) (a_end : ℕ) (b : Block) (b_end : ℕ) (k m : Block)
      → joined (t.patch at id_at id a a_end b b_end k) m ≡ t.patch at id_at id a a_end b b_end (joined k m)
  pub deprecate : (at id_at : ℕ) (id : Bytes) (k m : Block) → joined (t.deprecate at id_at id k) m ≡ t.deprecate at id_at id (joined k m)

pub joined_rebuilt : (t : Rebuilding) → Joins t → (s : Statement) (k m : Block) → joined (rebuilt_statement t s k) m ≡ rebuilt_statement t s (joined k m)
joined_rebuilt t j (Let at name_at x e) k m = refl
joined_rebuilt t j (Patch at id_at id a a_end b b_end) k m = j.patch at id_at id (rebuilt t a) a_end (rebuilt t b) b_end k m
joined_rebuilt t j (Deprecate at id_at id) k m = j.deprecate at id_at id k m
joined_rebuilt t j s k m = refl

---- Lists without places

pub bare_joined : (a b : Block) → bare_block (joined a b) ≡ joined (bare_block a) (bare_block b)
bare_joined End b = refl
bare_joined (Next s a) b = ap (Next (bare_statement s)) (bare_joined a b)

-- the one change is the other with its places left out
pub record Bares (t : Rebuilding) (u : Patching) : Type 0 where
  pub patch : (at id_at : ℕ) (id : Bytes) (a : Block) (a_end : ℕ) (b : Block) (b_end : ℕ) (k : Block)
      → bare_block (t.patch at id_at id a a_end b b_end k) ≡ u.patch id (bare_block a) (bare_block b) (bare_block k)
  pub deprecate : (at id_at : ℕ) (id : Bytes) (k : Block) → bare_block (t.deprecate at id_at id k) ≡ u.deprecate id (bare_block k)

mutual
  bare_rebuilt_statement : (t : Rebuilding) (u : Patching) → Bares t u → (s : Statement) (k : Block) → bare_block (rebuilt_statement t s k) ≡ placed u s (bare_block k)
  bare_rebuilt_statement t u c (Let at name_at x e) k = refl
  bare_rebuilt_statement t u c (Assign at x e) k = refl
  bare_rebuilt_statement t u c (Call at x activity_at a es r o) k =
      ap (λ w. Next (Call 0 x 0 a (map bare_expression es) (bare_retry r) w) (bare_block k)) (bare_rebuilt_otherwise t u c o)
  bare_rebuilt_statement t u c (WaitSignal at x signal_at n) k = refl
  bare_rebuilt_statement t u c (WaitSignalFor at x signal_at n e b end) k = ap (λ w. Next (WaitSignalFor 0 x 0 n (bare_expression e) w 0) (bare_block k)) (bare_rebuilt t u c b)
  bare_rebuilt_statement t u c (Sleep at e) k = refl
  bare_rebuilt_statement t u c (If at e a a_end b b_end) k =
      ap (λ w. Next (If 0 (bare_expression e) w 0 (bare_block (rebuilt t b)) 0) (bare_block k)) (bare_rebuilt t u c a)
      ∙ ap (λ w. Next (If 0 (bare_expression e) (changed u a) 0 w 0) (bare_block k)) (bare_rebuilt t u c b)
  bare_rebuilt_statement t u c (While at e b end) k = ap (λ w. Next (While 0 (bare_expression e) w 0) (bare_block k)) (bare_rebuilt t u c b)
  bare_rebuilt_statement t u c (Parallel at bs end) k = ap (λ w. Next (Parallel 0 w 0) (bare_block k)) (bare_rebuilt_branches t u c bs)
  bare_rebuilt_statement t u c (Patch at id_at id a a_end b b_end) k =
      c.patch at id_at id (rebuilt t a) a_end (rebuilt t b) b_end k
      ∙ ap (λ w. u.patch id w (bare_block (rebuilt t b)) (bare_block k)) (bare_rebuilt t u c a)
      ∙ ap (λ w. u.patch id (changed u a) w (bare_block k)) (bare_rebuilt t u c b)
  bare_rebuilt_statement t u c (Deprecate at id_at id) k = c.deprecate at id_at id k
  bare_rebuilt_statement t u c (Return at e) k = refl
  bare_rebuilt_statement t u c (FailWith at e) k = refl
  bare_rebuilt_statement t u c (Continue at es) k = refl

  pub bare_rebuilt : (t : Rebuilding) (u : Patching) → Bares t u → (b : Block) → bare_block (rebuilt t b) ≡ changed u b
  bare_rebuilt t u c End = refl
  bare_rebuilt t u c (Next s b) = bare_rebuilt_statement t u c s (rebuilt t b) ∙ ap (placed u s) (bare_rebuilt t u c b)

  bare_rebuilt_otherwise : (t : Rebuilding) (u : Patching) → Bares t u → (o : Otherwise) → bare_otherwise (rebuilt_otherwise t o) ≡ changed_otherwise u o
  bare_rebuilt_otherwise t u c NoElse = refl
  bare_rebuilt_otherwise t u c (Else b end) = ap (λ w. Else w 0) (bare_rebuilt t u c b)

  bare_rebuilt_branches : (t : Rebuilding) (u : Patching) → Bares t u → (bs : Branches) → bare_branches (rebuilt_branches t bs) ≡ changed_branches u bs
  bare_rebuilt_branches t u c NoBranch = refl
  bare_rebuilt_branches t u c (Branch at b end bs) =
      ap (λ w. Branch 0 w 0 (bare_branches (rebuilt_branches t bs))) (bare_rebuilt t u c b) ∙ ap (Branch 0 (changed u b) 0) (bare_rebuilt_branches t u c bs)

---- What comes behind a walk

abbrev pub go_on : Result Block ℕ → (Block → Option ℕ) → Option ℕ
go_on (Ok k) next = next k
go_on (Err n) next = Some n

pub go_on_behind : (r : Result Block ℕ) (g : Block → Result Block ℕ) (h j : Block → Option ℕ) → ((k : Block) → h k ≡ go_on (g k) j) → go_on r h ≡ go_on (and_behind r g) j
go_on_behind (Ok k) g h j e = e k
go_on_behind (Err n) g h j e = refl

-- two statements of one head, and what follows
told : (o : Option ℕ) (k : Block) (next : Block → Option ℕ) → first_place o (next k) ≡ go_on (unless_told o k) next
told None k next = refl
told (Some n) k next = refl

pub matched : (h h' : Bool) (o o' : Option ℕ) (k : Block) (next : Block → Option ℕ) (n : ℕ) → h ≡ h' → (h' ≡ true → o ≡ o')
    → (if h then first_place o (next k) else Some n) ≡ go_on (if h' then unless_told o' k else Err n) next
matched true true o o' k next n e i = rw (i refl) (told o' k next)
matched true false o o' k next n e i = absurd (true≢false e)
matched false true o o' k next n e i = absurd (true≢false (sym e))
matched false false o o' k next n e i = refl
