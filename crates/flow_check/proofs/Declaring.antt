-- Names, one after another: what the table has behind them, and which faults are noted.
use Rattle.std.proofs.Common.{◌≡◌, ℕ, ◌+◌, ◌<◌, ◌≤◌, min, Bool, true, false, not, cond, ◌&&◌, ◌||◌, List, [], ◌∷◌, ◌++◌, length, map, take, get_or, Option, refl, sym, ap, subst, ◌∙◌, nat_eq, bytes_eq, arith, append_assoc, length-append}
use Rattle.std.proofs.lemmas.List.{append-nil, take_more, map-append}
use Rattle.std.proofs.lemmas.List.Folds.{list_any-append}
use Rattle.std.proofs.lemmas.Bool.Decides.{nat_tests, same_from_decides}
use Rattle.std.proofs.lemmas.Slice.Eq.{bytes_eq-Decides}
use Rattle.std.specs.List.{list_any}
use Rattle.std.specs.HashSet.{HashSet, contains_by, UpdatesBy}
use Rattle.flow_base.specs.declared.code.Code.{Code}
use Rattle.flow_base.specs.declared.code.Code.TheVariants as code
use Rattle.flow_base.specs.declared.command.TextFault.{TextFault}
use Rattle.flow_base.specs.declared.syntax.Parameter.{Parameter}
use Rattle.flow_base.specs.declared.syntax.Declaration.{Declaration}
use Rattle.flow_base.specs.declared.syntax.Stmt.{Stmt}
use Rattle.flow_base.specs.declared.syntax.Branch.{Branch}
use Rattle.flow_base.specs.Shown.{Braced, shown_stmt, shown_branch, shown_declaration, shown_block, branches_of}
use Rattle.flow_base.specs.Syntax.{Bytes, Statement, block_of}
use Rattle.flow_model.specs.WellFormed.{Space, Named, named, variables, activities, signals, patches, is_space, same_name, fault, earliest, twice_code, declared_twice, one_too_many, faults_of_names, names_of_block, names_of_statement, names_of_branches, name_of_parameter, name_of_declared}
use Rattle.flow_model.proofs.FirstFault.{earliest-append}
use Rattle.flow_check.specs.declared.names.Names.{Names}
use Rattle.flow_check.specs.Tables.{Lists, Declares, noted_name}
use denote.Ref.{Bor}

pub faults_of_names-append : (before a b : List Named) → faults_of_names before (a ++ b) ≡ faults_of_names before a ++ faults_of_names (before ++ a) b
faults_of_names-append before [] b = ap (λ ns. faults_of_names ns b) (sym (append-nil before))
faults_of_names-append before (n ∷ a) b =
    let first = declared_twice before n ++ one_too_many before n in
    ap (λ fs. first ++ fs) (faults_of_names-append (before ++ n ∷ []) a b ∙ ap (λ ns. faults_of_names (before ++ n ∷ []) a ++ faults_of_names ns b) (append_assoc before (n ∷ []) a))
    ∙ sym (append_assoc first (faults_of_names (before ++ n ∷ []) a) (faults_of_names (before ++ n ∷ a) b))

pub declares_nothing : (n : Names) (o : Option TextFault) → Declares n o [] n o
declares_nothing n o = λ before l. (subst (λ (ys : List Named). Lists n ys) (sym (append-nil before)) l, refl)

pub declares_then : (n n1 n2 : Names) (o o1 o2 : Option TextFault) (a b : List Named) → Declares n o a n1 o1 → Declares n1 o1 b n2 o2 → Declares n o (a ++ b) n2 o2
declares_then n n1 n2 o o1 o2 a b first second = λ before l.
    let p = first before l in
    let q = second (before ++ a) p.0 in (
      subst (λ (ys : List Named). Lists n2 ys) (append_assoc before a b) q.0,
      q.1 ∙ ap (λ (x : Option TextFault). earliest x (faults_of_names (before ++ a) b)) p.1 ∙ sym (earliest-append o (faults_of_names before a) (faults_of_names (before ++ a) b)) ∙ ap (earliest o) (sym (faults_of_names-append before a b)),
    )

or_form : (b a : Bool) → cond b true a ≡ (a || (b || false))
or_form true true = refl
or_form true false = refl
or_form false true = refl
or_form false false = refl

or_nothing : (a : Bool) → a ≡ (a || (false || false))
or_nothing true = refl
or_nothing false = refl

bytes_either_way : (x y : Bytes) → bytes_eq x y ≡ bytes_eq y x
bytes_either_way x y = same_from_decides {P = x ≡ y} (bytes_eq x y) (bytes_eq y x) (bytes_eq-Decides x y) ((λ h. sym ((bytes_eq-Decides y x).0 h)), (λ h. (bytes_eq-Decides y x).1 (sym h)))

-- a set of names behind one more
abbrev pub Adds : {S : Type 0} → HashSet (Bor Bytes) S → Bytes → HashSet (Bor Bytes) S → Type 0
Adds s name n = (x : Bytes) → contains_by (λ k. bytes_eq x k.now) n ≡ cond (bytes_eq name x) true (contains_by (λ k. bytes_eq x k.now) s)

pub adds : {S : Type 0} (s n : HashSet (Bor Bytes) S) (name : Bytes) → UpdatesBy (λ x y. bytes_eq x.now y.now) (λ k. bytes_eq name k.now) s n true → Adds s name n
adds s n name h x = h.0 (record { ref_ptr = (0, 0); now = x })

count_after : (n : ℕ) (before : List Named) (x : Named) → n ≡ min (length before) 257 → min (n + 1) 257 ≡ min (length (before ++ x ∷ [])) 257
count_after n before x h = omega (arith, length-append before (x ∷ []))

at_limit : (n m : ℕ) → n ≡ min m 257 → nat_eq n 256 ≡ nat_eq m 256
at_limit n m h = grind (arith, nat_tests)

not_form : (b : Bool) (fs : List TextFault) → cond (not b) [] fs ≡ cond b fs []
not_form true fs = refl
not_form false fs = refl

noted_by : (b : Bool) (n m : ℕ) (fs gs : List TextFault) → nat_eq n 256 ≡ nat_eq m 256 → cond (not b) [] fs ++ cond (nat_eq n 256) gs [] ≡ (cond b fs [] ++ cond (nat_eq m 256) gs []) ++ []
noted_by b n m fs gs h =
    ap (λ xs. xs ++ cond (nat_eq n 256) gs []) (not_form b fs) ∙ ap (λ t. cond b fs [] ++ cond t gs []) h ∙ sym (append-nil (cond b fs [] ++ cond (nat_eq m 256) gs []))

noted_in : (is_new b : Bool) (twice : Code) (n m at : ℕ) → is_new ≡ not b → n ≡ min m 257 → noted_name is_new twice n at ≡ (cond b (fault twice at) [] ++ cond (nat_eq m 256) (fault code.TooManyNames at) []) ++ []
noted_in is_new b twice n m at h k = ap (λ c. noted_name c twice n at) h ∙ noted_by b n m (fault twice at) (fault code.TooManyNames at) (at_limit n m k)

small : (n m : ℕ) → n ≡ min m 257 → n ≤ 257
small n m h = omega arith

-- what a set has of the names of its space
abbrev Has : {S : Type 0} → Space → HashSet (Bor Bytes) S → List Named → Type 0
Has space s ns = (y : Bytes) → contains_by (λ k. bytes_eq y k.now) s ≡ list_any (same_name (named space 0 y)) ns

module _ {S : Type 0} (space : Space) (before : List Named) (s s' : HashSet (Bor Bytes) S) where
  -- one more name of the space
  has_more : (at : ℕ) (name : Bytes) → Adds s name s' → Has space s before → is_space space space ≡ true → Has space s' (before ++ named space at name ∷ [])
  has_more at name added has own = λ y.
      let seen = list_any (same_name (named space 0 y)) before in
      added y ∙ ap (cond (bytes_eq name y) true) (has y) ∙ or_form (bytes_eq name y) seen ∙ ap (λ b. seen || (b || false)) (bytes_either_way name y)
      ∙ ap (λ b. seen || ((b && bytes_eq y name) || false)) (sym own) ∙ sym (list_any-append (same_name (named space 0 y)) before (named space at name ∷ []))

  -- one more name of another space
  has_same : (x : Named) → s' ≡ s → Has space s before → is_space space x.space ≡ false → Has space s' (before ++ x ∷ [])
  has_same x same has other = λ y.
      let seen = list_any (same_name (named space 0 y)) before in
      ap (λ t. contains_by (λ k. bytes_eq y k.now) t) same ∙ has y ∙ or_nothing seen ∙ ap (λ b. seen || ((b && bytes_eq y x.name) || false)) (sym other)
      ∙ sym (list_any-append (same_name (named space 0 y)) before (x ∷ []))

module _ (n n' : Names) (o o' : Option TextFault) (at : ℕ) (name : Bytes) (is_new : Bool) (twice : Code) (counted : n.count ≤ 257 → n'.count ≡ min (n.count + 1) 257) (noted : o' ≡ earliest o (noted_name is_new twice n.count at)) where
  count_more : (before : List Named) (x : Named) → Lists n before → n'.count ≡ min (length (before ++ x ∷ [])) 257
  count_more before x l = counted (small n.count (length before) l.count) ∙ count_after n.count before x l.count

  noted_more : (before : List Named) (x : Named) (b : Bool) → Lists n before → is_new ≡ not b → b ≡ list_any (same_name x) before → twice_code x.space ≡ twice → x.at ≡ at → o' ≡ earliest o (faults_of_names before (x ∷ []))
  noted_more before x b l new seen called place =
      noted ∙ ap (earliest o) (noted_in is_new (list_any (same_name x) before) twice n.count (length before) at (new ∙ ap not seen) l.count)
      ∙ ap (λ (c : Code). earliest o ((cond (list_any (same_name x) before) (fault c at) [] ++ cond (nat_eq (length before) 256) (fault code.TooManyNames at) []) ++ [])) (sym called)
      ∙ ap (λ (p : ℕ). earliest o ((cond (list_any (same_name x) before) (fault (twice_code x.space) p) [] ++ cond (nat_eq (length before) 256) (fault code.TooManyNames p) []) ++ [])) (sym place)

  pub declares_variable : twice ≡ code.DeclaredTwice → is_new ≡ not (contains_by (λ k. bytes_eq name k.now) n.variables) → Adds n.variables name n'.variables
      → n'.activities ≡ n.activities → n'.signals ≡ n.signals → n'.patches ≡ n.patches → Declares n o (named variables at name ∷ []) n' o'
  declares_variable called new added same alike too = λ before l.
      let x = named variables at name in (
        record {
          variables = has_more variables before n.variables n'.variables at name added l.variables refl;
          activities = has_same activities before n.activities n'.activities x same l.activities refl;
          signals = has_same signals before n.signals n'.signals x alike l.signals refl;
          patches = has_same patches before n.patches n'.patches x too l.patches refl;
          count = count_more before x l;
        },
        noted_more before x (contains_by (λ k. bytes_eq name k.now) n.variables) l new (l.variables name) (sym called) refl,
      )

  pub declares_activity : twice ≡ code.DeclaredTwice → is_new ≡ not (contains_by (λ k. bytes_eq name k.now) n.activities) → Adds n.activities name n'.activities
      → n'.variables ≡ n.variables → n'.signals ≡ n.signals → n'.patches ≡ n.patches → Declares n o (named activities at name ∷ []) n' o'
  declares_activity called new added same alike too = λ before l.
      let x = named activities at name in (
        record {
          variables = has_same variables before n.variables n'.variables x same l.variables refl;
          activities = has_more activities before n.activities n'.activities at name added l.activities refl;
          signals = has_same signals before n.signals n'.signals x alike l.signals refl;
          patches = has_same patches before n.patches n'.patches x too l.patches refl;
          count = count_more before x l;
        },
        noted_more before x (contains_by (λ k. bytes_eq name k.now) n.activities) l new (l.activities name) (sym called) refl,
      )

  pub declares_signal : twice ≡ code.DeclaredTwice → is_new ≡ not (contains_by (λ k. bytes_eq name k.now) n.signals) → Adds n.signals name n'.signals
      → n'.variables ≡ n.variables → n'.activities ≡ n.activities → n'.patches ≡ n.patches → Declares n o (named signals at name ∷ []) n' o'
  declares_signal called new added same alike too = λ before l.
      let x = named signals at name in (
        record {
          variables = has_same variables before n.variables n'.variables x same l.variables refl;
          activities = has_same activities before n.activities n'.activities x alike l.activities refl;
          signals = has_more signals before n.signals n'.signals at name added l.signals refl;
          patches = has_same patches before n.patches n'.patches x too l.patches refl;
          count = count_more before x l;
        },
        noted_more before x (contains_by (λ k. bytes_eq name k.now) n.signals) l new (l.signals name) (sym called) refl,
      )

  pub declares_patch : twice ≡ code.PatchTwice → is_new ≡ not (contains_by (λ k. bytes_eq name k.now) n.patches) → Adds n.patches name n'.patches
      → n'.variables ≡ n.variables → n'.activities ≡ n.activities → n'.signals ≡ n.signals → Declares n o (named patches at name ∷ []) n' o'
  declares_patch called new added same alike too = λ before l.
      let x = named patches at name in (
        record {
          variables = has_same variables before n.variables n'.variables x same l.variables refl;
          activities = has_same activities before n.activities n'.activities x alike l.activities refl;
          signals = has_same signals before n.signals n'.signals x too l.signals refl;
          patches = has_more patches before n.patches n'.patches at name added l.patches refl;
          count = count_more before x l;
        },
        noted_more before x (contains_by (λ k. bytes_eq name k.now) n.patches) l new (l.patches name) (sym called) refl,
      )

pub names_of_block-append : (xs ys : List Statement) → names_of_block (block_of (xs ++ ys)) ≡ names_of_block (block_of xs) ++ names_of_block (block_of ys)
names_of_block-append [] ys = refl
names_of_block-append (x ∷ xs) ys = ap (λ ns. names_of_statement x ++ ns) (names_of_block-append xs ys) ∙ sym (append_assoc (names_of_statement x) (names_of_block (block_of xs)) (names_of_block (block_of ys)))

names_of_branches-append : (xs ys : List (ℕ × Braced)) → names_of_branches (branches_of (xs ++ ys)) ≡ names_of_branches (branches_of xs) ++ names_of_branches (branches_of ys)
names_of_branches-append [] ys = refl
names_of_branches-append (x ∷ xs) ys =
    ap (λ ns. names_of_block x.1.0 ++ ns) (names_of_branches-append xs ys) ∙ sym (append_assoc (names_of_block x.1.0) (names_of_branches (branches_of xs)) (names_of_branches (branches_of ys)))

-- one more of a list
module _ {X Y : Type 0} (f : X → Y) where
  pub map_one_more : (xs : List X) (i : ℕ) (x : X) → i < length xs → x ≡ get_or xs i x → map f (take (i + 1) xs) ≡ map f (take i xs) ++ f x ∷ []
  map_one_more xs i x l e = ap (map f) (take_more xs i x l) ∙ map-append f (take i xs) (get_or xs i x ∷ []) ∙ ap (λ y. map f (take i xs) ++ f y ∷ []) (sym e)

pub block_one_more : (ss : List Stmt) (i : ℕ) (s : Stmt) → i < length ss → s ≡ get_or ss i s → names_of_block (shown_block (take (i + 1) ss)) ≡ names_of_block (shown_block (take i ss)) ++ names_of_statement (shown_stmt s)
block_one_more ss i s l e =
    ap (λ b. names_of_block (block_of b)) (map_one_more shown_stmt ss i s l e) ∙ names_of_block-append (map shown_stmt (take i ss)) (shown_stmt s ∷ [])
    ∙ ap (λ ns. names_of_block (shown_block (take i ss)) ++ ns) (append-nil (names_of_statement (shown_stmt s)))

module _ (n n1 n2 : Names) (o o1 o2 : Option TextFault) (i : ℕ) where
  pub one_more_parameter : (ps : List Parameter) (p : Parameter) → i < length ps → p ≡ get_or ps i p → Declares n o (map name_of_parameter (take i ps)) n1 o1 → Declares n1 o1 (name_of_parameter p ∷ []) n2 o2 → Declares n o (map name_of_parameter (take (i + 1) ps)) n2 o2
  one_more_parameter ps p l e first second =
      subst (λ (ys : List Named). Declares n o ys n2 o2) (sym (map_one_more name_of_parameter ps i p l e)) (declares_then n n1 n2 o o1 o2 (map name_of_parameter (take i ps)) (name_of_parameter p ∷ []) first second)

  pub one_more_declaration : (ds : List Declaration) (d : Declaration) → i < length ds → d ≡ get_or ds i d → Declares n o (map name_of_declared (map shown_declaration (take i ds))) n1 o1 → Declares n1 o1 (name_of_declared (shown_declaration d) ∷ []) n2 o2 → Declares n o (map name_of_declared (map shown_declaration (take (i + 1) ds))) n2 o2
  one_more_declaration ds d l e first second =
      subst (λ (ys : List Named). Declares n o ys n2 o2)
      (sym (ap (map name_of_declared) (map_one_more shown_declaration ds i d l e) ∙ map-append name_of_declared (map shown_declaration (take i ds)) (shown_declaration d ∷ [])))
      (declares_then n n1 n2 o o1 o2 (map name_of_declared (map shown_declaration (take i ds))) (name_of_declared (shown_declaration d) ∷ []) first second)

  pub one_more_statement : (ss : List Stmt) (s : Stmt) → i < length ss → s ≡ get_or ss i s → Declares n o (names_of_block (shown_block (take i ss))) n1 o1 → Declares n1 o1 (names_of_statement (shown_stmt s)) n2 o2 → Declares n o (names_of_block (shown_block (take (i + 1) ss))) n2 o2
  one_more_statement ss s l e first second =
      subst (λ (ys : List Named). Declares n o ys n2 o2) (sym (block_one_more ss i s l e)) (declares_then n n1 n2 o o1 o2 (names_of_block (shown_block (take i ss))) (names_of_statement (shown_stmt s)) first second)

  pub one_more_branch : (bs : List Branch) (b : Branch) → i < length bs → b ≡ get_or bs i b → Declares n o (names_of_branches (branches_of (map shown_branch (take i bs)))) n1 o1
      → Declares n1 o1 (names_of_block (shown_branch b).1.0) n2 o2 → Declares n o (names_of_branches (branches_of (map shown_branch (take (i + 1) bs)))) n2 o2
  one_more_branch bs b l e first second =
      let before = map shown_branch (take i bs) in
      subst (λ (ys : List Named). Declares n o ys n2 o2)
      (sym (ap (λ ys. names_of_branches (branches_of ys)) (map_one_more shown_branch bs i b l e) ∙ names_of_branches-append before (shown_branch b ∷ []) ∙ ap (λ ns. names_of_branches (branches_of before) ++ ns) (append-nil (names_of_block (shown_branch b).1.0))))
      (declares_then n n1 n2 o o1 o2 (names_of_branches (branches_of before)) (names_of_block (shown_branch b).1.0) first second)
