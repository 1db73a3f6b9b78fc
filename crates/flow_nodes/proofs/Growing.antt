-- Links stay right where lists are added.
use Rattle.std.proofs.Common.{◌≡◌, ℕ, zero, suc, ◌+◌, ◌<◌, List, [], ◌∷◌, ◌++◌, append_assoc, length, length-append, get_or, take, map, refl, sym, ap, ◌∙◌, subst, arith, Option, Some, None}
use Rattle.std.specs.Prelude.{slice_get}
use Rattle.flow_base.specs.Syntax as syntax
use Rattle.flow_base.specs.Syntax.{Statement, Block, Otherwise, NoElse, Else, Branches, NoBranch, Branch, block_of}
use Rattle.flow_base.specs.Shown.{Braced, branches_of, shown_branch, shown_stmt}
use Rattle.std.proofs.lemmas.List.{map-append, take_more}
use Rattle.flow_base.specs.declared.syntax.Stmt.{Stmt}
use Rattle.flow_base.specs.declared.syntax.Branch.{Branch as Branched}
use Rattle.flow_nodes.specs.declared.table.Listing.{Listing}
use Rattle.flow_nodes.specs.declared.table.Links.{Links}
use Rattle.flow_nodes.specs.Links.{AreLinked, Grows, IsLinked, LeadAll, LeadsTo, LeadsWithin, LinkEach, block_at, branches_in, links_at, links_in, stmts_at, stmts_in}

pub grows_self : (ls : List Listing) → Grows ls ls
grows_self ls = record { more = []; is = sym (append_none ls) }
  where
    append_none : (xs : List Listing) → xs ++ [] ≡ xs
    append_none [] = refl
    append_none (x ∷ xs) = ap (λ (ys : List Listing). x ∷ ys) (append_none xs)

pub grows_on : (ls ms ns : List Listing) → Grows ls ms → Grows ms ns → Grows ls ns
grows_on ls ms ns g h =
    record { more = g.more ++ h.more; is = h.is ∙ ap (λ (xs : List Listing). xs ++ h.more) g.is ∙ append_assoc ls g.more h.more }

pub grows_one : (ls : List Listing) (l : Listing) → Grows ls (ls ++ (l ∷ []))
grows_one ls l = record { more = l ∷ []; is = refl }

get_front : (xs ys : List Listing) (n : ℕ) → n < length xs → slice_get (xs ++ ys) n ≡ slice_get xs n
get_front [] ys n h = absurd (omega (arith, h))
get_front (x ∷ xs) ys zero h = refl
get_front (x ∷ xs) ys (suc n) h = get_front xs ys n (omega (arith, h))

leads_more : (ls more : List Listing) (n : ℕ) (b : Block) → LeadsTo ls n b → LeadsTo (ls ++ more) n b
leads_more ls more n b h =
    (omega (arith, h.0, length-append ls more), ap (λ o. block_of (map shown_stmt (stmts_in o))) (get_front ls more n h.0) ∙ h.1)

pub leads_on : (ls ms : List Listing) (n : ℕ) (b : Block) → Grows ls ms → LeadsTo ls n b → LeadsTo ms n b
leads_on ls ms n b g h = subst (λ (xs : List Listing). LeadsTo xs n b) (sym g.is) (leads_more ls g.more n b h)

pub lead_all_on : (ls ms : List Listing) (ns : List ℕ) (bs : Branches) → Grows ls ms → LeadAll ls ns bs → LeadAll ms ns bs
lead_all_on ls ms [] NoBranch g h = tt
lead_all_on ls ms [] (Branch at b end bs) g h = absurd h
lead_all_on ls ms (n ∷ ns) NoBranch g h = absurd h
lead_all_on ls ms (n ∷ ns) (Branch at b end bs) g h = (leads_on ls ms n b g h.0, lead_all_on ls ms ns bs g h.1)

within_on : (ls ms : List Listing) (st : Statement) (k : Links) → Grows ls ms → LeadsWithin ls st k → LeadsWithin ms st k
within_on ls ms (syntax.Let at name_at x e) k g h = tt
within_on ls ms (syntax.Assign at x e) k g h = tt
within_on ls ms (syntax.Call at x activity_at a es r NoElse) k g h = tt
within_on ls ms (syntax.Call at x activity_at a es r (Else b end)) k g h = leads_on ls ms k.first b g h
within_on ls ms (syntax.WaitSignal at x signal_at n) k g h = tt
within_on ls ms (syntax.WaitSignalFor at x signal_at n e b end) k g h = leads_on ls ms k.first b g h
within_on ls ms (syntax.Sleep at e) k g h = tt
within_on ls ms (syntax.If at e a a_end b b_end) k g h = (leads_on ls ms k.first a g h.0, leads_on ls ms k.second b g h.1)
within_on ls ms (syntax.While at e b end) k g h = leads_on ls ms k.first b g h
within_on ls ms (syntax.Parallel at bs end) k g h = tt
within_on ls ms (syntax.Patch at id_at id a a_end b b_end) k g h = (leads_on ls ms k.first a g h.0, leads_on ls ms k.second b g h.1)
within_on ls ms (syntax.Deprecate at id_at id) k g h = tt
within_on ls ms (syntax.Return at e) k g h = tt
within_on ls ms (syntax.FailWith at e) k g h = tt
within_on ls ms (syntax.Continue at es) k g h = tt

pub linked_on : (ls ms : List Listing) (st : Statement) (k : Links) → Grows ls ms → IsLinked ls st k → IsLinked ms st k
linked_on ls ms st k g h = (within_on ls ms st k g h.0, lead_all_on ls ms k.branches.items (branches_in st) g h.1)

pub each_on : (ls ms : List Listing) (ss : List Stmt) (ks : List Links) → Grows ls ms → LinkEach ls ss ks → LinkEach ms ss ks
each_on ls ms [] [] g h = tt
each_on ls ms [] (k ∷ ks) g h = absurd h
each_on ls ms (s ∷ ss) [] g h = absurd h
each_on ls ms (s ∷ ss) (k ∷ ks) g h = (linked_on ls ms (shown_stmt s) k g h.0, each_on ls ms ss ks g h.1)

-- one statement more
pub each_more : (ls : List Listing) (ss : List Stmt) (ks : List Links) (s : Stmt) (k : Links) → LinkEach ls ss ks → IsLinked ls (shown_stmt s) k → LinkEach ls (ss ++ (s ∷ [])) (ks ++ (k ∷ []))
each_more ls [] [] s k h i = (i, tt)
each_more ls [] (x ∷ ks) s k h i = absurd h
each_more ls (x ∷ ss) [] s k h i = absurd h
each_more ls (x ∷ ss) (y ∷ ks) s k h i = (h.0, each_more ls ss ks s k h.1 i)

-- one of the statements
each_at : (ls : List Listing) (ss : List Stmt) (ks : List Links) (i : ℕ) (s : Stmt) → LinkEach ls ss ks → slice_get ss i ≡ Some s → (k : Links) × ((slice_get ks i ≡ Some k) × IsLinked ls (shown_stmt s) k)
each_at ls [] ks i s h e = cc
each_at ls (x ∷ ss) [] i s h e = absurd h
each_at ls (x ∷ ss) (k ∷ ks) zero s h e = (k, (refl, subst (λ (y : Stmt). IsLinked ls (shown_stmt y) k) (some_is x s e) h.0))
  where
    some_is : (x y : Stmt) → Some x ≡ Some y → x ≡ y
    some_is x y e = cc
each_at ls (x ∷ ss) (k ∷ ks) (suc i) s h e = each_at ls ss ks i s h.1 e

-- where a number leads in lists with one more
data Found (xs : List Listing) (l : Listing) (n : ℕ) : Type 0 where
  Before : slice_get (xs ++ (l ∷ [])) n ≡ slice_get xs n → Found xs l n
  Last : slice_get (xs ++ (l ∷ [])) n ≡ Some l → Found xs l n
  Past : slice_get (xs ++ (l ∷ [])) n ≡ None → Found xs l n

found_in : (x : Listing) (xs : List Listing) (l : Listing) (n : ℕ) → Found xs l n → Found (x ∷ xs) l (suc n)
found_in x xs l n (Before e) = Before e
found_in x xs l n (Last e) = Last e
found_in x xs l n (Past e) = Past e

found : (xs : List Listing) (l : Listing) (n : ℕ) → Found xs l n
found [] l zero = Last refl
found [] l (suc n) = Past refl
found (x ∷ xs) l zero = Before refl
found (x ∷ xs) l (suc n) = found_in x xs l n (found xs l n)

abbrev no_stmts : List Stmt
no_stmts = []

linked_by : (ls : List Listing) (l : Listing) (n i : ℕ) (s : Stmt) → AreLinked ls → LinkEach ls l.stmts.value.items l.links.items → Found ls l n → slice_get (stmts_at (ls ++ (l ∷ [])) n) i ≡ Some s
    → (k : Links) × ((slice_get (links_at (ls ++ (l ∷ [])) n) i ≡ Some k) × IsLinked (ls ++ (l ∷ [])) (shown_stmt s) k)
linked_by ls l n i s are each (Before e) there =
    let was = are.at n i s (ap (λ o. slice_get (stmts_in o) i) (sym e) ∙ there) in
    (was.0, (ap (λ o. slice_get (links_in o) i) e ∙ was.1.0, linked_on ls (ls ++ (l ∷ [])) (shown_stmt s) was.0 (grows_one ls l) was.1.1))
linked_by ls l n i s are each (Last e) there =
    let was = each_at ls l.stmts.value.items l.links.items i s each (ap (λ o. slice_get (stmts_in o) i) (sym e) ∙ there) in
    (was.0, (ap (λ o. slice_get (links_in o) i) e ∙ was.1.0, linked_on ls (ls ++ (l ∷ [])) (shown_stmt s) was.0 (grows_one ls l) was.1.1))
linked_by ls l n i s are each (Past e) there = absurd (none_is i (ap (λ o. slice_get (stmts_in o) i) (sym e) ∙ there))
  where
    none_is : (i : ℕ) → slice_get no_stmts i ≡ Some s → ⊥
    none_is i e = cc

-- one list more
pub linked_more : (ls : List Listing) (l : Listing) → AreLinked ls → LinkEach ls l.stmts.value.items l.links.items → AreLinked (ls ++ (l ∷ []))
linked_more ls l are each = record { at = λ n i s there. linked_by ls l n i s are each (found ls l n) there }

get_last : (xs : List Listing) (l : Listing) → slice_get (xs ++ (l ∷ [])) (length xs) ≡ Some l
get_last [] l = refl
get_last (x ∷ xs) l = get_last xs l

pub leads_last : (ls : List Listing) (l : Listing) → LeadsTo (ls ++ (l ∷ [])) (length ls) (block_of (map shown_stmt l.stmts.value.items))
leads_last ls l = (omega (arith, length-append ls (l ∷ [])), ap (λ o. block_of (map shown_stmt (stmts_in o))) (get_last ls l))

-- one branch more
pub lead_all_more : (ls : List Listing) (ns : List ℕ) (bs : List (ℕ × Braced)) (n : ℕ) (b : ℕ × Braced) → LeadAll ls ns (branches_of bs) → LeadsTo ls n b.1.0 → LeadAll ls (ns ++ (n ∷ [])) (branches_of (bs ++ (b ∷ [])))
lead_all_more ls [] [] n b h i = (i, tt)
lead_all_more ls [] (x ∷ bs) n b h i = absurd h
lead_all_more ls (m ∷ ns) [] n b h i = absurd h
lead_all_more ls (m ∷ ns) (x ∷ bs) n b h i = (h.0, lead_all_more ls ns bs n b h.1 i)

-- the lists with one more, whose statements have their links
pub pushed_leads : (ls new : List Listing) (l : Listing) (n : ℕ) → new ≡ ls ++ (l ∷ []) → n ≡ length ls → LeadsTo new n (block_of (map shown_stmt l.stmts.value.items))
pushed_leads ls new l n e f = subst (λ (xs : List Listing). LeadsTo xs n (block_of (map shown_stmt l.stmts.value.items))) (sym e) (subst (λ m. LeadsTo (ls ++ (l ∷ [])) m (block_of (map shown_stmt l.stmts.value.items))) (sym f) (leads_last ls l))

pub pushed_linked : (ls new : List Listing) (l : Listing) → new ≡ ls ++ (l ∷ []) → AreLinked ls → LinkEach ls l.stmts.value.items l.links.items → AreLinked new
pushed_linked ls new l e are each = subst AreLinked (sym e) (linked_more ls l are each)

pub pushed_grows : (ls new : List Listing) (l : Listing) → new ≡ ls ++ (l ∷ []) → Grows ls new
pushed_grows ls new l e = record { more = l ∷ []; is = e }

-- one statement more, where lists were added meanwhile
pub each_step : (ls ms : List Listing) (ss : List Stmt) (ks new : List Links) (i : ℕ) (s : Stmt) (k : Links) → i < length ss → s ≡ get_or ss i s → new ≡ ks ++ (k ∷ []) → Grows ls ms → LinkEach ls (take i ss) ks → IsLinked ms (shown_stmt s) k → LinkEach ms (take (i + 1) ss) new
each_step ls ms ss ks new i s k h f e g each l =
    let taken : take (i + 1) ss ≡ take i ss ++ (s ∷ []) = take_more ss i s h ∙ ap (λ (x : Stmt). take i ss ++ (x ∷ [])) (sym f) in
    subst (λ (xs : List Links). LinkEach ms (take (i + 1) ss) xs) (sym e)
    (subst (λ (xs : List Stmt). LinkEach ms xs (ks ++ (k ∷ []))) (sym taken) (each_more ms (take i ss) ks s k (each_on ls ms (take i ss) ks g each) l))

-- one branch more, where lists were added meanwhile
pub branch_step : (ls ms : List Listing) (cs : List Branched) (ns new : List ℕ) (i : ℕ) (c : Branched) (n : ℕ) (b : ℕ × Braced) → i < length cs → c ≡ get_or cs i c → new ≡ ns ++ (n ∷ []) → Grows ls ms → LeadAll ls ns (branches_of (b ∷ map shown_branch (take i cs))) → LeadsTo ms n (shown_branch c).1.0
    → LeadAll ms new (branches_of (b ∷ map shown_branch (take (i + 1) cs)))
branch_step ls ms cs ns new i c n b h f e g all l =
    let taken : take (i + 1) cs ≡ take i cs ++ (c ∷ []) = take_more cs i c h ∙ ap (λ (x : Branched). take i cs ++ (x ∷ [])) (sym f) in
    let shown : map shown_branch (take (i + 1) cs) ≡ map shown_branch (take i cs) ++ (shown_branch c ∷ []) = ap (map shown_branch) taken ∙ map-append shown_branch (take i cs) (c ∷ []) in
    subst (λ (xs : List ℕ). LeadAll ms xs (branches_of (b ∷ map shown_branch (take (i + 1) cs)))) (sym e)
    (subst (λ (bs : List (ℕ × Braced)). LeadAll ms (ns ++ (n ∷ [])) (branches_of (b ∷ bs))) (sym shown)
    (lead_all_more ms ns (b ∷ map shown_branch (take i cs)) n (shown_branch c) (lead_all_on ls ms ns (branches_of (b ∷ map shown_branch (take i cs))) g all) l))
