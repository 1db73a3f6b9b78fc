-- One step of a task that waits for nothing: its next statement begins.
use Rattle.std.proofs.Common.{◌≡◌, ℕ, zero, suc, ◌<◌, List, [], ◌∷◌, ◌++◌, length, refl, sym, ap, ◌∙◌, subst, arith, Some, Bool, true, false}
use Rattle.std.specs.Prelude.{slice_get}
use Rattle.flow_base.specs.Syntax as syntax
use Rattle.flow_base.specs.Syntax.{Statement, Block, Next, NoElse, Else, Branches, NoBranch, Branch}
use Rattle.flow_base.specs.Shown.{shown_stmt}
use Rattle.flow_base.specs.declared.syntax.Stmt.{Stmt}
use Rattle.flow_base.specs.declared.event.Cmd.TheVariants.{Fail}
use Rattle.flow_model.specs.Rest.{Rest, Beside, branches_of, is_done, rest_of}
use Rattle.flow_model.specs.Step.{Store, Setting, Move, Stays, Goes, Asks, Ends, around, followed_by, begin, move}
use Rattle.flow_run.specs.Marks.{within}
use Rattle.flow_run.specs.Flat.{IsLinked, IsNext, blocks_of, branches_at, branches_in, branches_in_links, is_idle, shown_doing, split_at}
use Rattle.flow_nodes.specs.Links as links
use Rattle.flow_run.specs.declared.cell.Doing.{Doing}
use Rattle.flow_run.specs.declared.cell.Doing.TheVariants as doing
use Rattle.flow_nodes.specs.Links.{LeadAll, LeadsWithin, AreLinked, stmts_at, links_at}
use Rattle.flow_nodes.specs.declared.table.Listing.{Listing}
use Rattle.flow_nodes.specs.declared.table.Links.{Links}
use Rattle.flow_run.specs.declared.cell.Place.{Place}
use Rattle.flow_run.proofs.Forest.{within_append, within_begins, within_moves, around_twice}

pub in_list : {A : Type 0} (xs : List A) (i : ℕ) (x : A) → slice_get xs i ≡ Some x → i < length xs
in_list [] i x e = cc
in_list (y ∷ xs) zero x e = omega arith
in_list (y ∷ xs) (suc i) x e = omega (arith, in_list xs i x e)

pub one_some : {A : Type 0} (x y : A) → Some x ≡ Some y → x ≡ y
one_some x y e = cc

-- the statement that is next begins, within all that follows it
pub steps_as : (s : Setting) (t : Store) (ls : List Listing) (old new : List Place) (p : Place) → IsNext ls old new p → (d : Rest) → is_done d ≡ true → (st : Stmt) → slice_get (stmts_at ls p.list) p.at ≡ Some st → move s t (within (blocks_of ls old) d) ≡ around (within (blocks_of ls new)) (begin s t (shown_stmt st))
steps_as s t ls old new p n d e st there =
    let b : Block = Next (shown_stmt n.stmt) n.rest in
    let same : n.stmt ≡ st = one_some n.stmt st (sym n.there ∙ there) in
    ap (λ (bs : List Block). move s t (within bs d)) n.blocks
    ∙ ap (move s t) (within_append n.under (b ∷ []) d)
    ∙ within_begins s t n.under d (shown_stmt n.stmt) n.rest e
    ∙ around_twice (within n.under) (followed_by n.rest) (begin s t (shown_stmt n.stmt))
    ∙ ap (λ (f : Rest → Rest). around f (begin s t (shown_stmt n.stmt))) (λ i. λ q. sym (n.left q) i)
    ∙ ap (λ (x : Stmt). around (within (blocks_of ls new)) (begin s t (shown_stmt x))) same

-- what the links of a statement lead to
fits : (ls : List Listing) (st : Statement) (k : Links) → LeadsWithin ls st k → IsLinked ls st k
fits ls (syntax.Let at name_at x e) k h = tt
fits ls (syntax.Assign at x e) k h = tt
fits ls (syntax.Call at x activity_at a es r NoElse) k h = tt
fits ls (syntax.Call at x activity_at a es r (Else b end)) k h = h.1
fits ls (syntax.WaitSignal at x signal_at n) k h = tt
fits ls (syntax.WaitSignalFor at x signal_at n e b end) k h = h.1
fits ls (syntax.Sleep at e) k h = tt
fits ls (syntax.If at e a a_end b b_end) k h = (h.0.1, h.1.1)
fits ls (syntax.While at e b end) k h = h.1
fits ls (syntax.Parallel at bs end) k h = tt
fits ls (syntax.Patch at id_at id a a_end b b_end) k h = (h.0.1, h.1.1)
fits ls (syntax.Deprecate at id_at id) k h = tt
fits ls (syntax.Return at e) k h = tt
fits ls (syntax.FailWith at e) k h = tt
fits ls (syntax.Continue at es) k h = tt

branches_fit : (ls : List Listing) (ns : List ℕ) (bs : Branches) → LeadAll ls ns bs → branches_at ls ns ≡ branches_of bs
branches_fit ls [] NoBranch h = refl
branches_fit ls [] (Branch at b end bs) h = absurd h
branches_fit ls (n ∷ ns) NoBranch h = absurd h
branches_fit ls (n ∷ ns) (Branch at b end bs) h = λ i. Beside (rest_of (h.0.1 i)) (branches_fit ls ns bs h.1 i)

branches_same : (st : Statement) → branches_of (links.branches_in st) ≡ branches_in st
branches_same (syntax.Let at name_at x e) = refl
branches_same (syntax.Assign at x e) = refl
branches_same (syntax.Call at x activity_at a es r o) = refl
branches_same (syntax.WaitSignal at x signal_at n) = refl
branches_same (syntax.WaitSignalFor at x signal_at n e b end) = refl
branches_same (syntax.Sleep at e) = refl
branches_same (syntax.If at e a a_end b b_end) = refl
branches_same (syntax.While at e b end) = refl
branches_same (syntax.Parallel at bs end) = refl
branches_same (syntax.Patch at id_at id a a_end b b_end) = refl
branches_same (syntax.Deprecate at id_at id) = refl
branches_same (syntax.Return at e) = refl
branches_same (syntax.FailWith at e) = refl
branches_same (syntax.Continue at es) = refl

-- the links of a statement of the table
pub linked_at : (ls : List Listing) (n i : ℕ) (st : Stmt) → AreLinked ls → slice_get (stmts_at ls n) i ≡ Some st → (k : Links) → slice_get (links_at ls n) i ≡ Some k → IsLinked ls (shown_stmt st) k
linked_at ls n i st linked there k e =
    let found = linked.at n i st there in
    subst (λ (l : Links). IsLinked ls (shown_stmt st) l) (one_some found.0 k (sym found.1.0 ∙ e)) (fits ls (shown_stmt st) found.0 found.1.1.0)

-- there are links at its place
pub links_there : (ls : List Listing) (n i : ℕ) (st : Stmt) → AreLinked ls → slice_get (stmts_at ls n) i ≡ Some st → i < length (links_at ls n)
links_there ls n i st linked there =
    let found = linked.at n i st there in
    in_list (links_at ls n) i found.0 found.1.0

-- the branches of a statement of the table
pub split_is : (ls : List Listing) (p : Place) (st : Stmt) → AreLinked ls → slice_get (stmts_at ls p.list) p.at ≡ Some st → split_at ls p ≡ branches_in (shown_stmt st)
split_is ls p st linked there =
    let found = linked.at p.list p.at st there in
    ap (λ o. branches_at ls (branches_in_links o)) found.1.0
    ∙ branches_fit ls found.0.branches.items (links.branches_in (shown_stmt st)) found.1.1.1
    ∙ branches_same (shown_stmt st)

pub idle_done : (ls : List Listing) (d : Doing) → is_idle d ≡ true → is_done (shown_doing ls d) ≡ true
idle_done ls doing.Over e = refl
idle_done ls doing.Empty e = refl
idle_done ls (doing.OnActivity n x k o) e = cc
idle_done ls (doing.OnTimer n) e = cc
idle_done ls (doing.OnSignal x s) e = cc
idle_done ls (doing.OnSignalFor x s n b) e = cc
idle_done ls (doing.Raised w t) e = cc
idle_done ls (doing.Join n k) e = cc

pub idle_stays : (s : Setting) (t : Store) (ls : List Listing) (d : Doing) → is_idle d ≡ true → Stays ≡ move s t (shown_doing ls d)
idle_stays s t ls doing.Over e = refl
idle_stays s t ls doing.Empty e = refl
idle_stays s t ls (doing.OnActivity n x k o) e = cc
idle_stays s t ls (doing.OnTimer n) e = cc
idle_stays s t ls (doing.OnSignal x g) e = cc
idle_stays s t ls (doing.OnSignalFor x g n b) e = cc
idle_stays s t ls (doing.Raised w u) e = cc
idle_stays s t ls (doing.Join n k) e = cc

pub no_blocks : (s : Setting) (t : Store) (ls : List Listing) (d : Doing) (ps : List Place) → is_idle d ≡ true → ps ≡ [] → Stays ≡ move s t (within (blocks_of ls ps) (shown_doing ls d))
no_blocks s t ls d ps i e = idle_stays s t ls d i ∙ ap (λ (xs : List Place). move s t (within (blocks_of ls xs) (shown_doing ls d))) (sym e)

-- what a task does by itself decides its step, where that isn't done
at_once : (s : Setting) (t : Store) (bs : List Block) (r q : Rest) (m : Move) → r ≡ q → is_done q ≡ false → move s t q ≡ m → around (within bs) m ≡ move s t (within bs r)
at_once s t bs r q m e d h = ap (around (within bs)) (sym h) ∙ sym (within_moves s t bs q d) ∙ ap (λ (x : Rest). move s t (within bs x)) (sym e)

pub activity_stays : (s : Setting) (t : Store) (ls : List Listing) (ps : List Place) (d : Doing) (n : ℕ) (x : _) (k : _) (o : _) → d ≡ doing.OnActivity n x k o → Stays ≡ move s t (within (blocks_of ls ps) (shown_doing ls d))
activity_stays s t ls ps d n x k o e = at_once s t (blocks_of ls ps) (shown_doing ls d) (shown_doing ls (doing.OnActivity n x k o)) Stays (ap (shown_doing ls) e) refl refl

pub timer_stays : (s : Setting) (t : Store) (ls : List Listing) (ps : List Place) (d : Doing) (n : ℕ) → d ≡ doing.OnTimer n → Stays ≡ move s t (within (blocks_of ls ps) (shown_doing ls d))
timer_stays s t ls ps d n e = at_once s t (blocks_of ls ps) (shown_doing ls d) (shown_doing ls (doing.OnTimer n)) Stays (ap (shown_doing ls) e) refl refl

pub raised_ends : (s : Setting) (t : Store) (ls : List Listing) (ps : List Place) (d : Doing) (w : _) (text : _) → d ≡ doing.Raised w text → Ends (Fail w text) ≡ move s t (within (blocks_of ls ps) (shown_doing ls d))
raised_ends s t ls ps d w text e = at_once s t (blocks_of ls ps) (shown_doing ls d) (shown_doing ls (doing.Raised w text)) (Ends (Fail w text)) (ap (shown_doing ls) e) refl refl

pub signal_steps : (s : Setting) (t : Store) (ls : List Listing) (ps : List Place) (d : Doing) (x : _) (g : _) (m : Move) → d ≡ doing.OnSignal x g → m ≡ move s t (shown_doing ls (doing.OnSignal x g)) → around (within (blocks_of ls ps)) m ≡ move s t (within (blocks_of ls ps) (shown_doing ls d))
signal_steps s t ls ps d x g m e h = at_once s t (blocks_of ls ps) (shown_doing ls d) (shown_doing ls (doing.OnSignal x g)) m (ap (shown_doing ls) e) refl (sym h)

pub signal_for_steps : (s : Setting) (t : Store) (ls : List Listing) (ps : List Place) (d : Doing) (x : _) (g : _) (n : ℕ) (b : ℕ) (m : Move) → d ≡ doing.OnSignalFor x g n b → m ≡ move s t (shown_doing ls (doing.OnSignalFor x g n b)) → around (within (blocks_of ls ps)) m ≡ move s t (within (blocks_of ls ps) (shown_doing ls d))
signal_for_steps s t ls ps d x g n b m e h = at_once s t (blocks_of ls ps) (shown_doing ls d) (shown_doing ls (doing.OnSignalFor x g n b)) m (ap (shown_doing ls) e) refl (sym h)
