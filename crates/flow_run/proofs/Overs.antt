-- Whether a task or a join is over.
use Rattle.std.proofs.Common.{◌≡◌, ℕ, zero, suc, ◌+◌, ◌<◌, ◌≤◌, List, [], ◌∷◌, ◌++◌, ◌-◌, length, map, get_or, set, take, drop, refl, sym, ap, ◌∙◌, subst, arith, Option, Some, None, Bool, true, false}
use Rattle.std.specs.Prelude.{◌&&◌, nat_eq, slice_get}
use Rattle.std.proofs.lemmas.Bool.{true≢false}
use Rattle.std.proofs.lemmas.Bool.Decides.{nat_tests}
use Rattle.flow_base.specs.Syntax.{Block}
use Rattle.std.proofs.lemmas.List.{get_or_default}
use Rattle.flow_model.specs.Rest.{Rest, OnTimer, Then, is_done, is_end}
use Rattle.flow_run.specs.Marks.{within, Mark, One, Many, besides, put, first_rest, running, Counted, Free, Owes, Parent, onto}
use Rattle.flow_run.specs.Flat.{AreFullPlaces, IsFull, blocks_of, join_of, left_at, mark_by, mark_of, marks_of, shown_doing}
use Rattle.flow_nodes.specs.declared.table.Listing.{Listing}
use Rattle.flow_run.specs.declared.cell.Place.{Place}
use Rattle.flow_run.specs.declared.cell.Cell.{Cell}
use Rattle.flow_run.specs.declared.cell.Doing.{Doing}
use Rattle.flow_run.specs.declared.cell.Doing.TheVariants as doing
use Rattle.flow_run.proofs.Forest.{done_besides, open_besides}
use Rattle.flow_run.proofs.Stepping.{one_some}
use Rattle.flow_run.proofs.Ending.{LeftMarks, drop_cut, left_marks, none_counts, some_rest, some_runs}

and_false : (a b : Bool) → b ≡ false → (a && b) ≡ false
and_false true b e = e
and_false false b e = refl

-- what has a place left isn't done
pub full_open : (ls : List Listing) (ps : List Place) (r : Rest) → AreFullPlaces ls ps → 0 < length ps → is_done (within (blocks_of ls ps) r) ≡ false
full_open ls [] r f h = absurd (omega (arith, h))
full_open ls (p ∷ ps) r f h = and_false (is_done (within (blocks_of ls ps) r)) (is_end (left_at ls p)) (f 0 p (omega arith))

pub open_by : (ls : List Listing) (ps : List Place) (d : Doing) (rs : List Rest) → AreFullPlaces ls ps → 0 < length ps → is_done (first_rest (put (mark_by ls (blocks_of ls ps) d) rs)) ≡ false
open_by ls ps doing.Over rs f h = full_open ls ps _ f h
open_by ls ps doing.Empty rs f h = full_open ls ps _ f h
open_by ls ps (doing.OnActivity n x k o) rs f h = full_open ls ps _ f h
open_by ls ps (doing.OnTimer n) rs f h = full_open ls ps _ f h
open_by ls ps (doing.OnSignal x s) rs f h = full_open ls ps _ f h
open_by ls ps (doing.OnSignalFor x s n b) rs f h = full_open ls ps _ f h
open_by ls ps (doing.Raised w t) rs f h = full_open ls ps _ f h
open_by ls ps (doing.Join n k) rs f h = full_open ls ps _ f h

pub besides_run : (n : ℕ) (rs : List Rest) (k : ℕ) → k ≡ running n rs → 0 < k → is_done (besides n rs) ≡ false
besides_run n rs k e h =
    elim (is_done (besides n rs)) as (λ b. is_done (besides n rs) ≡ b → b ≡ false) [
      | true ↦ λ g. absurd (omega (arith, e, h, done_besides n rs g))
      | false ↦ λ g. refl
    ] refl

pub besides_over : (n : ℕ) (rs : List Rest) (k : ℕ) → k ≡ running n rs → k ≤ 0 → is_done (besides n rs) ≡ true
besides_over n rs k e h =
    elim (is_done (besides n rs)) as (λ b. is_done (besides n rs) ≡ b → b ≡ true) [
      | true ↦ λ g. refl
      | false ↦ λ g. absurd (omega (arith, e, h, open_besides n rs g))
    ] refl

-- what stands alone, with nothing that follows
pub last_over : (ls : List Listing) (ps : List Place) (d : Doing) (rs : List Rest) (b : Bool) → ps ≡ [] → is_done (first_rest (put (mark_by ls [] d) rs)) ≡ b → is_done (first_rest (put (mark_by ls (blocks_of ls ps) d) rs)) ≡ b
last_over ls ps d rs b e h = ap (λ (xs : List Place). is_done (first_rest (put (mark_by ls (blocks_of ls xs) d) rs))) e ∙ h

-- the mark of a join, and of what is none
pub many_by : (ls : List Listing) (bs : List Block) (d : Doing) (x : ℕ × ℕ) → join_of d ≡ Some x → mark_by ls bs d ≡ Many bs x.0 x.1
many_by ls bs doing.Over x e = cc
many_by ls bs doing.Empty x e = cc
many_by ls bs (doing.OnActivity n y k o) x e = cc
many_by ls bs (doing.OnTimer n) x e = cc
many_by ls bs (doing.OnSignal y s) x e = cc
many_by ls bs (doing.OnSignalFor y s n b) x e = cc
many_by ls bs (doing.Raised w t) x e = cc
many_by ls bs (doing.Join n k) x e = ap (λ o. many_or (One (Then (within [] (shown_doing ls doing.Over)) (left_at ls (record { list = 0; at = 0; to = 0 })))) bs o) e
  where
    many_or : Mark → List Block → Option (ℕ × ℕ) → Mark
    many_or m bs None = m
    many_or m bs (Some x) = Many bs x.0 x.1

pub one_by : (ls : List Listing) (bs : List Block) (d : Doing) → join_of d ≡ None → mark_by ls bs d ≡ One (within bs (shown_doing ls d))
one_by ls bs doing.Over e = refl
one_by ls bs doing.Empty e = refl
one_by ls bs (doing.OnActivity n x k o) e = refl
one_by ls bs (doing.OnTimer n) e = refl
one_by ls bs (doing.OnSignal x s) e = refl
one_by ls bs (doing.OnSignalFor x s n b) e = refl
one_by ls bs (doing.Raised w t) e = refl
one_by ls bs (doing.Join n k) e = cc

-- the mark at a place
pub mark_at : (ls : List Listing) (cs : List Cell) (j : ℕ) (c : Cell) → j < length cs → c ≡ get_or cs j c → slice_get (marks_of ls cs) j ≡ Some (mark_of ls c)
mark_at ls [] j c h e = absurd (omega (arith, h))
mark_at ls (x ∷ cs) zero c h e = ap (λ (y : Cell). Some (mark_of ls y)) (sym e)
mark_at ls (x ∷ cs) (suc j) c h e = mark_at ls cs j c (omega (arith, h)) e

pub marks_set : (ls : List Listing) (cs : List Cell) (j : ℕ) (c : Cell) → j < length cs → marks_of ls (set cs j c) ≡ take j (marks_of ls cs) ++ (mark_of ls c ∷ drop (suc j) (marks_of ls cs))
marks_set ls [] j c h = absurd (omega (arith, h))
marks_set ls (x ∷ cs) zero c h = refl
marks_set ls (x ∷ cs) (suc j) c h = ap (λ (ms : List Mark). mark_of ls x ∷ ms) (marks_set ls cs j c (omega (arith, h)))

pub marks_length : (ls : List Listing) (cs : List Cell) → length (marks_of ls cs) ≡ length cs
marks_length ls [] = refl
marks_length ls (c ∷ cs) = ap suc (marks_length ls cs)

pub join_rest : (ls : List Listing) (ps : List Place) (d : Doing) (rs : List Rest) (n k : ℕ) → ps ≡ [] → d ≡ doing.Join n k → Counted (mark_by ls (blocks_of ls ps) d ∷ []) rs → (is_done (first_rest (put (mark_by ls (blocks_of ls ps) d) rs)) ≡ is_done (besides n rs)) × (k ≡ running n rs)
join_rest ls ps d rs n k e f h =
    let g : Counted (mark_by ls (blocks_of ls ps) (doing.Join n k) ∷ []) rs = subst (λ (x : Doing). Counted (mark_by ls (blocks_of ls ps) x ∷ []) rs) f h in (
      ap (λ (x : Doing). is_done (first_rest (put (mark_by ls (blocks_of ls ps) x) rs))) f
          ∙ ap (λ (xs : List Place). is_done (within (blocks_of ls xs) (besides n rs))) e,
      g.0,
    )

-- what two equal joins have
abbrev runs_of : Mark → ℕ
runs_of (One r) = 0
runs_of (Many bs n k) = k

abbrev is_many : Mark → Bool
is_many (One r) = false
is_many (Many bs n k) = true

pub same_mark : (ls : List Listing) (cs : List Cell) (j : ℕ) (c : Cell) (m : Mark) → j < length cs → c ≡ get_or cs j c → slice_get (marks_of ls cs) j ≡ Some m → mark_of ls c ≡ m
same_mark ls cs j c m h e f = one_some (mark_of ls c) m (sym (mark_at ls cs j c h e) ∙ f)

-- the cell of a join that is a parent has its counts
pub parent_runs : (ls : List Listing) (cs : List Cell) (i j : ℕ) (p : Parent (marks_of ls cs) i j) → i < length cs → (c : Cell) → c ≡ get_or cs j c → (n k : ℕ) → Some (n, k) ≡ join_of c.doing → Many (blocks_of ls c.places.items) n k ≡ Many p.blocks p.branches p.running
parent_runs ls cs i j p lt c e n k f =
    sym (many_by ls (blocks_of ls c.places.items) c.doing (n, k) (sym f))
    ∙ same_mark ls cs j c (Many p.blocks p.branches p.running) (omega (arith, p.before, lt)) e p.join

pub parent_joins : (ls : List Listing) (cs : List Cell) (i j : ℕ) (p : Parent (marks_of ls cs) i j) → i < length cs → (c : Cell) → c ≡ get_or cs j c → None ≡ join_of c.doing → ⊥
parent_joins ls cs i j p lt c e f =
    let same : One (within (blocks_of ls c.places.items) (shown_doing ls c.doing)) ≡ Many p.blocks p.branches p.running =
    sym (one_by ls (blocks_of ls c.places.items) c.doing (sym f)) ∙ same_mark ls cs j c (Many p.blocks p.branches p.running) (omega (arith, p.before, lt)) e p.join in
    true≢false (sym (ap is_many same))

pub some_left : (ls : List Listing) (cs : List Cell) (i j : ℕ) → Owes (marks_of ls cs) i → (p : Parent (marks_of ls cs) i j) → i < length cs → (c : Cell) → c ≡ get_or cs j c → (n k : ℕ) → Some (n, k) ≡ join_of c.doing → 1 ≤ k
some_left ls cs i j o p lt c e n k f =
    omega (arith, some_runs (marks_of ls cs) i j o p (omega (arith, lt, marks_length ls cs)), ap runs_of (parent_runs ls cs i j p lt c e n k f))

pub left_cells : (ls : List Listing) (cs : List Cell) (i j : ℕ) → Owes (marks_of ls cs) i → (p : Parent (marks_of ls cs) i j) → i < length cs → (c q : Cell) → c ≡ get_or cs j c → q ≡ get_or cs j q → (n k : ℕ) → Some (n, k) ≡ join_of c.doing
    → LeftMarks (marks_of ls cs) (marks_of ls (set cs j (record { places = q.places; doing = doing.Join n (k - 1) }))) j
left_cells ls cs i j o p lt c q e f n k g =
    let inside : j < length cs = omega (arith, p.before, lt) in
    let same : Many (blocks_of ls c.places.items) n k ≡ Many p.blocks p.branches p.running = parent_runs ls cs i j p lt c e n k g in
    let is_c : q ≡ c = f ∙ get_or_default cs j q c inside ∙ sym e in
    let some : 1 ≤ k = some_left ls cs i j o p lt c e n k g in
    left_marks (marks_of ls cs) i j (k - 1) o p (omega (arith, lt, marks_length ls cs)) (omega (arith, some, ap runs_of same)) _
    (marks_set ls cs j (record { places = q.places; doing = doing.Join n (k - 1) }) inside
    ∙ ap (λ (m : Mark). take j (marks_of ls cs) ++ (m ∷ drop (suc j) (marks_of ls cs)))
    (ap (λ (x : Cell). Many (blocks_of ls x.places.items) n (k - 1)) is_c ∙ ap (λ (m : Mark). with_runs m (k - 1)) same))
  where
    with_runs : Mark → ℕ → Mark
    with_runs (One r) d = One r
    with_runs (Many bs n k) d = Many bs n d

pub counted_first : (m : Mark) (ms : List Mark) → Counted (m ∷ ms) [] → Counted (m ∷ []) (onto ms [])
counted_first (One r) ms h = tt
counted_first (Many bs n k) ms h = (h.0, tt)

-- whether what begins at a place is over
pub over_of : (ls : List Listing) (cs : List Cell) (j : ℕ) (c : Cell) (b : Bool) → j < length cs → c ≡ get_or cs j c → Counted (drop j (marks_of ls cs)) [] → ((rs : List Rest) → Counted (mark_of ls c ∷ []) rs → is_done (first_rest (put (mark_of ls c) rs)) ≡ b) → is_done (first_rest (onto (drop j (marks_of ls cs)) [])) ≡ b
over_of ls cs j c b h e counted f =
    let cut : drop j (marks_of ls cs) ≡ mark_of ls c ∷ drop (suc j) (marks_of ls cs) = drop_cut (marks_of ls cs) j (mark_of ls c) (mark_at ls cs j c h e) in
    let here : Counted (mark_of ls c ∷ drop (suc j) (marks_of ls cs)) [] = subst (λ (ms : List Mark). Counted ms []) cut counted in
    ap (λ (ms : List Mark). is_done (first_rest (onto ms []))) cut ∙ f (onto (drop (suc j) (marks_of ls cs)) []) (counted_first (mark_of ls c) (drop (suc j) (marks_of ls cs)) here)

-- no join has it among its branches
pub none_all : (ls : List Listing) (cs : List Cell) (i : ℕ) → i < length cs → Owes (marks_of ls cs) i → ((rs : List Rest) → (k : ℕ) × Free (take i (marks_of ls cs)) k rs) → Counted (marks_of ls cs) []
none_all ls cs i lt o f =
    let ms = marks_of ls cs in
    none_counts ms i o f (OnTimer 0) refl (first_rest (onto (drop i ms) [])) (drop 1 (onto (drop i ms) [])) (some_rest ms i (omega (arith, lt, marks_length ls cs)))

pub no_place : (ps : List Place) → length ps ≡ 0 → ps ≡ []
no_place [] e = refl
no_place (p ∷ ps) e = absurd (omega (arith, e))
