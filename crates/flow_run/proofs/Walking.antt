-- A step at one place, and the whole.
use Rattle.std.proofs.Common.{◌≡◌, ℕ, zero, suc, ◌+◌, ◌-◌, ◌^◌, ⊎_elim, ◌<◌, ◌≤◌, add-one, List, [], ◌∷◌, ◌++◌, length, length-drop, length-take-le, length-set, get_or, set, take, drop, refl, sym, ap, ◌∙◌, subst, arith, Option, Some, None, Bool, true, false}
use Rattle.std.specs.Prelude.{slice_get, insert, remove, min, ◌⊎◌, if◌then◌else◌}
use Rattle.std.proofs.lemmas.Bool.{true≢false}
use Rattle.std.proofs.lemmas.List.{take_at, drop_at, drop-drop, drop_all, get_or_default, take-append-drop, take-take, drop_more}
use Rattle.std.proofs.lemmas.List.Edits.{length-insert, length-remove}
use Rattle.std.proofs.lemmas.Bool.{cases_lt}
use Rattle.flow_base.specs.Syntax.{Block}
use Rattle.flow_model.specs.Rest.{Rest, Beside, OnTimer, is_done, rest_of}
use Rattle.flow_model.specs.Step.{Store, Setting, Move, Stays, Goes, Asks, Ends, move}
use Rattle.flow_run.specs.Marks.{besides, running, within, Mark, One, Many, put, onto, first_rest, Counted, Owes, Settles, Moves, Go, Ask, Finish, at_head, along, or_moves, moves}
use Rattle.flow_run.specs.Flat.{AreFull, AreFullCells, blocks_of, branches_at, branches_of, join_of, is_task, mark_by, mark_of, marks_of, shown_doing, task_rest}
use Rattle.flow_nodes.specs.Links.{block_at}
use Rattle.flow_nodes.specs.declared.table.Listing.{Listing}
use Rattle.flow_run.specs.declared.cell.Place.{Place}
use Rattle.flow_run.specs.declared.cell.Cell.{Cell}
use Rattle.flow_run.specs.declared.cell.Doing.{Doing}
use Rattle.flow_run.specs.declared.cell.Doing.TheVariants as doing
use Rattle.flow_run.proofs.Forest.{onto_append, done_stays}
use Rattle.flow_run.proofs.Counts.{alike_self, counted_alike, counted_join, counted_parts}
use Rattle.flow_run.proofs.Ending.{cut_at, some_rest}
use Rattle.flow_run.proofs.Overs.{mark_at, marks_set, marks_length}

pub task_mark : (ls : List Listing) (bs : List Block) (d : Doing) → is_task d ≡ true → mark_by ls bs d ≡ One (within bs (shown_doing ls d))
task_mark ls bs doing.Over e = refl
task_mark ls bs doing.Empty e = refl
task_mark ls bs (doing.OnActivity n x k o) e = refl
task_mark ls bs (doing.OnTimer n) e = refl
task_mark ls bs (doing.OnSignal x s) e = refl
task_mark ls bs (doing.OnSignalFor x s n b) e = refl
task_mark ls bs (doing.Raised w t) e = refl
task_mark ls bs (doing.Join n k) e = absurd (true≢false (sym e))

-- a new cell at a place: all marks
pub marks_with : (ls : List Listing) (cs : List Cell) (i : ℕ) (c : Cell) → i < length cs → marks_of ls (set cs i c) ≡ take i (marks_of ls cs) ++ (mark_of ls c ∷ drop (i + 1) (marks_of ls cs))
marks_with ls cs i c h =
    marks_set ls cs i c h
    ∙ ap (λ k. take i (marks_of ls cs) ++ (mark_of ls c ∷ drop k (marks_of ls cs))) (sym (add-one i))

pub shows_with : (ls : List Listing) (cs : List Cell) (i : ℕ) (c : Cell) → i < length cs → onto (marks_of ls (set cs i c)) [] ≡ onto (take i (marks_of ls cs)) (put (mark_of ls c) (onto (drop (i + 1) (marks_of ls cs)) []))
shows_with ls cs i c h =
    ap (λ (ms : List Mark). onto ms []) (marks_with ls cs i c h) ∙ onto_append (take i (marks_of ls cs)) (mark_of ls c ∷ drop (i + 1) (marks_of ls cs)) []

some_put : (m : Mark) (rs : List Rest) → put m rs ≡ first_rest (put m rs) ∷ drop 1 (put m rs)
some_put (One r) rs = refl
some_put (Many bs n k) rs = refl

-- a task in place of one: what stands behind, and its count
pub task_put : (ls : List Listing) (c : Cell) (rs : List Rest) → is_task c.doing ≡ true → put (mark_of ls c) rs ≡ task_rest ls c ∷ rs
task_put ls c rs e = ap (λ (m : Mark). put m rs) (task_mark ls (blocks_of ls c.places.items) c.doing e)

pub task_counts : (ls : List Listing) (c : Cell) (ms : List Mark) → is_task c.doing ≡ true → Counted ms [] → Counted (mark_of ls c ∷ ms) []
task_counts ls c ms e h = subst (λ (m : Mark). Counted (m ∷ ms) []) (sym (task_mark ls (blocks_of ls c.places.items) c.doing e)) h

pub task_earlier : (ls : List Listing) (c : Cell) (before : List Mark) (rs : List Rest) → is_task c.doing ≡ true → ((r : Rest) → is_done r ≡ false → Counted before (r ∷ rs)) → (r : Rest) → is_done r ≡ false → Counted before (r ∷ drop 1 (put (mark_of ls c) rs))
task_earlier ls c before rs e f r a = subst (λ (xs : List Rest). Counted before (r ∷ drop 1 xs)) (sym (task_put ls c rs e)) (f r a)

-- another cell at a place: the marks in front of it and behind
pub front_with : (ls : List Listing) (cs : List Cell) (i : ℕ) (c : Cell) → i < length cs → take i (marks_of ls (set cs i c)) ≡ take i (marks_of ls cs)
front_with ls cs i c h =
    let ms = marks_of ls cs in
    ap (take i) (marks_with ls cs i c h) ∙ take_at (take i ms) (mark_of ls c ∷ drop (i + 1) ms) i (length-take-le i ms (omega (arith, h, marks_length ls cs)))

-- all counts, where what begins at a place isn't over
pub settled_all : (ms : List Mark) (i : ℕ) → i < length ms → Settles ms i → is_done (first_rest (onto (drop i ms) [])) ≡ false → Counted ms []
settled_all ms i h s a =
    let rs = onto (drop i ms) [] in
    let front : Counted (take i ms) rs = subst (Counted (take i ms)) (sym (some_rest ms i h)) (s.earlier (first_rest rs) a) in
    subst (λ (xs : List Mark). Counted xs []) (take-append-drop i ms) (counted_join (take i ms) (drop i ms) [] front s.later)

-- another cell at a place: what begins there
pub cut_with : (ls : List Listing) (cs : List Cell) (i : ℕ) (c : Cell) → i < length cs → drop i (marks_of ls (set cs i c)) ≡ mark_of ls c ∷ drop (i + 1) (marks_of ls cs)
cut_with ls cs i c h =
    let ms = marks_of ls cs in
    ap (drop i) (marks_with ls cs i c h) ∙ drop_at (take i ms) (mark_of ls c ∷ drop (i + 1) ms) i (length-take-le i ms (omega (arith, h, marks_length ls cs)))

-- a task at a place, in place of one that wasn't over
pub task_settles : (ls : List Listing) (cs : List Cell) (i : ℕ) (c : Cell) → i < length cs → is_task c.doing ≡ true
    → ((r : Rest) → is_done r ≡ false → Counted (take i (marks_of ls cs)) (r ∷ onto (drop (i + 1) (marks_of ls cs)) [])) → Counted (drop (i + 1) (marks_of ls cs)) [] → Settles (marks_of ls (set cs i c)) i
task_settles ls cs i c h k f g =
    let ms = marks_of ls cs in
    let cut = cut_with ls cs i c h in
    record {
      later = subst (λ (xs : List Mark). Counted xs []) (sym cut) (task_counts ls c (drop (i + 1) ms) k g);
      earlier = λ r b.
          subst (λ (xs : List Mark). Counted xs (r ∷ drop 1 (onto (drop i (marks_of ls (set cs i c))) []))) (sym (front_with ls cs i c h))
          (subst (λ (xs : List Mark). Counted (take i ms) (r ∷ drop 1 (onto xs []))) (sym cut) (task_earlier ls c (take i ms) (onto (drop (i + 1) ms) []) k f r b));
    }

-- what the whole shows with a task at a place
pub task_shows : (ls : List Listing) (cs : List Cell) (i : ℕ) (c : Cell) → i < length cs → is_task c.doing ≡ true → onto (marks_of ls (set cs i c)) [] ≡ onto (take i (marks_of ls cs)) (task_rest ls c ∷ onto (drop (i + 1) (marks_of ls cs)) [])
task_shows ls cs i c h k =
    shows_with ls cs i c h ∙ ap (onto (take i (marks_of ls cs))) (task_put ls c (onto (drop (i + 1) (marks_of ls cs)) []) k)

-- a join at a place
pub join_settles : (ls : List Listing) (cs : List Cell) (i n k : ℕ) (c : Cell) → i < length cs → c.doing ≡ doing.Join n k
    → ((r : Rest) → is_done r ≡ false → Counted (take i (marks_of ls cs)) (r ∷ drop n (onto (drop (i + 1) (marks_of ls cs)) []))) → (k ≡ running n (onto (drop (i + 1) (marks_of ls cs)) [])) × Counted (drop (i + 1) (marks_of ls cs)) [] → Settles (marks_of ls (set cs i c)) i
join_settles ls cs i n k c h e f g =
    let ms = marks_of ls cs in
    let bs = blocks_of ls c.places.items in
    let is : mark_of ls c ≡ Many bs n k = ap (λ (d : Doing). mark_by ls bs d) e in
    let cut : drop i (marks_of ls (set cs i c)) ≡ Many bs n k ∷ drop (i + 1) ms = cut_with ls cs i c h ∙ ap (λ (m : Mark). m ∷ drop (i + 1) ms) is in
    record {
      later = subst (λ (xs : List Mark). Counted xs []) (sym cut) g;
      earlier = λ r b.
          subst (λ (xs : List Mark). Counted xs (r ∷ drop 1 (onto (drop i (marks_of ls (set cs i c))) []))) (sym (front_with ls cs i c h))
          (subst (λ (xs : List Mark). Counted (take i ms) (r ∷ drop 1 (onto xs []))) (sym cut) (f r b));
    }

pub join_shows : (ls : List Listing) (cs : List Cell) (i n k : ℕ) (c : Cell) → i < length cs → c.doing ≡ doing.Join n k → onto (marks_of ls (set cs i c)) [] ≡ onto (take i (marks_of ls cs)) (put (Many (blocks_of ls c.places.items) n k) (onto (drop (i + 1) (marks_of ls cs)) []))
join_shows ls cs i n k c h e =
    shows_with ls cs i c h ∙ ap (λ (m : Mark). onto (take i (marks_of ls cs)) (put m (onto (drop (i + 1) (marks_of ls cs)) []))) (ap (λ (d : Doing). mark_by ls (blocks_of ls c.places.items) d) e)

pub own_count : (m : Mark) (ms : List Mark) → Counted (m ∷ ms) [] → Counted (m ∷ []) (onto ms [])
own_count (One r) ms h = tt
own_count (Many bs n k) ms h = (h.0, tt)

-- a task that can step
pub goes_at : (s : Setting) (t u : Store) (r q : Rest) (rs : List Rest) → Goes q u ≡ move s t r → moves s t (r ∷ rs) ≡ Go (q ∷ rs) u
goes_at s t u r q rs e = ap (λ m. or_moves (at_head rs m) (along (λ qs. r ∷ qs) (moves s t rs))) (sym e)

pub set_there : (cs : List Cell) (i : ℕ) (c d : Cell) → i < length cs → get_or (set cs i c) i d ≡ c
set_there [] i c d h = absurd (omega (arith, h))
set_there (x ∷ cs) zero c d h = refl
set_there (x ∷ cs) (suc i) c d h = set_there cs i c d (omega (arith, h))

-- whether what was put at a place is over, by what is read there
pub settled : (ls : List Listing) (cs : List Cell) (i : ℕ) (c d : Cell) (b : Bool) → i < length cs → d ≡ get_or (set cs i c) i d → Counted (mark_of ls c ∷ drop (i + 1) (marks_of ls cs)) [] → ((rs : List Rest) → Counted (mark_of ls d ∷ []) rs → is_done (first_rest (put (mark_of ls d) rs)) ≡ b) → is_done (first_rest (put (mark_of ls c) (onto (drop (i + 1) (marks_of ls cs)) []))) ≡ b
settled ls cs i c d b h is g f =
    let same : d ≡ c = is ∙ set_there cs i c d h in
    let at : (rs : List Rest) → Counted (mark_of ls c ∷ []) rs → is_done (first_rest (put (mark_of ls c) rs)) ≡ b =
    subst (λ (x : Cell). (rs : List Rest) → Counted (mark_of ls x ∷ []) rs → is_done (first_rest (put (mark_of ls x) rs)) ≡ b) same f in
    at (onto (drop (i + 1) (marks_of ls cs)) []) (own_count (mark_of ls c) (drop (i + 1) (marks_of ls cs)) g)

set_else : (cs : List Cell) (i k : ℕ) (c d : Cell) → (P : Cell → Type 0) → i < length cs → k < length cs → P c → P (get_or cs k d) → P (get_or (set cs i c) k d)
set_else [] i k c d P h g p q = absurd (omega (arith, h))
set_else (x ∷ cs) zero zero c d P h g p q = p
set_else (x ∷ cs) zero (suc k) c d P h g p q = q
set_else (x ∷ cs) (suc i) zero c d P h g p q = q
set_else (x ∷ cs) (suc i) (suc k) c d P h g p q = set_else cs i k c d P (omega (arith, h)) (omega (arith, g)) p q

pub full_set : (ls : List Listing) (cs : List Cell) (i : ℕ) (c : Cell) → i < length cs → AreFullCells ls cs → AreFull ls c → AreFullCells ls (set cs i c)
full_set ls cs i c h f g = λ k d lt. set_else cs i k c d (AreFull ls) h (omega (arith, lt, length-set cs i c)) g (f k d (omega (arith, lt, length-set cs i c)))

-- so many branches that begin
abbrev pub branch_marks : List Listing → List ℕ → List Mark
branch_marks ls [] = []
branch_marks ls (n ∷ ns) = One (rest_of (block_at ls n)) ∷ branch_marks ls ns

abbrev pub open_of : Rest → ℕ
open_of r = if is_done r then 0 else 1

abbrev pub open_branches : List Listing → List ℕ → ℕ
open_branches ls [] = 0
open_branches ls (n ∷ ns) = open_of (rest_of (block_at ls n)) + open_branches ls ns

pub branches_shown : (ls : List Listing) (ns : List ℕ) (ms : List Mark) → besides (length ns) (onto (branch_marks ls ns ++ ms) []) ≡ branches_at ls ns
branches_shown ls [] ms = refl
branches_shown ls (n ∷ ns) ms = ap (Beside (rest_of (block_at ls n))) (branches_shown ls ns ms)

pub branches_behind : (ls : List Listing) (ns : List ℕ) (ms : List Mark) → drop (length ns) (onto (branch_marks ls ns ++ ms) []) ≡ onto ms []
branches_behind ls [] ms = refl
branches_behind ls (n ∷ ns) ms = branches_behind ls ns ms

pub branches_run : (ls : List Listing) (ns : List ℕ) (ms : List Mark) → open_branches ls ns ≡ running (length ns) (onto (branch_marks ls ns ++ ms) [])
branches_run ls [] ms = refl
branches_run ls (n ∷ ns) ms = ap (λ k. open_of (rest_of (block_at ls n)) + k) (branches_run ls ns ms)

pub branches_counted : (ls : List Listing) (ns : List ℕ) (ms : List Mark) → Counted ms [] → Counted (branch_marks ls ns ++ ms) []
branches_counted ls [] ms h = h
branches_counted ls (n ∷ ns) ms h = branches_counted ls ns ms h

-- a cell more behind a place
pub marks_insert : (ls : List Listing) (cs : List Cell) (i : ℕ) (c : Cell) → i ≤ length cs → (take i (marks_of ls (insert cs i c)) ≡ take i (marks_of ls cs)) × (drop i (marks_of ls (insert cs i c)) ≡ mark_of ls c ∷ drop i (marks_of ls cs))
marks_insert ls cs zero c h = (refl, refl)
marks_insert ls [] (suc i) c h = absurd (omega (arith, h))
marks_insert ls (x ∷ cs) (suc i) c h =
    let more = marks_insert ls cs i c (omega (arith, h)) in
    (ap (λ (ms : List Mark). mark_of ls x ∷ ms) more.0, more.1)

pub one_more_open : (r : Rest) (b : Bool) (k x : ℕ) → is_done r ≡ b → x ≡ (if b then 0 else 1) → k + x ≡ open_of r + k
one_more_open r b k x e f = omega (arith, f ∙ ap (λ (d : Bool). if d then 0 else 1) (sym e))

-- whether a branch that begins is over
pub branch_over : (ls : List Listing) (c : Cell) (r : Rest) (b : Bool) → mark_of ls c ≡ One r → ((rs : List Rest) → Counted (mark_of ls c ∷ []) rs → is_done (first_rest (put (mark_of ls c) rs)) ≡ b) → is_done r ≡ b
branch_over ls c r b e f = ap (λ (m : Mark). is_done (first_rest (put m []))) (sym e) ∙ f [] (subst (λ (m : Mark). Counted (m ∷ []) []) (sym e) tt)

pub same_front : (ms ns : List Mark) (i : ℕ) → take (i + 1) ms ≡ take (i + 1) ns → take i ms ≡ take i ns
same_front ms ns i e = sym (take-take i (i + 1) ms (omega arith)) ∙ ap (take i) e ∙ take-take i (i + 1) ns (omega arith)

-- a branch more
pub behind_more : (ls : List Listing) (ns : List ℕ) (k : ℕ) (m : Mark) (ms ds : List Mark) → k < length ns → m ≡ One (rest_of (block_at ls (get_or ns k 0))) → ms ≡ branch_marks ls (drop (k + 1) ns) ++ ds → (m ∷ ms) ≡ branch_marks ls (drop k ns) ++ ds
behind_more ls ns k m ms ds h e f =
    (λ i. e i ∷ f i) ∙ ap (λ (xs : List ℕ). branch_marks ls xs ++ ds) (sym (drop_more ns k 0 h))

pub runs_more : (ls : List Listing) (ns : List ℕ) (k x y : ℕ) → k < length ns → y ≡ open_branches ls (drop (k + 1) ns) → x ≡ open_of (rest_of (block_at ls (get_or ns k 0))) + y → x ≡ open_branches ls (drop k ns)
runs_more ls ns k x y h e f = f ∙ ap (λ n. open_of (rest_of (block_at ls (get_or ns k 0))) + n) e ∙ ap (open_branches ls) (sym (drop_more ns k 0 h))

insert_else : (cs : List Cell) (n k : ℕ) (c d : Cell) → (P : Cell → Type 0) → n ≤ length cs → k < suc (length cs) → P c → ((j : ℕ) (e : Cell) → j < length cs → P (get_or cs j e)) → P (get_or (insert cs n c) k d)
insert_else cs zero zero c d P h g p q = p
insert_else cs zero (suc k) c d P h g p q = q k d (omega (arith, g))
insert_else [] (suc n) k c d P h g p q = absurd (omega (arith, h))
insert_else (x ∷ cs) (suc n) zero c d P h g p q = q 0 d (omega arith)
insert_else (x ∷ cs) (suc n) (suc k) c d P h g p q = insert_else cs n k c d P (omega (arith, h)) (omega (arith, g)) p (λ j e lt. q (suc j) e (omega (arith, lt)))

pub full_insert : (ls : List Listing) (cs : List Cell) (n : ℕ) (c : Cell) → n ≤ length cs → AreFullCells ls cs → AreFull ls c → AreFullCells ls (insert cs n c)
full_insert ls cs n c h f g = λ k d lt. insert_else cs n k c d (AreFull ls) h (omega (arith, lt, length-insert cs n c h)) g f

pub at_most_one : (b : Bool) (x : ℕ) → x ≡ (if b then 0 else 1) → x ≤ 1
at_most_one true x e = omega (arith, e)
at_most_one false x e = omega (arith, e)

drop_none : (n : ℕ) → drop {A = Rest} n [] ≡ []
drop_none zero = refl
drop_none (suc n) = refl

-- nothing stands behind
pub none_behind : (ms : List Mark) (i n : ℕ) (rs : List Rest) → length ms ≤ i → drop n (onto (drop i ms) []) ≡ rs → onto (drop i ms) [] ≡ rs
none_behind ms i n rs h e =
    let nothing : drop i ms ≡ [] = drop_all i ms h in
    ap (λ (xs : List Mark). onto xs []) nothing ∙ sym (drop_none n) ∙ ap (λ (xs : List Mark). drop n (onto xs [])) (sym nothing) ∙ e

pub onto_length : (ms : List Mark) → length (onto ms []) ≤ length ms
onto_length [] = omega arith
onto_length (One r ∷ ms) = omega (arith, onto_length ms)
onto_length (Many bs n k ∷ ms) = omega (arith, onto_length ms, length-drop n (onto ms []))

drop_far : (n m : ℕ) (xs : List Rest) → length xs ≤ m → drop (min n m) xs ≡ drop n xs
drop_far n m xs h =
    ⊎_elim (λ (lt : n < m). ap (λ k. drop k xs) (omega (arith, lt)))
    (λ (le : m ≤ n). drop_all (min n m) xs (omega (arith, le, h)) ∙ sym (drop_all n xs (omega (arith, le, h)))) (cases_lt n m)

-- one more cell is gone
pub gone_by : (ls : List Listing) (c : Cell) (x : ℕ) (rs : List Rest) → x ≡ branches_of (join_of c.doing) → (l : ℕ) → drop (suc l) (put (mark_of ls c) rs) ≡ drop (l + x) rs
gone_by ls c x rs e l = gone_doing (blocks_of ls c.places.items) c.doing e
  where
    gone_doing : (bs : List Block) (d : Doing) → x ≡ branches_of (join_of d) → drop (suc l) (put (mark_by ls bs d) rs) ≡ drop (l + x) rs
    gone_doing bs doing.Over f = ap (λ k. drop k rs) (omega (arith, f))
    gone_doing bs doing.Empty f = ap (λ k. drop k rs) (omega (arith, f))
    gone_doing bs (doing.OnActivity n y k o) f = ap (λ k. drop k rs) (omega (arith, f))
    gone_doing bs (doing.OnTimer n) f = ap (λ k. drop k rs) (omega (arith, f))
    gone_doing bs (doing.OnSignal y s) f = ap (λ k. drop k rs) (omega (arith, f))
    gone_doing bs (doing.OnSignalFor y s n b) f = ap (λ k. drop k rs) (omega (arith, f))
    gone_doing bs (doing.Raised w t) f = ap (λ k. drop k rs) (omega (arith, f))
    gone_doing bs (doing.Join n k) f = drop-drop l n rs ∙ ap (λ k. drop k rs) (omega (arith, f))

pub marks_remove : (ls : List Listing) (cs : List Cell) (i : ℕ) (c : Cell) → i < length cs → c ≡ get_or cs i c → (take i (marks_of ls (remove cs i)) ≡ take i (marks_of ls cs)) × (drop i (marks_of ls cs) ≡ mark_of ls c ∷ drop i (marks_of ls (remove cs i)))
marks_remove ls [] i c h e = absurd (omega (arith, h))
marks_remove ls (x ∷ cs) zero c h e = (refl, ap (λ (y : Cell). mark_of ls y ∷ marks_of ls cs) (sym e))
marks_remove ls (x ∷ cs) (suc i) c h e =
    let more = marks_remove ls cs i c (omega (arith, h)) e in
    (ap (λ (ms : List Mark). mark_of ls x ∷ ms) more.0, more.1)

counted_tail : (m : Mark) (ms : List Mark) (rs : List Rest) → Counted (m ∷ ms) rs → Counted ms rs
counted_tail (One r) ms rs h = h
counted_tail (Many bs n k) ms rs h = h.1

-- what the loop keeps, one cell further
pub record Cleared (ls : List Listing) (cs ds : List Cell) (i l x : ℕ) : Type 0 where
  pub front : take i (marks_of ls ds) ≡ take i (marks_of ls cs)
  pub shows : drop x (onto (drop i (marks_of ls ds)) []) ≡ drop (suc l) (onto (drop i (marks_of ls cs)) [])
  pub counted : Counted (drop i (marks_of ls ds)) []

pub cleared : (ls : List Listing) (cs ds : List Cell) (i l b x : ℕ) (c : Cell) → i < length cs → length cs < 2 ^ 59 → c ≡ get_or cs i c → ds ≡ remove cs i → b ≡ branches_of (join_of c.doing) → x ≡ min (l + b) (2 ^ 64 - 1) → Counted (drop i (marks_of ls cs)) [] → Cleared ls cs ds i l x
cleared ls cs ds i l b x c h few e f g k counted =
    let ms = marks_of ls cs in
    let now = marks_of ls (remove cs i) in
    let parts = marks_remove ls cs i c h e in
    let size : length (onto (drop i now) []) ≤ 2 ^ 64 - 1 =
    omega (arith, onto_length (drop i now), length-drop i now, marks_length ls (remove cs i), length-remove cs i h, few) in
    let made : Cleared ls cs (remove cs i) i l x = record {
      front = parts.0;
      shows = ap (λ n. drop n (onto (drop i now) [])) k ∙ drop_far (l + b) (2 ^ 64 - 1) (onto (drop i now) []) size
          ∙ sym (gone_by ls c b (onto (drop i now) []) g l) ∙ ap (λ (xs : List Mark). drop (suc l) (onto xs [])) (sym parts.1);
      counted = counted_tail (mark_of ls c) (drop i now) [] (subst (λ (xs : List Mark). Counted xs []) parts.1 counted);
    } in
    subst (λ (xs : List Cell). Cleared ls cs xs i l x) (sym f) made

remove_else : (cs : List Cell) (n k : ℕ) (d : Cell) → (P : Cell → Type 0) → n < length cs → suc k < length cs → ((j : ℕ) (e : Cell) → j < length cs → P (get_or cs j e)) → P (get_or (remove cs n) k d)
remove_else [] n k d P h g q = absurd (omega (arith, h))
remove_else (x ∷ cs) zero k d P h g q = q (suc k) d (omega (arith, g))
remove_else (x ∷ cs) (suc n) zero d P h g q = q 0 d (omega arith)
remove_else (x ∷ cs) (suc n) (suc k) d P h g q = remove_else cs n k d P (omega (arith, h)) (omega (arith, g)) (λ j e lt. q (suc j) e (omega (arith, lt)))

pub full_remove : (ls : List Listing) (cs : List Cell) (n : ℕ) → n < length cs → AreFullCells ls cs → AreFullCells ls (remove cs n)
full_remove ls cs n h f = λ k d lt. remove_else cs n k d (AreFull ls) h (omega (arith, lt, length-remove cs n h)) f

-- what steps wasn't done
abbrev pub IsStay : Move → Type 0
IsStay Stays = Unit {0}
IsStay m = ⊥

pub open_before : (s : Setting) (t : Store) (r : Rest) (m : Move) → m ≡ move s t r → (IsStay m → ⊥) → is_done r ≡ false
open_before s t r m e f =
    elim (is_done r) as (λ b. is_done r ≡ b → b ≡ false) [
      | true ↦ λ g. absurd (f (subst IsStay (sym (e ∙ done_stays s t r g)) tt))
      | false ↦ λ g. refl
    ] refl

-- a cell with the same places and doing
pub marks_same : (ls : List Listing) (cs : List Cell) (i : ℕ) (c d : Cell) → i < length cs → d.places.items ≡ c.places.items → d.doing ≡ c.doing → marks_of ls (set cs i d) ≡ take i (marks_of ls cs) ++ (mark_of ls c ∷ drop (i + 1) (marks_of ls cs))
marks_same ls cs i c d h e f =
    marks_with ls cs i d h
    ∙ (λ j. take i (marks_of ls cs) ++ (mark_by ls (blocks_of ls (e j)) (f j) ∷ drop (i + 1) (marks_of ls cs)))

pub behind_with : (ls : List Listing) (cs : List Cell) (i : ℕ) (c : Cell) → i < length cs → drop (i + 1) (marks_of ls (set cs i c)) ≡ drop (i + 1) (marks_of ls cs)
behind_with ls cs i c h =
    let ms = marks_of ls cs in
    ap (drop (i + 1)) (marks_with ls cs i c h) ∙ behind_by (take i ms) (mark_of ls c) (drop (i + 1) ms) i (length-take-le i ms (omega (arith, h, marks_length ls cs)))
  where
    behind_by : (xs : List Mark) (m : Mark) (ys : List Mark) (i : ℕ) → length xs ≡ i → drop (i + 1) (xs ++ (m ∷ ys)) ≡ ys
    behind_by xs m ys i e = sym (drop-drop 1 i (xs ++ (m ∷ ys))) ∙ ap (drop 1) (drop_at xs (m ∷ ys) i e)

remove_before : (cs : List Cell) (n k : ℕ) (d : Cell) → k < n → n < length cs → get_or (remove cs n) k d ≡ get_or cs k d
remove_before [] n k d h g = absurd (omega (arith, g))
remove_before (x ∷ cs) zero k d h g = absurd (omega (arith, h))
remove_before (x ∷ cs) (suc n) zero d h g = refl
remove_before (x ∷ cs) (suc n) (suc k) d h g = remove_before cs n k d (omega (arith, h)) (omega (arith, g))

pub kept_before : (cs ds : List Cell) (n k : ℕ) (d : Cell) → ds ≡ remove cs n → k < n → n < length cs → get_or ds k d ≡ get_or cs k d
kept_before cs ds n k d e h g = ap (λ (xs : List Cell). get_or xs k d) e ∙ remove_before cs n k d h g

insert_before : (cs : List Cell) (n k : ℕ) (c d : Cell) → k < n → n ≤ length cs → get_or (insert cs n c) k d ≡ get_or cs k d
insert_before cs zero k c d h g = absurd (omega (arith, h))
insert_before [] (suc n) k c d h g = absurd (omega (arith, g))
insert_before (x ∷ cs) (suc n) zero c d h g = refl
insert_before (x ∷ cs) (suc n) (suc k) c d h g = insert_before cs n k c d (omega (arith, h)) (omega (arith, g))

pub kept_in_front : (cs ds : List Cell) (n k : ℕ) (c d : Cell) → ds ≡ insert cs n c → k < n → n ≤ length cs → get_or ds k d ≡ get_or cs k d
kept_in_front cs ds n k c d e h g = ap (λ (xs : List Cell). get_or xs k d) e ∙ insert_before cs n k c d h g

-- one cell of a list
pub same_cell : (cs : List Cell) (i : ℕ) (c d : Cell) → i < length cs → c ≡ get_or cs i c → d ≡ get_or cs i d → c ≡ d
same_cell cs i c d h e f = e ∙ get_or_default cs i c d h ∙ sym f
