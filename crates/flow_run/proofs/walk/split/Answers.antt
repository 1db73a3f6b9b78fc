use Rattle.std.proofs.Common.{◌≡◌, ◌+◌, ◌-◌, ◌<◌, ◌≤◌, ℕ, List, [], ◌∷◌, ◌++◌, length, get_or, take, drop, ap, refl, sym, subst, ◌∙◌, arith, rules, true, false}
use Rattle.std.specs.Prelude.{insert}
use Rattle.flow_base.specs.Syntax.{Block}
use Rattle.flow_model.specs.Rest.{Rest, is_done, rest_of}
use Rattle.flow_run.specs.Marks.{Counted, Mark, Many, onto, put, within, besides, running}
use Rattle.std.proofs.lemmas.List.Edits.{length-insert}
use Rattle.flow_run.specs.Flat.{AreFull, AreFullCells, blocks_of, branches_at, marks_of}
use Rattle.flow_nodes.specs.Links.{block_at}
use Rattle.flow_run.specs.declared.cell.Cell.{Cell}
use Rattle.flow_run.specs.declared.cell.Doing.TheVariants as doing
use Rattle.flow_run.proofs.Walking.{join_settles, join_shows, kept_in_front, same_cell, full_set, at_most_one, behind_more, branch_marks, branch_over, branches_behind, branches_counted, branches_run, branches_shown, full_insert, marks_insert, one_more_open, open_branches, runs_more, same_front}
use Rattle.flow_run.proofs.walk.split.Goals as goal

pub loop-k-preserved : goal.loop-k-preserved
loop-k-preserved c =
    let ls = c.args.table.now.lists.items in
    let ns = c.args.lists.now in
    let old = c.loop-k.cells.items in
    let i = c.args.i in
    let k : ℕ = c.loop-k.k - 1 in
    let child = c.in_ok-child.child in
    let inv = c.loop-k.invariant in
    let inside : k < length ns = omega (arith, inv.number) in
    let back : c.loop-k.k ≡ k + 1 = omega arith in
    let r : Rest = rest_of (block_at ls (get_or ns k 0)) in
    let moved = marks_insert ls old (i + 1) child (omega (arith, inv.there)) in
    let over : is_done r ≡ c.is_over.result = branch_over ls child r c.is_over.result c.in_ok-child.ensures.mark c.is_over.ensures in
    let runs : c.loop-k.running ≡ open_branches ls (drop (k + 1) ns) = subst (λ (x : ℕ). c.loop-k.running ≡ open_branches ls (drop x ns)) back inv.runs in
    let behind : drop (i + 1) (marks_of ls old) ≡ branch_marks ls (drop (k + 1) ns) ++ drop (i + 1) (marks_of ls c.args.cells.now.items) =
    subst (λ (x : ℕ). drop (i + 1) (marks_of ls old) ≡ branch_marks ls (drop x ns) ++ drop (i + 1) (marks_of ls c.args.cells.now.items)) back inv.behind in
    let size : length c.insert.new.self.items ≡ length old + 1 = ap length c.in_ok-insert.ensures.items ∙ length-insert old (i + 1) child (omega (arith, inv.there)) in
    record {
      there = omega (arith, inv.there, size);
      number = omega (arith, inv.number);
      front = ap (λ (cs : List Cell). take (i + 1) (marks_of ls cs)) c.in_ok-insert.ensures.items ∙ moved.0 ∙ inv.front;
      behind = ap (λ (cs : List Cell). drop (i + 1) (marks_of ls cs)) c.in_ok-insert.ensures.items ∙ moved.1
          ∙ behind_more ls ns k _ (drop (i + 1) (marks_of ls old)) _ inside c.in_ok-child.ensures.mark behind;
      runs = runs_more ls ns k _ c.loop-k.running inside runs (one_more_open r c.is_over.result c.loop-k.running c.count-running.result over c.count-running.ensures);
      cell = λ d. kept_in_front old c.insert.new.self.items (i + 1) i child d c.in_ok-insert.ensures.items (omega arith) (omega (arith, inv.there)) ∙ inv.cell d;
      few = omega (arith, inv.few, at_most_one c.is_over.result c.count-running.result c.count-running.ensures);
      full = subst (AreFullCells ls) (sym c.in_ok-insert.ensures.items) (full_insert ls old (i + 1) child (omega (arith, inv.there)) inv.full c.in_ok-child.ensures.full);
    }

pub settle-requires-clause-full : goal.settle-requires-clause-full
settle-requires-clause-full c =
    let ls = c.args.table.now.lists.items in
    let now = c.loop-k.cells.items in
    let i = c.args.i in
    let q = c.index_mut.result.now in
    let full : AreFull ls q = subst (AreFull ls) (sym c.index_mut.ensures.value) (c.loop-k.invariant.full i q c.loop-k.invariant.there) in
    full_set ls now i (record { places = q.places; doing = doing.Join (length c.args.lists.now) c.loop-k.running }) c.loop-k.invariant.there c.loop-k.invariant.full full

pub settle-requires-clause-settles : goal.settle-requires-clause-settles
settle-requires-clause-settles c =
    let ls = c.args.table.now.lists.items in
    let ns = c.args.lists.now in
    let i = c.args.i in
    let first = marks_of ls c.args.cells.now.items in
    let now = marks_of ls c.loop-k.cells.items in
    let q = c.index_mut.result.now in
    let none : c.loop-k.k ≡ 0 = omega arith in
    let behind : drop (i + 1) now ≡ branch_marks ls ns ++ drop (i + 1) first =
    subst (λ (x : ℕ). drop (i + 1) now ≡ branch_marks ls (drop x ns) ++ drop (i + 1) first) none c.loop-k.invariant.behind in
    let left : drop (length ns) (onto (drop (i + 1) now) []) ≡ onto (drop (i + 1) first) [] =
    ap (λ (ms : List Mark). drop (length ns) (onto ms [])) behind ∙ branches_behind ls ns (drop (i + 1) first) in
    let runs : c.loop-k.running ≡ open_branches ls ns = subst (λ (x : ℕ). c.loop-k.running ≡ open_branches ls (drop x ns)) none c.loop-k.invariant.runs in
    let earlier : (r : Rest) → is_done r ≡ false → Counted (take i now) (r ∷ drop (length ns) (onto (drop (i + 1) now) [])) = λ r a.
    subst (λ (ms : List Mark). Counted ms (r ∷ drop (length ns) (onto (drop (i + 1) now) []))) (sym (same_front now first i c.loop-k.invariant.front))
    (subst (λ (rs : List Rest). Counted (take i first) (r ∷ rs)) (sym left) (c.requires.earlier r a)) in
    join_settles ls c.loop-k.cells.items i (length ns) c.loop-k.running (record { places = q.places; doing = doing.Join (length ns) c.loop-k.running }) c.loop-k.invariant.there refl earlier (
      runs ∙ branches_run ls ns (drop (i + 1) first) ∙ ap (λ (ms : List Mark). running (length ns) (onto ms [])) (sym behind),
      subst (λ (ms : List Mark). Counted ms []) (sym behind) (branches_counted ls ns (drop (i + 1) first) c.requires.later),
    )

pub returns-clause-shows : goal.returns-clause-shows
returns-clause-shows c = λ old is.
    let ls = c.args.table.now.lists.items in
    let ns = c.args.lists.now in
    let i = c.args.i in
    let first = marks_of ls c.args.cells.now.items in
    let now = marks_of ls c.loop-k.cells.items in
    let q = c.index_mut.result.now in
    let bs = blocks_of ls q.places.items in
    let none : c.loop-k.k ≡ 0 = omega arith in
    let same : q ≡ old = same_cell c.args.cells.now.items i q old c.requires.there (c.index_mut.ensures.value ∙ c.loop-k.invariant.cell q) is in
    let behind : drop (i + 1) now ≡ branch_marks ls ns ++ drop (i + 1) first =
    subst (λ (x : ℕ). drop (i + 1) now ≡ branch_marks ls (drop x ns) ++ drop (i + 1) first) none c.loop-k.invariant.behind in
    c.settle.ensures.shows
    ∙ join_shows ls c.loop-k.cells.items i (length ns) c.loop-k.running (record { places = q.places; doing = doing.Join (length ns) c.loop-k.running }) c.loop-k.invariant.there refl
    ∙ ap (λ (ms : List Mark). onto ms (put (Many bs (length ns) c.loop-k.running) (onto (drop (i + 1) now) []))) (same_front now first i c.loop-k.invariant.front)
    ∙ ap (λ (ms : List Mark). onto (take i first) (put (Many bs (length ns) c.loop-k.running) (onto ms []))) behind
    ∙ (λ j. onto (take i first) (within bs (branches_shown ls ns (drop (i + 1) first) j) ∷ branches_behind ls ns (drop (i + 1) first) j))
    ∙ ap (λ (x : Cell). onto (take i first) (within (blocks_of ls x.places.items) (branches_at ls ns) ∷ onto (drop (i + 1) first) [])) same
