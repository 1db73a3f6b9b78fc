-- The waits of tasks, and those of the rest that they stand for.
use Rattle.std.proofs.Common.{◌≡◌, ℕ, zero, suc, ◌+◌, ◌<◌, ◌≤◌, add-one, List, [], ◌∷◌, ◌++◌, append_assoc, length, get_or, take, drop, refl, sym, ap, ◌∙◌, subst, arith, Option, Some, None, Bool, true, false}
use Rattle.flow_base.specs.Syntax.{Block}
use Rattle.flow_model.specs.Rest.{Rest, Done, open_waits}
use Rattle.flow_nodes.specs.declared.table.Listing.{Listing}
use Rattle.flow_run.specs.Marks.{within, Mark, One, Many, put, onto, first_rest}
use Rattle.flow_run.specs.Flat.{blocks_of, mark_by, mark_of, marks_of, shown_doing}
use Rattle.flow_run.specs.Shown.{waits_of}
use Rattle.flow_run.specs.Waiting.{is_waiting, one_if, one_wait, opens_in_all, wait_in, waits_in_all}
use Rattle.flow_run.specs.declared.cell.Cell.{Cell}
use Rattle.flow_run.specs.declared.cell.Doing.{Doing}
use Rattle.flow_run.specs.declared.cell.Doing.TheVariants as doing
use Rattle.flow_run.specs.declared.waits.OpenWait.{OpenWait}
use Rattle.flow_run.proofs.Replacing.{all_open, all_waits, join_opens, join_waits, within_opens, within_waits}

passed : (ls : List Listing) (bs : List Block) (d : Doing) (rs : List Rest) → all_waits (put (mark_by ls bs d) rs) ≡ one_wait (wait_in d) ++ all_waits rs
passed ls bs doing.Over rs = ap (λ ws. ws ++ all_waits rs) (within_waits bs _)
passed ls bs doing.Empty rs = ap (λ ws. ws ++ all_waits rs) (within_waits bs _)
passed ls bs (doing.OnActivity n x k o) rs = ap (λ ws. ws ++ all_waits rs) (within_waits bs _)
passed ls bs (doing.OnTimer n) rs = ap (λ ws. ws ++ all_waits rs) (within_waits bs _)
passed ls bs (doing.OnSignal x s) rs = ap (λ ws. ws ++ all_waits rs) (within_waits bs _)
passed ls bs (doing.OnSignalFor x s n b) rs = ap (λ ws. ws ++ all_waits rs) (within_waits bs _)
passed ls bs (doing.Raised w t) rs = ap (λ ws. ws ++ all_waits rs) (within_waits bs _)
passed ls bs (doing.Join n k) rs = join_waits bs n k rs

all_in : (ls : List Listing) (cs : List Cell) → all_waits (onto (marks_of ls cs) []) ≡ waits_in_all cs
all_in ls [] = refl
all_in ls (c ∷ cs) = passed ls (blocks_of ls c.places.items) c.doing (onto (marks_of ls cs) []) ∙ ap (λ ws. one_wait (wait_in c.doing) ++ ws) (all_in ls cs)

one_rest : (rs : List Rest) → length rs ≤ 1 → all_waits rs ≡ waits_of (first_rest rs)
one_rest [] h = refl
one_rest (r ∷ []) h = append_none (waits_of r)
  where
    append_none : (ws : List OpenWait) → ws ++ [] ≡ ws
    append_none [] = refl
    append_none (w ∷ ws) = ap (λ (xs : List OpenWait). w ∷ xs) (append_none ws)
one_rest (r ∷ q ∷ rs) h = absurd (omega (arith, h))

-- all waits of the tasks are those of the rest
pub waits_are : (ls : List Listing) (cs : List Cell) → length (onto (marks_of ls cs) []) ≤ 1 → waits_in_all cs ≡ waits_of (first_rest (onto (marks_of ls cs) []))
waits_are ls cs h = sym (all_in ls cs) ∙ one_rest (onto (marks_of ls cs) []) h

passed_open : (ls : List Listing) (bs : List Block) (d : Doing) (rs : List Rest) → all_open (put (mark_by ls bs d) rs) ≡ one_if (is_waiting d) + all_open rs
passed_open ls bs doing.Over rs = ap (λ n. n + all_open rs) (within_opens bs _)
passed_open ls bs doing.Empty rs = ap (λ n. n + all_open rs) (within_opens bs _)
passed_open ls bs (doing.OnActivity n x k o) rs = ap (λ n. n + all_open rs) (within_opens bs _)
passed_open ls bs (doing.OnTimer n) rs = ap (λ n. n + all_open rs) (within_opens bs _)
passed_open ls bs (doing.OnSignal x s) rs = ap (λ n. n + all_open rs) (within_opens bs _)
passed_open ls bs (doing.OnSignalFor x s n b) rs = ap (λ n. n + all_open rs) (within_opens bs _)
passed_open ls bs (doing.Raised w t) rs = ap (λ n. n + all_open rs) (within_opens bs _)
passed_open ls bs (doing.Join n k) rs = join_opens bs n k rs ∙ omega arith

open_in : (ls : List Listing) (cs : List Cell) → all_open (onto (marks_of ls cs) []) ≡ opens_in_all cs
open_in ls [] = refl
open_in ls (c ∷ cs) = passed_open ls (blocks_of ls c.places.items) c.doing (onto (marks_of ls cs) []) ∙ ap (λ n. one_if (is_waiting c.doing) + n) (open_in ls cs)

one_open : (rs : List Rest) → length rs ≤ 1 → all_open rs ≡ open_waits (first_rest rs)
one_open [] h = refl
one_open (r ∷ []) h = omega arith
one_open (r ∷ q ∷ rs) h = absurd (omega (arith, h))

-- so are the numbers of open waits
pub opens_are : (ls : List Listing) (cs : List Cell) → length (onto (marks_of ls cs) []) ≤ 1 → opens_in_all cs ≡ open_waits (first_rest (onto (marks_of ls cs) []))
opens_are ls cs h = sym (open_in ls cs) ∙ one_open (onto (marks_of ls cs) []) h
