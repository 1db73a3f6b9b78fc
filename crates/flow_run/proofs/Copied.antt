-- A copy of an open run that goes on.
use Rattle.std.proofs.Common.{◌≡◌, ℕ, zero, suc, ◌+◌, ◌<◌, ◌≤◌, add-one, List, [], ◌∷◌, ◌++◌, append_assoc, length, get_or, take, refl, sym, ap, ◌∙◌, subst, arith, Option, Some, None, Bool, true, false}
use Rattle.std.specs.Prelude.{if◌then◌else◌, min, MatchOption}
use Rattle.flow_base.specs.Syntax.{Bytes}
use Rattle.flow_base.specs.declared.value.Value.{Value}
use Rattle.flow_base.specs.declared.event.State.{State}
use Rattle.flow_base.specs.declared.event.State.TheVariants.{Open}
use Rattle.flow_nodes.specs.declared.table.Listing.{Listing}
use Rattle.flow_nodes.specs.declared.table.ProgramTable.{ProgramTable}
use Rattle.flow_model.specs.Values.{Variables}
use Rattle.flow_model.specs.Rest.{Rest}
use Rattle.flow_model.specs.Deliver.{Progress}
use Rattle.flow_run.specs.Marks.{Mark, One, Counted, first_rest, onto}
use Rattle.flow_run.specs.Flat.{AreFull, contents_of, mark_of, marks_of}
use Rattle.flow_run.specs.Waiting.{is_waiting, one_if, one_wait, opens_in_all, wait_in, waits_in_all}
use Rattle.flow_run.specs.Whole.{IsWhole, IsWholeAt, is_unbegun, rest_at}
use Rattle.flow_run.specs.Position.{shown_progress, started_with}
use Rattle.flow_run.specs.declared.cell.Cell.{Cell}
use Rattle.flow_run.specs.declared.standing.Standing.{Standing}
use Rattle.flow_run.specs.declared.deliver.Turning.{Turning}
use Rattle.flow_run.specs.declared.waits.OpenWait.{OpenWait}
use Rattle.flow_run.proofs.Contents.{same_full, same_marks}

-- a copy with one signal more
pub with_signal : (ls : List Listing) (cs : List Cell) (p : Turning) (vars : Variables) (buffer new : List (Bytes × Value)) (decided : Bytes → Option Bool) (x : Bytes × Value) → contents_of p.cells.items ≡ contents_of cs
    → shown_progress ls p ≡ started_with (rest_at ls p.cells.items) vars buffer decided Open → new ≡ p.store.buffer ++ x ∷ []
    → shown_progress ls (record p { store = record (p.store) { buffer = new } }) ≡ started_with (rest_at ls cs) vars (buffer ++ x ∷ []) decided Open
with_signal ls cs p vars buffer new decided x same e is =
    ap (λ (b : List (Bytes × Value)). shown_progress ls (record p { store = record (p.store) { buffer = b } })) is
    ∙ ap (λ (q : Progress). record q { store = record (q.store) { buffer = q.store.buffer ++ x ∷ [] } }) e
    ∙ ap (λ (ms : List Mark). started_with (first_rest (onto ms [])) vars (buffer ++ x ∷ []) decided Open) (same_marks ls p.cells.items cs same)

-- what every turn keeps holds of a copy
pub whole_again : (ls : List Listing) (cs ds : List Cell) (s t : State) → contents_of ds ≡ contents_of cs → IsWholeAt ls cs t → s ≡ Open → IsWholeAt ls ds s
whole_again ls cs ds s t same w opened =
    let marks : marks_of ls cs ≡ marks_of ls ds = sym (same_marks ls ds cs same) in
    record {
      sound = (same_full ls cs ds (sym same) w.sound.0, subst (λ (ms : List Mark). Counted ms []) marks w.sound.1);
      one = subst (λ (ms : List Mark). length (onto ms []) ≤ 1) marks w.one;
      begun = ap is_unbegun opened;
    }

pub if_fits : (b : Bool) (x y : Option Progress) → b ≡ true → x ≡ (if b then x else y)
if_fits true x y h = refl
if_fits false x y h = cc

-- the waits of one more task
waits_next : (cs : List Cell) (i : ℕ) (c : Cell) → i < length cs → c ≡ get_or cs i c → waits_in_all (take (suc i) cs) ≡ waits_in_all (take i cs) ++ one_wait (wait_in c.doing)
waits_next [] i c h e = absurd (omega (arith, h))
waits_next (x ∷ cs) zero c h e = append_none (one_wait (wait_in x.doing)) ∙ ap (λ (y : Cell). one_wait (wait_in y.doing)) (sym e)
  where
    append_none : (ws : List OpenWait) → ws ++ [] ≡ ws
    append_none [] = refl
    append_none (w ∷ ws) = ap (λ (xs : List OpenWait). w ∷ xs) (append_none ws)
waits_next (x ∷ cs) (suc i) c h e =
    ap (λ (ws : List OpenWait). one_wait (wait_in x.doing) ++ ws) (waits_next cs i c (omega (arith, h)) e)
    ∙ sym (append_assoc (one_wait (wait_in x.doing)) (waits_in_all (take i cs)) (one_wait (wait_in c.doing)))

pub waits_more : (cs : List Cell) (i : ℕ) (c : Cell) (o : Option OpenWait) (old new : List OpenWait) → i < length cs → c ≡ get_or cs i c → old ≡ waits_in_all (take i cs) → o ≡ wait_in c.doing → MatchOption o (new ≡ old) (λ w. new ≡ old ++ w ∷ []) → new ≡ waits_in_all (take (i + 1) cs)
waits_more cs i c o old new h e was is more =
    by o more
    ∙ ap (λ (ws : List OpenWait). ws ++ one_wait o) was
    ∙ ap (λ (w : Option OpenWait). waits_in_all (take i cs) ++ one_wait w) is
    ∙ sym (waits_next cs i c h e)
    ∙ ap (λ (j : ℕ). waits_in_all (take j cs)) (sym (add-one i))
  where
    append_none : (ws : List OpenWait) → ws ++ [] ≡ ws
    append_none [] = refl
    append_none (w ∷ ws) = ap (λ (xs : List OpenWait). w ∷ xs) (append_none ws)

    by : (o : Option OpenWait) → MatchOption o (new ≡ old) (λ w. new ≡ old ++ w ∷ []) → new ≡ old ++ one_wait o
    by None m = m ∙ sym (append_none old)
    by (Some w) m = m

-- what every turn keeps holds where nothing is left
pub whole_none : (ls : List Listing) (ds : List Cell) (s : State) → ds ≡ [] → is_unbegun s ≡ false → IsWholeAt ls ds s
whole_none ls [] s e b = record { sound = (λ i x h. absurd (omega (arith, h)), tt); one = omega arith; begun = b }
whole_none ls (d ∷ ds) s e b = cc

-- a copy of what a run is
pub copied_whole : (run : Standing) (t : ProgramTable) (ds : List Cell) → t ≡ run.table → contents_of ds ≡ contents_of run.cells.items → IsWhole run → IsWholeAt t.lists.items ds run.state
copied_whole run t ds e same w =
    let ls = run.table.lists.items in
    let cs = run.cells.items in
    let marks : marks_of ls cs ≡ marks_of ls ds = sym (same_marks ls ds cs same) in
    subst (λ (u : ProgramTable). IsWholeAt u.lists.items ds run.state) (sym e)
    (record {
      sound = (same_full ls cs ds (sym same) w.sound.0, subst (λ (ms : List Mark). Counted ms []) marks w.sound.1);
      one = subst (λ (ms : List Mark). length (onto ms []) ≤ 1) marks w.one;
      begun = w.begun;
    })

pub rest_again : (t u : ProgramTable) (cs ds : List Cell) → t ≡ u → contents_of ds ≡ contents_of cs → rest_at t.lists.items ds ≡ rest_at u.lists.items cs
rest_again t u cs ds e same =
    ap (λ (v : ProgramTable). rest_at v.lists.items ds) e ∙ ap (λ (ms : List Mark). first_rest (onto ms [])) (same_marks u.lists.items ds cs same)

-- one more task that may wait
opens_next : (cs : List Cell) (i : ℕ) (c : Cell) → i < length cs → c ≡ get_or cs i c → opens_in_all (take (suc i) cs) ≡ opens_in_all (take i cs) + one_if (is_waiting c.doing)
opens_next [] i c h e = absurd (omega (arith, h))
opens_next (x ∷ cs) zero c h e = omega (arith, ap (λ (y : Cell). one_if (is_waiting y.doing)) e)
opens_next (x ∷ cs) (suc i) c h e = omega (arith, opens_next cs i c (omega (arith, h)) e)

pub opens_more : (cs : List Cell) (i : ℕ) (c : Cell) (b : Bool) (old new : ℕ) → i < length cs → c ≡ get_or cs i c → old ≡ min (opens_in_all (take i cs)) 32 → b ≡ is_waiting c.doing → new ≡ min (old + one_if b) 32 → new ≡ min (opens_in_all (take (i + 1) cs)) 32
opens_more cs i c b old new h e was is more =
    more
    ∙ capped old (opens_in_all (take i cs)) (one_if b) was
    ∙ ap (λ (x : Bool). min (opens_in_all (take i cs) + one_if x) 32) is
    ∙ ap (λ (n : ℕ). min n 32) (sym (opens_next cs i c h e))
    ∙ ap (λ (j : ℕ). min (opens_in_all (take j cs)) 32) (sym (add-one i))
  where
    capped : (n m x : ℕ) → n ≡ min m 32 → min (n + x) 32 ≡ min (m + x) 32
    capped n m x k = omega (arith, k)

-- what every turn keeps holds where one task begins
pub whole_one : (ls : List Listing) (ds : List Cell) (s : State) (c : Cell) (r : Rest) → ds ≡ c ∷ [] → mark_of ls c ≡ One r → AreFull ls c → is_unbegun s ≡ false → IsWholeAt ls ds s
whole_one ls ds s c r e mark full b = subst (λ (xs : List Cell). IsWholeAt ls xs s) (sym e)
    (record {
      sound = (λ i x h. at i x h, subst (λ (m : Mark). Counted (m ∷ []) []) (sym mark) tt);
      one = subst (λ (m : Mark). length (onto (m ∷ []) []) ≤ 1) (sym mark) (omega arith);
      begun = b;
    })
  where
    at : (i : ℕ) (x : Cell) → i < 1 → AreFull ls (get_or (c ∷ []) i x)
    at zero x h = full
    at (suc i) x h = absurd (omega (arith, h))
