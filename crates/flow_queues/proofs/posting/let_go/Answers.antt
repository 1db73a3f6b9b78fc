use Rattle.std.proofs.Common.{rules, ◌≡◌, ◌<◌, ◌∙◌, ◌+◌, ◌&&◌, ◌++◌, not, ◌∷◌, [], ℕ, length, take, ap, append_assoc, append-nil, sym, subst}
use Rattle.std.proofs.lemmas.List.{take_more}
use Rattle.std.specs.BTreeSet.{contains}
use Rattle.flow_queues.specs.Posting.{is_of, key_cmp}
use Rattle.flow_queues.proofs.Still.{gone_next, none_gone, of_both}
use Rattle.flow_queues.proofs.posting.let_go.Goals as goal

pub loop-i-init : goal.loop-i-init
loop-i-init c = record { gone = sym (append-nil c.args.gone.now); keys = λ q. none_gone c.args.keys.now q }

pub loop-i-preserved : goal.loop-i-preserved
loop-i-preserved c =
    let l = c.loop-i in
    let runs = c.args.runs.now in
    let i = l.i in
    let run = c.index-runs-i.result in
    let inside : i < length runs = search rules in
    let now : take (i + 1) runs ≡ take i runs ++ run ∷ [] = take_more runs i run inside ∙ ap (λ x. take i runs ++ x ∷ []) (sym (search rules)) in
    record {
      gone = c.in_default.ensures.added ∙ ap (λ xs. xs ++ run ∷ []) l.invariant.gone ∙ append_assoc c.args.gone.now (take i runs) (run ∷ []) ∙ ap (λ xs. c.args.gone.now ++ xs) (sym now);
      keys = λ q.
          let drops : contains key_cmp c.let_go_one.new.keys q ≡ (contains key_cmp l.keys q && not (is_of (run ∷ []) q.0)) =
          subst (λ (n : ℕ). contains key_cmp c.let_go_one.new.keys q ≡ (contains key_cmp l.keys q && not (is_of (n ∷ []) q.0))) c.get.ensures.value (c.let_go_one.ensures q) in
          drops ∙ ap (λ v. v && not (is_of (run ∷ []) q.0)) (l.invariant.keys q) ∙ gone_next (contains key_cmp c.args.keys.now q) (is_of (take i runs) q.0) (is_of (run ∷ []) q.0)
          ∙ ap (λ v. contains key_cmp c.args.keys.now q && not v) (sym (of_both (take i runs) (run ∷ []) q.0)) ∙ ap (λ xs. contains key_cmp c.args.keys.now q && not (is_of xs q.0)) (sym now);
    }
