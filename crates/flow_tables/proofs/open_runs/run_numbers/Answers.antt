use Rattle.std.proofs.Common.{rules, ◌≡◌, pos, subst, sym, ◌∙◌, w64, to_z, of_z}
use Rattle.std.specs.Prelude.{get_or, ◌<ℤ◌}
use Rattle.std.proofs.lemmas.Result.{err_from_is_err_and}
use Rattle.flow_tables.proofs.Numbered.{low_at, one_read}
use Rattle.flow_tables.proofs.open_runs.run_numbers.Goals as goal

pub returns-in_err-run-clause-odd : goal.returns-in_err-run-clause-odd
returns-in_err-run-clause-odd c =
    let found = c.args.found.now in
    let i = c.loop-number.number-index in
    let number : to_z w64 (of_z w64 (get_or found i (pos 0))) ≡ get_or found i (pos 0) = search rules in
    let p = err_from_is_err_and c.from_residual.result c.from_residual.ensures.1 in
    rw p.1 (λ refused. low_at found i (pos 0) c.loop-number-test.true (subst (λ z. z <ℤ pos 1) number c.in_err-run.ensures.odd))

pub loop-number-preserved : goal.loop-number-preserved
loop-number-preserved c =
    let found = c.args.found.now in
    let i = c.loop-number.number-index in
    let number : to_z w64 (of_z w64 (get_or found i (pos 0))) ≡ get_or found i (pos 0) = search rules in
    one_read found i c.in_ok-run.run' (pos 0) c.loop-number.list.items c.push.new.self.items c.loop-number-test.true (sym number ∙ c.in_ok-run.ensures.number) c.in_ok-push.ensures.items c.loop-number.invariant
