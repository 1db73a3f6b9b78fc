use Rattle.std.specs.Prelude.{◌≡◌, ◌⊎◌}
use Rattle.flow_tables.proofs.Names.{was_clean, BadVersion, Bool, state, subst, sym, inl, inr}
use Rattle.flow_tables.specs.Opening.{IsOfTables, HasCause, HasFormat, StopsTables, IsFoundSo}
use Rattle.std.proofs.lemmas.Result.{IfErr-weaker, IfOk-weaker}
use Rattle.flow_tables.proofs.Opened.{caused, of_store, found_there, found_missing, format_stopped, row_ours}
use Rattle.flow_tables.proofs.open.find_tables.Goals as goal

---- Our format, or another

pub returns-in-Ok-check_format-clause-found : goal.returns-in-Ok-check_format-clause-found
returns-in-Ok-check_format-clause-found g c clean =
    found_there g.S.Store (state g.S.Store c.args.conn.now) c.end_running.new.conn c.format_row.new.conn (c.end_running.ensures.ended (c.format_row.ensures.clean clean)) c.in-Ok.row (c.in-Ok.ensures.queries clean) c.end_running.ensures.survives c.in-Ok-check_format.ensures.ours

pub returns-in-Ok-clause-version : goal.returns-in-Ok-clause-version
returns-in-Ok-clause-version g c clean is = let v = c.in-Err-check_format.ensures.version is in (c.end_running.new.conn, _, v.0, c.in-Ok.ensures.queries clean, v.1, v.2)

pub returns-in-Ok-clause-stops : goal.returns-in-Ok-clause-stops
returns-in-Ok-clause-stops g c current clean =
    let old = state g.S.Store c.args.conn.now in
    let late = c.format_row.ensures.clean clean in
    let was = current (was_clean old _ _ c.end_running.ensures.survives late) in
    let here = row_ours g.S.Store old c.end_running.new.conn c.format_row.new.conn (c.end_running.ensures.ended late) c.in-Ok.row (c.in-Ok.ensures.queries clean) was in
    subst (λ f. IsOfTables f × StopsTables g.S.Store old (state g.S.Store c.format_row.new.conn) f) (sym (c.in-Err-check_format.ensures.taken here)) (tt, tt)

pub returns-in-Ok-clause-cause : goal.returns-in-Ok-clause-cause
returns-in-Ok-clause-cause g c clean = elim c.in-Err-check_format.ensures.cause [
  | inl other ↦ subst (HasCause g.S.Store) (sym other) tt
  | inr misread ↦ subst (HasCause g.S.Store) (sym misread.2)
      (caused g.S.Store misread.0 (c.end_running.new.conn, c.format_row.new.conn, _, inr (inr (inr (inl (_, c.in-Ok.ensures.queries clean, misread.1))))))
]

---- None was read

pub returns-clause-found : goal.returns-clause-found
returns-clause-found g c clean =
    let old = state g.S.Store c.args.conn.now in
    let P = λ (is_there : Bool). HasFormat g.S.Store old is_there × IsFoundSo g.S.Store old (state g.S.Store c.format_row.new.conn) is_there in
    let late = c.format_row.ensures.clean clean in
    let missing = found_missing g.S.Store old c.end_running.new.conn c.format_row.new.conn (c.end_running.ensures.ended late) c.end_running.ensures.survives late c.format_row.ensures.survives.counts c.in-Err-format_row.error (c.in-Err-format_row.ensures.queries clean) in
    IfOk-weaker c.no_format.result _ P (λ _ absent. subst P (sym absent.0) (missing absent.1 absent.2)) c.no_format.ensures.absent

pub returns-clause-cause : goal.returns-clause-cause
returns-clause-cause g c clean =
    let why = caused g.S.Store c.in-Err-format_row.error (c.end_running.new.conn, c.format_row.new.conn, _, inr (inl (c.in-Err-format_row.ensures.queries clean))) in
    IfErr-weaker c.no_format.result _ (HasCause g.S.Store) (λ f is. subst (HasCause g.S.Store) (sym is.0) why) c.no_format.ensures.fault

pub returns-clause-stops : goal.returns-clause-stops
returns-clause-stops g c current clean =
    let old = state g.S.Store c.args.conn.now in
    let late = c.format_row.ensures.clean clean in
    let stopped = format_stopped g.S.Store old c.end_running.new.conn c.format_row.new.conn (c.end_running.ensures.ended late) c.end_running.ensures.survives late c.format_row.ensures.survives.counts c.in-Err-format_row.error (c.in-Err-format_row.ensures.queries clean) in
    IfErr-weaker c.no_format.result _ _ (stopped (current (was_clean old _ _ c.end_running.ensures.survives late))) c.no_format.ensures.fault

---- What is told

pub returns-in-Ok-clause-told : goal.returns-in-Ok-clause-told
returns-in-Ok-clause-told g c = elim c.in-Err-check_format.ensures.cause [
  | inl other ↦ inr other
  | inr misread ↦ inl (subst IsOfTables (sym misread.2) (of_store misread.0))
]

pub returns-clause-told : goal.returns-clause-told
returns-clause-told g c = IfErr-weaker c.no_format.result _ (λ f. IsOfTables f ⊎ (f ≡ BadVersion)) (λ f is. inl (subst IsOfTables (sym is.0) (of_store c.in-Err-format_row.error))) c.no_format.ensures.fault

pub returns-in-Err-clause-told : goal.returns-in-Err-clause-told
returns-in-Err-clause-told g c = let it = c.in-Err.ensures.fault in inl (subst IsOfTables (sym it.1) (of_store it.0))
