use Rattle.std.proofs.Common.{refl, sym, ◌∙◌}
use Rattle.flow_store_tests.proofs.acts.stopped.Goals as goal

-- A store in memory is always open.
pub reopen-requires : goal.reopen-requires
reopen-requires c clean =
    let undone = c.into_store.ensures.undone in
    let kept = undone.kept clean in
    record {
      sound = (undone.undone refl).1;
      numbered = c.into_store.ensures.numbered clean;
      clean = (undone.undone refl).0 ∙ sym (kept.committed refl);
      unmarked = kept.marks refl;
    }
