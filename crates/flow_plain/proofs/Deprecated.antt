-- A `deprecate` begins as a patch with two empty lists.
use Rattle.std.proofs.Common.{◌≡◌, ◌∙◌, ap}
use Rattle.flow_base.specs.Syntax.{Bytes, Patch, Deprecate, End}
use Rattle.flow_base.specs.Shown.{Braced}
use Rattle.flow_model.specs.Step.{Setting, Store, Move, begin}

pub deprecate_begins : (s : Setting) (t : Store) (id : Bytes) (b : Braced) (m : Move) → b ≡ (End, 0) → m ≡ begin s t (Patch 0 0 id b.0 0 b.0 0) → m ≡ begin s t (Deprecate 0 0 id)
deprecate_begins s t id b m e h = h ∙ ap (λ (x : Braced). begin s t (Patch 0 0 id x.0 0 x.0 0)) e
