use Rattle.std.specs.Prelude.{◌≡◌}
use Rattle.flow_maps.proofs.Names.{Some, Run, sym, ap, ◌∙◌, Book, IsSeat, Serves}
use Rattle.flow_maps.proofs.Serving.{some_weaker}
use Rattle.flow_view.specs.Outlines.{outline_at, outline_if, outline_of}
use Rattle.flow_view.specs.declared.outline.Outline.{Outline}
use Rattle.flow_maps.proofs.maps.Maps.outline.Goals as goal

pub returns-in-Some : goal.returns-in-Some
returns-in-Some c =
    some_weaker c.outline_by.result (λ (o : Outline). (r : Run) → IsSeat c.in-Some.seat.now r → o ≡ outline_of r) (λ o. (b : Book) → Serves c.args.self.now b → Some o ≡ outline_at b.runs c.args.run)
    (λ o is b known. let it = c.in-Some.ensures b known in ap Some (is it.0 it.2) ∙ ap outline_if (sym it.1)) c.outline_by.ensures
