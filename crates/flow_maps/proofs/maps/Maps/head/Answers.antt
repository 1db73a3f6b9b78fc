use Rattle.std.specs.Prelude.{◌≡◌}
use Rattle.flow_maps.proofs.Names.{Some, sym, ap, ◌∙◌, Book, head_at, head_if, Serves}
use Rattle.flow_maps.proofs.Serving.{some_weaker}
use Rattle.flow_maps.proofs.maps.Maps.head.Goals as goal

pub returns-in-Some : goal.returns-in-Some
returns-in-Some c =
    some_weaker c.copied_if.result (λ h. h ≡ c.in-Some.seat.now.head) (λ h. (b : Book) → Serves c.args.self.now b → Some h ≡ head_at b.runs c.args.run)
    (λ h is b known. let it = c.in-Some.ensures b known in ap Some (is ∙ sym it.2.head) ∙ ap head_if (sym it.1)) c.copied_if.ensures
