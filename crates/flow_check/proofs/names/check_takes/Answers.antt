use Rattle.std.proofs.Common.{◌≡◌, List, ap, sym, subst, ◌∙◌, map, drop}
use Rattle.flow_base.specs.declared.code.Code.TheVariants as code
use Rattle.flow_base.specs.declared.syntax.TypeAt.{TypeAt}
use Rattle.flow_model.specs.WellFormed.{earliest, fault_at_first}
use Rattle.flow_check.proofs.Expressing.{first_beyond, none_beyond}
use Rattle.flow_check.proofs.names.check_takes.Goals as goal

pub returns-in-Some : goal.returns-in-Some
returns-in-Some c =
    let h = c.in-Some.ensures.lookup in
    subst (λ (ts : List TypeAt). c.note.new.self ≡ earliest c.args.found.now (fault_at_first code.TooManyNames (map (λ (t : TypeAt). t.at) (drop 256 ts)))) c.deref.ensures.value
    (c.note.ensures ∙ ap (earliest c.args.found.now) (sym (first_beyond code.TooManyNames c.deref.result.now 256 c.in-Some.beyond.now h.3.0 h.1)))

pub returns-in_default : goal.returns-in_default
returns-in_default c =
    let h = c.in_default.ensures.lookup in
    subst (λ (ts : List TypeAt). c.args.found.now ≡ earliest c.args.found.now (fault_at_first code.TooManyNames (map (λ (t : TypeAt). t.at) (drop 256 ts)))) c.deref.ensures.value
    (ap (earliest c.args.found.now) (sym (none_beyond code.TooManyNames c.deref.result.now 256 h.3)))
