use Rattle.std.proofs.Common.{inl, inr, ap, sym, ◌∙◌}
use Rattle.flow_lines.specs.Commands.{line_command}
use Rattle.flow_work.specs.Inputs.{lines_in}
use Rattle.flow_work.proofs.Counting.{ends_given, lines_given}
use Rattle.flow_work.proofs.clerk.Clerk.step.Goals as goal

pub returns-in-Some-clause-ends : goal.returns-in-Some-clause-ends
returns-in-Some-clause-ends g c =
    let tells = g.C.Clock.tells c.args.clock.now in
    λ first k off. ends_given line_command tells c.deal.new.self.desk.submitter c.deal.new.self.desk.pending.lines.items c.deal.new.self.desk.page.status (g.G.Giving.given c.next_input.new.inputs) (g.G.Giving.given c.args.inputs.now) c.in-Some.input c.in-Some.ensures.given (c.deal.ensures.quits first k off)

pub returns-in-Some-clause-lines : goal.returns-in-Some-clause-lines
returns-in-Some-clause-lines g c =
    λ is. lines_given (g.G.Giving.given c.next_input.new.inputs) (g.G.Giving.given c.args.inputs.now) c.in-Some.input c.args.self.now.lines c.deal.new.self.lines c.in-Some.ensures.given c.deal.ensures.lines is

pub returns-in-None-clause-ends : goal.returns-in-None-clause-ends
returns-in-None-clause-ends g c = λ first k off. inr (c.tell.ensures.quits first k off)

pub returns-in-None-clause-lines : goal.returns-in-None-clause-lines
returns-in-None-clause-lines g c = λ is. c.tell.ensures.lines ∙ (is ∙ ap lines_in (sym c.in-None.ensures.given))

pub returns-in-Some-clause-steps : goal.returns-in-Some-clause-steps
returns-in-Some-clause-steps g c = inl (c.in-Some.input, c.in-Some.ensures.given)

pub returns-in-None-clause-steps : goal.returns-in-None-clause-steps
returns-in-None-clause-steps g c = inr (c.in-None.ensures.given, ((c.in-None.ensures.waits, c.tell.ensures.fewer), c.in-None.ensures.held))
