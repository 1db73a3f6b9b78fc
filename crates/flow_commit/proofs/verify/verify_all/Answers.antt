use Rattle.std.proofs.Common.{inl, inr}
use Rattle.flow_commit.proofs.Following.{fit_before, follows_then}
use Rattle.flow_commit.proofs.Sealing.{down_on}
use Rattle.flow_commit.proofs.Verified.{caused_so}
use Rattle.flow_commit.proofs.verify.verify_all.Goals as goal

pub returns-clause-verdict : goal.returns-clause-verdict
returns-clause-verdict g c fit b keeps =
    c.replayed-outcome.ensures.verdict (fit_before g.S.Store c.replayed-outcome.new.tables c.roll_back.new.tables c.roll_back.ensures.follows fit) b keeps

pub returns-clause-follows : goal.returns-clause-follows
returns-clause-follows g c = follows_then g.S.Store c.args.tables.now c.replayed-outcome.new.tables c.roll_back.new.tables c.replayed-outcome.ensures.follows c.roll_back.ensures.follows

pub returns-clause-own : goal.returns-clause-own
returns-clause-own g c fit = c.replayed-outcome.ensures.own (fit_before g.S.Store c.replayed-outcome.new.tables c.roll_back.new.tables c.roll_back.ensures.follows fit)

pub returns-clause-cause : goal.returns-clause-cause
returns-clause-cause g c fit b keeps =
    caused_so c.replayed-outcome.result _ _ (λ why. elim why [
      | inl down ↦ inl (down_on g.S.Store c.args.tables.now c.replayed-outcome.new.tables c.roll_back.new.tables c.roll_back.ensures.follows fit down)
      | inr cant ↦ inr cant
    ]) (c.replayed-outcome.ensures.cause (fit_before g.S.Store c.replayed-outcome.new.tables c.roll_back.new.tables c.roll_back.ensures.follows fit) b keeps)
