use Rattle.std.proofs.lemmas.Result.{IfOk-weaker, IfErr-weaker}
use Rattle.flow_cli.proofs.Listings.{page_listed, unlisted_caused}
use Rattle.flow_cli.proofs.listing.page_from.Goals as goal

pub returns-in-Ok-Replied-clause-listed : goal.returns-in-Ok-Replied-clause-listed
returns-in-Ok-Replied-clause-listed g c =
    let answers = rw c.in-Ok-Replied.field-0-is at c.in-Ok-Replied.ensures.answers in
    IfOk-weaker c.page_of.result _ _ (λ p is sure. page_listed g.E.Answering.rules _ _ c.args.from c.args.most _ p.runs p.next is (answers sure)) c.page_of.ensures.listed

pub returns-in-Ok-Replied-clause-cause : goal.returns-in-Ok-Replied-clause-cause
returns-in-Ok-Replied-clause-cause g c =
    let answers = rw c.in-Ok-Replied.field-0-is at c.in-Ok-Replied.ensures.answers in
    IfErr-weaker c.page_of.result _ _ (λ f is. unlisted_caused g.E.Answering.rules _ _ c.args.from c.args.most _ f _ _ _ is.0 is.1 answers) c.page_of.ensures.unlisted
