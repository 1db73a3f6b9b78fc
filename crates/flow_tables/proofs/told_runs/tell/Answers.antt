use Rattle.flow_rows.specs.Told.{body_of}
use Rattle.flow_tables.proofs.Hearing.{body_missing, body_there}
use Rattle.flow_tables.proofs.Names.{map}
use Rattle.flow_tables.proofs.told_runs.tell.Goals as goal

pub returns-in-Some : goal.returns-in-Some
returns-in-Some g c = λ rs next heard.
    let texts = c.args.texts.now in
    c.hear.ensures (map body_of texts) rs next (body_there texts c.get.result c.args.run.now.text c.in-Some.row.now c.get.ensures.value c.in-Some.ensures) heard

pub returns-in-None : goal.returns-in-None
returns-in-None g c = λ rs next heard.
    let texts = c.args.texts.now in
    c.hear_without.ensures (map body_of texts) rs next (body_missing texts c.get.result c.args.run.now.text c.get.ensures.value c.in-None.ensures) heard
