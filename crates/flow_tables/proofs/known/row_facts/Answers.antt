use Rattle.flow_tables.proofs.Names.{length, runs_counted, texts_counted}
use Rattle.flow_tables.proofs.Wholes.{count_so, runs_told, texts_told}
use Rattle.flow_tables.proofs.known.row_facts.Goals as goal

pub returns : goal.returns
returns c b t serves tells = record {
  run = c.changed_known.ensures b t serves tells;
  texts = count_so c.args.maps.now b c.text_count.result (texts_counted t) (λ x. length x.texts) c.text_count.ensures serves (texts_told t b tells);
  runs = count_so c.args.maps.now b c.run_count.result (runs_counted t) (λ x. length x.runs) c.run_count.ensures serves (runs_told t b tells);
}
