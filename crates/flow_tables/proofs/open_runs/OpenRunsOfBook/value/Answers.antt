use Rattle.flow_tables.proofs.Names.{◌∙◌}
use Rattle.flow_model.specs.Book.{open_numbers}
use Rattle.flow_rows.proofs.OpenFound.{open_above, open_numbers_read}
use Rattle.flow_tables.proofs.Numbered.{numbers_value}
use Rattle.flow_tables.proofs.open_runs.OpenRunsOfBook.value.Goals as goal

pub returns : goal.returns
returns c t b told is =
    let from = c.args.self.now.from in
    let most = c.args.self.now.most in
    numbers_value (open_numbers b from most) c.run_numbers.result c.as_slice.result.now c.run_numbers.ensures.numbers c.run_numbers.ensures.odd (c.as_slice.ensures.value ∙ is ∙ open_numbers_read t b from most told) (open_above b from most)
