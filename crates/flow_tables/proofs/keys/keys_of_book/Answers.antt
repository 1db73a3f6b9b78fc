use Rattle.std.proofs.Common.{subst, sym}
use Rattle.flow_rows.specs.Whole.{shown_book}
use Rattle.flow_maps.specs.Serving.{Serves}
use Rattle.flow_maps.specs.Undoing.{LeadsBack}
use Rattle.flow_tables.proofs.keys.keys_of_book.Goals as goal

pub returns-clause-serves : goal.returns-clause-serves
returns-clause-serves c =
    c.count_texts.ensures.serves (shown_book c.args.book.now) (sym c.text_count.ensures)
    (subst (λ rs. Serves c.keys_of_runs-maps.result (record { texts = c.args.book.now.texts; runs = rs })) c.as_slice.ensures (c.keys_of_runs-maps.ensures.serves c.args.book.now.texts))

pub returns-clause-goes_back : goal.returns-clause-goes_back
returns-clause-goes_back c b = subst (λ j. LeadsBack j b b) (sym c.count_texts.ensures.journal) (c.keys_of_runs-maps.ensures.goes_back b)
