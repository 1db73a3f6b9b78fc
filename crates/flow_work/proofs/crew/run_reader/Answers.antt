use Rattle.flow_work.proofs.crew.run_reader.Goals as goal

pub returns : goal.returns
returns g c =
    let is = c.last_seen-read.ensures in
    rw (is.source, is.target) (record { read = c.read_lines-reader_left.ensures })
