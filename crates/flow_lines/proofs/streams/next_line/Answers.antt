use Rattle.std.proofs.Common.{◌<◌, length, rules}
use Rattle.flow_lines.proofs.Lines.{first_line_read}
use Rattle.flow_lines.proofs.streams.next_line.Goals as goal

pub returns-clause-line : goal.returns-clause-line
returns-clause-line g c =
    let some : 0 < length c.read_until.new.buf.items = search rules in
    first_line_read _ _ _ _ c.without_end.result.items c.new-line.ensures.items c.in_ok-count.ensures.bytes c.in_ok-count.ensures.rest some c.without_end.ensures
