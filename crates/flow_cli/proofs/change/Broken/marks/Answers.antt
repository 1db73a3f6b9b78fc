use Rattle.std.proofs.Common.{refl}
use Rattle.flow_cli.proofs.change.Broken.marks.Goals as goal

pub returns-in_ok-extend_from_slice-in-Both : goal.returns-in_ok-extend_from_slice-in-Both
returns-in_ok-extend_from_slice-in-Both c =
    rw (c.in-Both.is, c.in_ok-extend_from_slice-in-Both.ensures.items, c.as_slice.ensures.value, c.in_ok-later-in-Both.ensures, c.in_ok-marks-in-Both.ensures) refl
