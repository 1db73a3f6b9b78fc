-- How long the next pause is, in milliseconds.
use Rattle.std.specs.Prelude.{ℕ, ◌*◌, min, Bool, true, false}

-- twice as long, and a second at most
abbrev pub longer : ℕ → ℕ
longer n = min (n * 2) 1000

-- after what was done it begins anew
abbrev pub pause_after : Bool → ℕ → ℕ
pause_after true n = 1
pause_after false n = longer n
