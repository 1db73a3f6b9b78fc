-- Where in a text a byte is, and the line of it with a mark below.
use Rattle.std.specs.Prelude.{◌≡◌, ◌⊎◌, ℕ, Bool, true, Option, ◌+◌, ◌-◌, List, [], ◌∷◌, ◌++◌, max, take, drop, length, leb, ltb, not, ◌||◌, ◌&&◌, ◌==◌, if◌then◌else◌, codes, decimal}
use Rattle.std.specs.Io.KnownBytes.{Appends}
use Rattle.flow_lines.specs.Driving.{WritesBeginning}
use Rattle.flow_cli.specs.declared.place.Spot.{Spot}
use Rattle.flow_cli.specs.declared.place.Window.{Window}

-- ---- places

-- whether a byte begins a character of UTF-8
abbrev pub begins_char : ℕ → Bool
begins_char b = ltb b 128 || not (ltb b 192)

-- the place behind a byte, which is that many bytes into the text
abbrev pub spot_behind : ℕ → ℕ → Spot → Spot
spot_behind i b s =
    if b == 10 then record { line = s.line + 1; column = 1; begins = i + 1 }
    else if begins_char b then record { line = s.line; column = s.column + 1; begins = s.begins }
    else s

-- the place behind all these bytes, the first of which is that many bytes into the text
abbrev pub passed : ℕ → Spot → List ℕ → Spot
passed i s [] = s
passed i s (b ∷ bs) = passed (i + 1) (spot_behind i b s) bs

-- Lines end before a line feed. A text begins at its first character; a line feed leads to the first character of the next line, and a
-- byte that begins a character to the next one.
abbrev pub spot_at : List ℕ → ℕ → Spot
spot_at text at = passed 0 (record { line = 1; column = 1; begins = 0 }) (take at text)

-- ---- lines

-- the bytes before the first end of a line
abbrev pub first_line : List ℕ → List ℕ
first_line [] = []
first_line (b ∷ bs) = if b == 10 then [] else b ∷ first_line bs

-- the bytes of the characters from one on and before another, where the byte before the first one belongs to this one, from 1
abbrev pub between : ℕ → ℕ → ℕ → List ℕ → List ℕ
between from to n [] = []
between from to n (b ∷ bs) =
    let m = if begins_char b then n + 1 else n in
    if leb from m && ltb m to then b ∷ between from to m bs else between from to m bs

-- ---- marks

-- a blank for each character, and a tab for a tab
abbrev pub blanks_of : List ℕ → List ℕ
blanks_of [] = []
blanks_of (b ∷ bs) = if b == 9 then 9 ∷ blanks_of bs else if begins_char b then 32 ∷ blanks_of bs else blanks_of bs

-- What is shown of a line of so many characters with a mark at this one: all of 120, and of a longer line at most 60 on either side.
abbrev pub window_of : ℕ → ℕ → Window
window_of count column =
    if leb count 120 then record { from = 1; to = count + 1 } else record { from = max 1 (column - 60); to = column + 60 }

-- how many characters a line has
abbrev pub counted : List ℕ → ℕ
counted line = (spot_at line (length line)).column - 1

abbrev pub dots : Bool → List ℕ → List ℕ
dots is_cut ds = if is_cut then ds else []

-- the line and the one below it, in which a mark stands below the character; two points stand for what isn't shown
abbrev pub marked_line : List ℕ → ℕ → List ℕ
marked_line line column =
    let w = window_of (counted line) column in
    codes "  " ++ (dots (ltb 1 w.from) (codes "..") ++ (between w.from w.to 0 line ++ (dots (leb w.to (counted line)) (codes "..")
    ++ (10 ∷ (codes "  " ++ (dots (ltb 1 w.from) (codes "  ") ++ (blanks_of (between w.from column 0 line) ++ (94 ∷ 10 ∷ []))))))))

-- where a byte is, in words, and the line with its mark
abbrev pub mark_text : List ℕ → List ℕ → ℕ → List ℕ
mark_text whose text at =
    let s = spot_at text at in
    (codes "  " ++ (whose ++ (codes "line " ++ (decimal s.line ++ (codes ", column " ++ (decimal s.column ++ (10 ∷ [])))))))
    ++ marked_line (first_line (drop s.begins text)) s.column

-- A beginning of the marks was written, and all of them but where the output has failed or was refused memory.
abbrev pub IsMarked : Option (List ℕ) → Option (List ℕ) → Bool → Bool → List ℕ → Type 0
IsMarked old new failed ran_out marks = WritesBeginning old new marks × (Appends old new marks ⊎ ((failed ≡ true) ⊎ (ran_out ≡ true)))
