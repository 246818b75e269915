-- Document 01, 'Sheet, sheet file and run': "A sheet comes as a list of lines, each a zone, a command and a value". Here the list is
-- kept by value, with room for the limit.
use Rattle.std.specs.Prelude.{ℕ, ◌+◌, cond, List, [], ◌∷◌, ◌++◌, leb, take, set, replicate}
use Rattle.sheet.specs.declared.line.Line.{Line}
use Rattle.sheet.specs.declared.sheet.Sheet.{Sheet}

-- document 02, C-15: "Raise the limit to 24"
abbrev pub sheet_limit : ℕ
sheet_limit = 24

abbrev pub no_line : Line
no_line = record { zone = 0; command = 0; value = 0 }

abbrev pub no_lines : Sheet
no_lines = record { count = 0; lines = replicate sheet_limit no_line }

-- one line more; past the limit it is not kept, and one more than the limit counts for any longer sheet
unfoldable pub with_line : Sheet → Line → Sheet
with_line s l =
    cond (leb sheet_limit s.count)
    (record { count = sheet_limit + 1; lines = s.lines })
    (record { count = s.count + 1; lines = set s.lines s.count l })

-- the list of lines: as many as it counts; what was not kept stands as a line of zeros
abbrev pub first_lines : List Line → ℕ → List Line
first_lines kept count = take count (kept ++ replicate count no_line)

abbrev pub lines_of : Sheet → List Line
lines_of s = first_lines s.lines s.count

-- a list of lines, by value
unfoldable pub with_all : Sheet → List Line → Sheet
with_all s [] = s
with_all s (l ∷ ls) = with_all (with_line s l) ls
