-- The list of a sheet in an array, with room for one line more than the limit, and how many of its lines are lent.
use Rattle.std.specs.Prelude.{ℕ, ◌+◌, cond, List, [], ◌∷◌, ◌++◌, ltb}
use Rattle.sheet.specs.Sheet.{sheet_limit, no_line}
use Rattle.sheet.specs.declared.line.Line.{Line}
use Rattle.sheet.specs.declared.sheet.Sheet.{Sheet}

abbrev pub room_limit : ℕ
room_limit = sheet_limit + 1

-- the lines that a sheet keeps, and one of zeros
unfoldable pub room_of : Sheet → List Line
room_of s = s.lines ++ no_line ∷ []

-- as many as it counts, and no more than there is room for
unfoldable pub count_of : Sheet → ℕ
count_of s = cond (ltb room_limit s.count) room_limit s.count
