-- Document 01, 'Sheet, sheet file and run': "The run of a sheet is 256 bytes of 00, then one 6-byte frame per line in order", which
-- document 02, C-20, shortens: "255 zeros for a sheet with at least one line, none for an empty sheet".
use Rattle.std.specs.Prelude.{ℕ, List, [], ◌∷◌, ◌++◌, replicate}
use Rattle.frame.specs.Frame.{frame_of}
use Rattle.frame.specs.declared.direction.Direction.TheVariants as direction
use Rattle.lists.specs.InOrder.{in_order}
use Rattle.sheet.specs.declared.line.Line.{Line}

-- "255 zeros"
abbrev pub flush : ℕ
flush = 255

-- a line's frame is the command that sets its value
abbrev pub line_frame : Line → List ℕ
line_frame l = frame_of direction.Command l.zone l.command 0 (l.value ∷ [])

abbrev pub frames_of : List Line → List ℕ
frames_of ls = in_order line_frame ls

-- "255 zeros for a sheet with at least one line, none for an empty sheet"
unfoldable pub run_of : List Line → List ℕ
run_of [] = []
run_of (l ∷ ls) = replicate flush 0 ++ frames_of (l ∷ ls)
