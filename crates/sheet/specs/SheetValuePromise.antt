-- Promise: document 02, C-14: "sheets refuse 80 with 7 as before", and "A 45 runs to A8, forty quarter steps, on sheets too".
use Rattle.std.specs.Prelude.{◌≡◌, Bool, false, ◌&&◌, ◌||◌, ℕ, ◌<◌, eqb, leb, Some}
use Rattle.row.specs.Table.{row_of}
use Rattle.row.specs.declared.profile.Profile.{Profile}
use Rattle.row.specs.declared.profile.Profile.TheVariants.{A}
use Rattle.row.specs.declared.table.Row.{Row}
use Rattle.sheet.specs.Line.{is_sheet_value, is_legal}
use Rattle.sheet.specs.declared.line.Line.{Line}

-- 0, and forty quarter steps below it
abbrev pub is_trim : ℕ → Bool
is_trim v = eqb v 0x00 || (leb 0x81 v && leb v 0xA8)

pub record SheetValuePromise : Type 0 where
  -- a line of 80 is legal in no profile, zone and row
  pub eighty : (profile : Profile) (l : Line) → l.value ≡ 0x80 → is_legal profile l ≡ false
  -- the sheet values of A 45
  pub trims : (row : Row) → row_of A 0x45 ≡ Some row → (v : ℕ) → v < 256 → is_sheet_value row v ≡ is_trim v
