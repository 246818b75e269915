-- Document 02, C-13: "Hold a table of 256 numbers per profile, one for each command code, naming the row's kind or none."
use Rattle.std.specs.Prelude.{ℕ, zero, suc, ◌/◌, ◌%◌, ◌<◌, ◌≡◌, List, [], ◌∷◌, get_or, None, Option, Some}
use Rattle.row.specs.Table.{table, row_of}
use Rattle.row.specs.declared.profile.Profile.{Profile}
use Rattle.row.specs.declared.table.Row.{Row}

-- the number that stands for a row: its place in document 01's table and one more; 0 for none
abbrev pub kind_number : Option Row → ℕ
kind_number (Some r) = suc r.place
kind_number None = 0

-- the number that a profile's table must have for a command code
abbrev pub kind_of : Profile → ℕ → ℕ
kind_of p command = kind_number (row_of p command)

-- the number that a table, in lines of sixteen, has for a command code
unfoldable pub kind_at : List (List ℕ) → ℕ → ℕ
kind_at kinds command = get_or (get_or kinds (command / 16) []) (command % 16) 0

-- a table that has the number of each command code
pub record HasKinds (p : Profile) (kinds : List (List ℕ)) : Type 0 where
  pub each : (command : ℕ) → command < 256 → kind_at kinds command ≡ kind_of p command

-- the row at a place of some rows, from 0; none past their end
abbrev pub row_at : List Row → ℕ → Option Row
row_at [] place = None
row_at (r ∷ rs) zero = Some r
row_at (r ∷ rs) (suc place) = row_at rs place

-- the row of document 01's table that a number names, or none
abbrev pub row_named : ℕ → Option Row
row_named zero = None
row_named (suc place) = row_at table place
