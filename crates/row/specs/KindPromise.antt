-- Promise: "Show once over both tables that each code gives document 01's row or none." The code's look-up asks of its two tables that
-- they have each code's number (`HasKinds`); that is computed of all their entries at once.
use Rattle.std.specs.Prelude.{◌≡◌, List, [], ◌∷◌, map, ℕ, ◌<◌, None, Some}
use Rattle.row.specs.Table.{table, row_of}
use Rattle.row.specs.Kind.{kind_number, kind_of, kind_at, HasKinds, row_named}
use Rattle.row.specs.declared.profile.Profile.{Profile}
use Rattle.row.specs.declared.table.Row.{Row}

pub record KindPromise : Type 0 where
  -- the number of each code names the row that document 01 has for it, and none where it has none
  pub gives : (p : Profile) (kinds : List (List ℕ)) → HasKinds p kinds → (command : ℕ) → command < 256 → row_named (kind_at kinds command) ≡ row_of p command
  -- it is 0 exactly where there is no row
  pub zero_none : (p : Profile) (command : ℕ) → (kind_of p command ≡ 0 → row_of p command ≡ None) × (row_of p command ≡ None → kind_of p command ≡ 0)
  -- no two numbers name one row
  pub one : (n : ℕ) (r : Row) → row_named n ≡ Some r → n ≡ kind_number (Some r)
  -- A's rows are 1 to 10, and S's 11 to 19
  pub numbers : map (λ (r : Row). kind_number (Some r)) table ≡ 1 ∷ 2 ∷ 3 ∷ 4 ∷ 5 ∷ 6 ∷ 7 ∷ 8 ∷ 9 ∷ 10 ∷ 11 ∷ 12 ∷ 13 ∷ 14 ∷ 15 ∷ 16 ∷ 17 ∷ 18 ∷ 19 ∷ []
