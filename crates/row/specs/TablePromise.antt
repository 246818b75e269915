-- Promise: the table has as many rows as it is said to have, and each row its own place in it; and which row is found.
use Rattle.std.specs.Prelude.{◌≡◌, [], ◌∷◌, map, ℕ, length, Some}
use Rattle.row.specs.Profile.{letter_of}
use Rattle.row.specs.Table.{table, row_count, first_row, row_of}
use Rattle.row.specs.declared.profile.Profile.{Profile}
use Rattle.row.specs.declared.table.Row.{Row}

pub record TablePromise : Type 0 where
  pub counted : length table ≡ row_count
  pub placed : map (λ (r : Row). r.place) table ≡ 0 ∷ 1 ∷ 2 ∷ 3 ∷ 4 ∷ 5 ∷ 6 ∷ 7 ∷ 8 ∷ 9 ∷ 10 ∷ 11 ∷ 12 ∷ 13 ∷ 14 ∷ 15 ∷ 16 ∷ 17 ∷ 18 ∷ []
  -- a profile and a command find a row of that profile and command
  pub right : (p : Profile) (command : ℕ) (r : Row) → row_of p command ≡ Some r → (r.profile ≡ letter_of p) × (r.code ≡ command)
  -- each row is found by its own profile and command
  pub all : map (λ (r : Row). first_row table r.profile r.code) table ≡ map Some table
