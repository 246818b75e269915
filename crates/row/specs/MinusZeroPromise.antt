-- Promise: document 02, C-14: which rows are concerned, and which code alone; minus zero means 0, and 00 is the code that is written for it.
use Rattle.std.specs.Prelude.{◌≡◌, true, false, cond, List, [], ◌∷◌, ℕ, ◌<◌, Some}
use Rattle.lists.specs.InOrder.{in_order}
use Rattle.row.specs.Signed.{number_of, code_of}
use Rattle.row.specs.MinusZero.{is_minus_zero, normal}
use Rattle.row.specs.Table.{table}
use Rattle.row.specs.declared.table.Row.{Row}

-- a row's profile and command, where it has minus zero
abbrev pub concerned : Row → List (ℕ × ℕ)
concerned row = cond (is_minus_zero row 0x80) ((row.profile, row.code) ∷ []) []

pub record MinusZeroPromise : Type 0 where
  -- "A 3A, A 45 and A 46 .. and .. S 3B", and no other row
  pub rows : in_order concerned table ≡ (0x41, 0x3A) ∷ (0x41, 0x45) ∷ (0x41, 0x46) ∷ (0x53, 0x3B) ∷ []
  -- 80 there is turned into 00; no other code is turned, and none in another row
  pub turned : (row : Row) → row.signed ≡ true → normal row 0x80 ≡ 0x00
  pub other : (row : Row) (code : ℕ) → (code ≡ 0x80 → ⊥) → normal row code ≡ code
  pub unsigned : (row : Row) (code : ℕ) → row.signed ≡ false → normal row code ≡ code
  -- what is turned means what it meant, its number is written as it, and it is turned no further
  pub means : (row : Row) (code : ℕ) → number_of (normal row code) ≡ number_of code
  pub written : (row : Row) (code : ℕ) → row.signed ≡ true → code < 0x100 → code_of (number_of code) ≡ Some (normal row code)
  pub again : (row : Row) (code : ℕ) → is_minus_zero row (normal row code) ≡ false
