-- Promise: the house rules, over any row of a profile and in document 01's words.
use Rattle.std.specs.Prelude.{ℕ, ◌≡◌, true, false, [], ◌∷◌, ◌⊎◌, ℤ, ◌≤ℤ◌, Some}
use Rattle.std.proofs.Math.IntN.{suc_ℤ, pred_ℤ}
use Rattle.frame.specs.declared.direction.Direction.TheVariants.{Command}
use Rattle.row.specs.MinusZero.{is_minus_zero, normal}
use Rattle.row.specs.Table.{row_of}
use Rattle.row.specs.declared.profile.Profile.{Profile}
use Rattle.row.specs.declared.table.Row.{Row}
use Rattle.judging.specs.Judge.{is_setting, is_answer}
use Rattle.message.specs.Content.{is_leveller_off, number_in, content_of, is_form}
use Rattle.message.specs.declared.content.Content.{Content}
use Rattle.message.specs.declared.content.Content.TheVariants.{Request, Up, Down, On, Off, Toggle}
use Rattle.unit.specs.House.{is_not_calculated, value_after}

-- a legal value that means a number: any but Leveller's off
abbrev pub IsNumber : Row → ℕ → Type 0
IsNumber row v = (is_answer row v ≡ true) × (is_leveller_off row v ≡ false)

-- the ends: no value of the row means a greater number, or a lesser
abbrev pub Highest : Row → ℕ → Type 0
Highest row v = (w : ℕ) → IsNumber row w → number_in row w ≤ℤ number_in row v

abbrev pub Lowest : Row → ℕ → Type 0
Lowest row v = (w : ℕ) → IsNumber row w → number_in row v ≤ℤ number_in row w

-- a step to the next number, which is held as its own code and never as 80, or none at the end
abbrev pub Steps : Row → ℕ → ℕ → ℤ → Type 0 → Type 0
Steps row v w next End = ((number_in row w ≡ next) × IsNumber row w × (is_minus_zero row w ≡ false)) ⊎ ((w ≡ v) × End)

pub record HousePromise (profile : Profile) (command : ℕ) (row : Row) (there : row_of profile command ≡ Some row) : Type 0 where
  -- "A step moves the value by one, in signed rows the signed value"; "a step past either end leaves the value"
  pub up : row.steps ≡ true → (v : ℕ) → IsNumber row v → Steps row v (value_after row Up v) (suc_ℤ (number_in row v)) (Highest row v)
  pub down : row.steps ≡ true → (v : ℕ) → IsNumber row v → Steps row v (value_after row Down v) (pred_ℤ (number_in row v)) (Lowest row v)
  -- "Leveller off stays off under steps"
  pub off : (v : ℕ) → is_leveller_off row v ≡ true → (value_after row Up v ≡ v) × (value_after row Down v ≡ v)
  -- "room EQ not calculated stays so", whatever the command; else "F1 on, F2 off"
  pub not_calculated : (v : ℕ) → is_not_calculated row v ≡ true → (c : Content) → is_form Command row c ≡ true → value_after row c v ≡ v
  pub switched : (v : ℕ) → is_not_calculated row v ≡ false → (value_after row On v ≡ 0x01) × (value_after row Off v ≡ 0x00)
  -- "Toggle swaps 00 and 01."
  pub toggled : (value_after row Toggle 0x00 ≡ 0x01) × (value_after row Toggle 0x01 ≡ 0x00)
  -- a request changes nothing; a setting code is held after it, 80 as 00, whatever was held before but room EQ not calculated
  pub requested : (v : ℕ) → value_after row Request v ≡ v
  pub set : (v w : ℕ) → is_not_calculated row v ≡ false → is_setting row w ≡ true → value_after row (content_of Command row (w ∷ [])) v ≡ normal row w
  -- a legal value stays legal
  pub legal : row.pair ≡ false → (v : ℕ) → is_answer row v ≡ true → (c : Content) → is_form Command row c ≡ true → is_answer row (value_after row c v) ≡ true
