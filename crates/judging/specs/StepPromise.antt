-- Promise: what judging gives by zone and row, length and value. Document 02, C-11: 13 for a command's step or request that its row lacks,
-- and 4 for every other value that a row lacks.
use Rattle.std.specs.Prelude.{◌≡◌, true, false, List, [], ◌∷◌, map, ◌⊎◌, ℕ, length, replicate, Err, Ok}
use Rattle.refusals.specs.Refusal.{number}
use Rattle.refusals.specs.Rule.{ruled}
use Rattle.refusals.specs.RulePromise.{FirstApplies}
use Rattle.frame.specs.declared.direction.Direction.{Direction}
use Rattle.frame.specs.declared.direction.Direction.TheVariants.{Command}
use Rattle.row.specs.Table.{table}
use Rattle.row.specs.declared.profile.Profile.{Profile}
use Rattle.row.specs.declared.table.Row.{Row}
use Rattle.judging.specs.Judge.{has_byte, has_length, has_value, has_data, value_rules, value_refusal, data_rules, row_judged, judged_of}
use Rattle.refusals.specs.declared.refusal.Refusal.{Refusal}
use Rattle.refusals.specs.declared.refusal.Refusal.TheVariants.{NoStep, WrongLength, WrongValue}

abbrev pub IsStepOrRequest : ℕ → Type 0
IsStepOrRequest b = (b ≡ 0xF0) ⊎ (b ≡ 0xF1) ⊎ (b ≡ 0xF2)

-- "A command byte F0, F1 or F2 that the row lacks", where zone, row and length are right
pub record MissingStep (profile : Profile) (dir : Direction) (zone command : ℕ) (body : List ℕ) : Type 0 where
  pub sent : dir ≡ Command
  pub byte : ℕ
  pub one : body ≡ byte ∷ []
  pub step : IsStepOrRequest byte
  pub row : Row
  pub legal : row_judged profile zone command ≡ Ok row
  pub long : has_length dir row (length body) ≡ true
  pub lacks : has_byte Command row byte ≡ false

pub record StepPromise (profile : Profile) (dir : Direction) (zone command : ℕ) (body : List ℕ) : Type 0 where
  -- zone and row come first, then the length, and what fits is legal
  pub before : (e : Refusal) → row_judged profile zone command ≡ Err e → judged_of profile dir zone command body ≡ Err e
  pub size : (row : Row) → row_judged profile zone command ≡ Ok row → has_length dir row (length body) ≡ false → judged_of profile dir zone command body ≡ Err WrongLength
  pub fits : (row : Row) → row_judged profile zone command ≡ Ok row → has_data dir row body ≡ true → judged_of profile dir zone command body ≡ Ok row
  -- a missing step or request "answers the new number"; no other data get it: none of an answer, no two bytes of S 0F, no other code
  pub step : MissingStep profile dir zone command body → judged_of profile dir zone command body ≡ Err NoStep
  pub alone : judged_of profile dir zone command body ≡ Err NoStep → MissingStep profile dir zone command body
  -- "4 stays" for every other value that the row lacks
  pub rest : (row : Row) → row_judged profile zone command ≡ Ok row → has_length dir row (length body) ≡ true → has_value dir row body ≡ false
      → (MissingStep profile dir zone command body → ⊥) → judged_of profile dir zone command body ≡ Err WrongValue

-- what data of one byte give in a direction, row by row in document 01's order; 0 where the row has it
abbrev pub in_rows : Direction → ℕ → List ℕ
in_rows dir b = map (λ (row : Row). ruled (data_rules dir (b ∷ []) row) number 0) table

-- which rows have requests and steps, or on and off
pub record StepRowsPromise : Type 0 where
  -- every row has F0
  pub requests : in_rows Command 0xF0 ≡ replicate 19 0
  -- F1 and F2: of A's 0F, 10, 11, 37, 38, 39, 3A, 44, 45, 46 the rows 37, 39, 3A, 45 and 46, and of S's 0D, 0E, 0F, 37, 3B, 44, 5A, 5B, 5C the row 0D
  pub steps : in_rows Command 0xF1
      ≡ 13 ∷ 13 ∷ 13 ∷ 0 ∷ 13 ∷ 0 ∷ 0 ∷ 13 ∷ 0 ∷ 0
      ∷ 0 ∷ 13 ∷ 13 ∷ 13 ∷ 13 ∷ 13 ∷ 13 ∷ 13 ∷ 13 ∷ []
  pub same : in_rows Command 0xF2 ≡ in_rows Command 0xF1
  -- where data are unfit one of the rules of the value applies, and its refusal is given
  pub given : (dir : Direction) (row : Row) (body : List ℕ) → FirstApplies (value_rules dir row body true) (value_refusal dir row body)
  -- a row that lacked F0 would give 13 for it too
  pub lacks : (row : Row) (b : ℕ) → IsStepOrRequest b → has_byte Command row b ≡ false → value_refusal Command row (b ∷ []) ≡ NoStep
