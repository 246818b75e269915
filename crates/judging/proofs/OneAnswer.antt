-- The contract of each public function that these definitions are for, here or in the crate of its code, admits one answer.
use mathlib.Core.Path.{◌≡◌}
use mathlib.Core.List.{List}
use Prim.Native.Nat.{ℕ}
use Rattle.refusals.specs.OneAnswer.{OneAnswer}
use Rattle.frame.specs.declared.direction.Direction.{Direction}
use Rattle.refusals.proofs.One.{one}
use Rattle.row.specs.declared.profile.Profile.{Profile}
use Rattle.row.specs.declared.table.Row.{Row}
use Rattle.judging.specs.Judge.{is_setting, is_answer, is_word, has_length, has_data, value_refusal, row_judged, judged_of}

pub judge_one : (profile : Profile) (direction : Direction) (zone command : ℕ) (body : List ℕ)
    → OneAnswer (λ x. x ≡ judged_of profile direction zone command body)
judge_one profile direction zone command body = one (judged_of profile direction zone command body)

pub judge_row_one : (profile : Profile) (zone command : ℕ) → OneAnswer (λ x. x ≡ row_judged profile zone command)
judge_row_one profile zone command = one (row_judged profile zone command)

pub is_setting_one : (row : Row) (code : ℕ) → OneAnswer (λ x. x ≡ is_setting row code)
is_setting_one row code = one (is_setting row code)

pub is_answer_one : (row : Row) (code : ℕ) → OneAnswer (λ x. x ≡ is_answer row code)
is_answer_one row code = one (is_answer row code)

pub is_word_one : (row : Row) (byte : ℕ) → OneAnswer (λ x. x ≡ is_word row byte)
is_word_one row byte = one (is_word row byte)

pub length_fits_one : (direction : Direction) (row : Row) (length : ℕ) → OneAnswer (λ x. x ≡ has_length direction row length)
length_fits_one direction row length = one (has_length direction row length)

pub data_fit_one : (direction : Direction) (row : Row) (body : List ℕ) → OneAnswer (λ x. x ≡ has_data direction row body)
data_fit_one direction row body = one (has_data direction row body)

pub value_refusal_one : (direction : Direction) (row : Row) (body : List ℕ) → OneAnswer (λ x. x ≡ value_refusal direction row body)
value_refusal_one direction row body = one (value_refusal direction row body)
