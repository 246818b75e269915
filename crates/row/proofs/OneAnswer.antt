-- The contract of each public function that these definitions are for, here or in the crate of its code, admits one answer.
use mathlib.Core.Path.{◌≡◌}
use Prim.Native.Nat.{ℕ}
use lib.IntN.{ℤ}
use Rattle.refusals.specs.OneAnswer.{OneAnswer}
use Rattle.refusals.proofs.One.{one}
use Rattle.row.specs.Profile.{profile_of, letter_of, zones_of}
use Rattle.row.specs.Table.{row_of}
use Rattle.row.specs.Signed.{number_of, code_of, plain_code_of}
use Rattle.row.specs.MinusZero.{is_minus_zero}
use Rattle.row.specs.declared.profile.Profile.{Profile}
use Rattle.row.specs.declared.table.Row.{Row}

pub profile_of_one : (letter : ℕ) → OneAnswer (λ x. x ≡ profile_of letter)
profile_of_one letter = one (profile_of letter)

pub letter_one : (self : Profile) → OneAnswer (λ x. x ≡ letter_of self)
letter_one self = one (letter_of self)

pub zones_one : (self : Profile) → OneAnswer (λ x. x ≡ zones_of self)
zones_one self = one (zones_of self)

pub find_row_one : (profile : Profile) (command : ℕ) → OneAnswer (λ x. x ≡ row_of profile command)
find_row_one profile command = one (row_of profile command)

pub number_of_one : (code : ℕ) → OneAnswer (λ x. x ≡ number_of code)
number_of_one code = one (number_of code)

pub code_of_one : (number : ℤ) → OneAnswer (λ x. x ≡ code_of number)
code_of_one number = one (code_of number)

pub plain_code_of_one : (number : ℤ) → OneAnswer (λ x. x ≡ plain_code_of number)
plain_code_of_one number = one (plain_code_of number)

pub is_minus_zero_one : (row : Row) (code : ℕ) → OneAnswer (λ x. x ≡ is_minus_zero row code)
is_minus_zero_one row code = one (is_minus_zero row code)
