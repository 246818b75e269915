-- The contract of each public function that these definitions are for, here or in the crate of its code, admits one answer.
use mathlib.Core.Path.{◌≡◌}
use mathlib.Core.List.{List}
use Prim.Native.Nat.{ℕ}
use Rattle.refusals.specs.OneAnswer.{OneAnswer}
use Rattle.refusals.proofs.One.{one, one_lent}
use Rattle.row.specs.Profile.{profile_of}
use Rattle.row.specs.declared.profile.Profile.{Profile}
use Rattle.sheet.specs.Sheet.{lines_of}
use Rattle.sheetfile.specs.File.{file_read, file_read_by}
use Rattle.sheetfile.specs.Written.{file_answered, file_left, run_answered, run_left}
use Rattle.sheetfile.specs.ByLetter.{file_verdict_by, copy_answered, copy_left, file_run_answered, file_run_left}
use Rattle.sheet.specs.declared.sheet.Sheet.{Sheet}
use Rattle.std.specs.Prelude.{Result}
use Rattle.refusals.specs.declared.refusal.Fault.{Fault}

pub read_file_one : (profile : Profile) (file : List ℕ) → OneAnswer (λ x. x ≡ file_read profile file)
read_file_one profile file = one (file_read profile file)

pub read_file_by_letter_one : (letter : ℕ) (file : List ℕ) → OneAnswer (λ x. x ≡ file_read_by (profile_of letter) file)
read_file_by_letter_one letter file = one (file_read_by (profile_of letter) file)

pub check_file_one : (letter : ℕ) (file : List ℕ) → OneAnswer (λ x. x ≡ file_verdict_by (profile_of letter) file)
check_file_one letter file = one (file_verdict_by (profile_of letter) file)

-- a write: its answer and the buffer after it

pub put_file_one : (buf : List ℕ) (at : ℕ) (profile : Profile) (sheet : Sheet)
    → OneAnswer (λ (x : Result ℕ Fault × List ℕ). (x.0 ≡ file_answered profile (lines_of sheet) buf at) × (x.1 ≡ file_left profile (lines_of sheet) buf at))
put_file_one buf at profile sheet = one_lent (file_answered profile (lines_of sheet) buf at) (file_left profile (lines_of sheet) buf at)

pub put_run_one : (buf : List ℕ) (at : ℕ) (profile : Profile) (sheet : Sheet)
    → OneAnswer (λ (x : Result ℕ Fault × List ℕ). (x.0 ≡ run_answered profile (lines_of sheet) buf at) × (x.1 ≡ run_left profile (lines_of sheet) buf at))
put_run_one buf at profile sheet = one_lent (run_answered profile (lines_of sheet) buf at) (run_left profile (lines_of sheet) buf at)

pub copy_file_one : (letter : ℕ) (file buf : List ℕ) (at : ℕ)
    → OneAnswer (λ (x : Result ℕ Fault × List ℕ). (x.0 ≡ copy_answered (profile_of letter) file buf at) × (x.1 ≡ copy_left (profile_of letter) file buf at))
copy_file_one letter file buf at = one_lent (copy_answered (profile_of letter) file buf at) (copy_left (profile_of letter) file buf at)

pub run_of_file_one : (letter : ℕ) (file buf : List ℕ) (at : ℕ)
    → OneAnswer (λ (x : Result ℕ Fault × List ℕ). (x.0 ≡ file_run_answered (profile_of letter) file buf at) × (x.1 ≡ file_run_left (profile_of letter) file buf at))
run_of_file_one letter file buf at = one_lent (file_run_answered (profile_of letter) file buf at) (file_run_left (profile_of letter) file buf at)
