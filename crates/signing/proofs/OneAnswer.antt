-- The contract of each public function that these definitions are for, here or in the crate of its code, admits one answer.
use mathlib.Core.Path.{◌≡◌}
use mathlib.Core.List.{List}
use Prim.Native.Nat.{ℕ}
use Rattle.refusals.specs.OneAnswer.{OneAnswer}
use Rattle.refusals.proofs.One.{one}
use Rattle.row.specs.Profile.{profile_of}
use Rattle.row.specs.declared.profile.Profile.{Profile}
use Rattle.sheet.specs.Sheet.{lines_of}
use Rattle.sheet.specs.declared.sheet.Sheet.{Sheet}
use Rattle.signing.specs.Sign.{sign_off}
use Rattle.signing.specs.Capture.{capture_signed}
use Rattle.signing.specs.ByLetter.{file_signed_by, held_file, capture_cell_by}
use Rattle.tracker.specs.declared.tracker.Tracker.{Tracker}

pub sign_sheet_one : (tracker : Tracker) (sheet : Sheet) → OneAnswer (λ x. x ≡ sign_off tracker (lines_of sheet))
sign_sheet_one tracker sheet = one (sign_off tracker (lines_of sheet))

pub capture_signs_one : (profile : Profile) (sheet : Sheet) (capture : List ℕ) → OneAnswer (λ x. x ≡ capture_signed profile (lines_of sheet) capture)
capture_signs_one profile sheet capture = one (capture_signed profile (lines_of sheet) capture)

pub sign_file_one : (letter : ℕ) (file capture : List ℕ) → OneAnswer (λ x. x ≡ file_signed_by (profile_of letter) file capture)
sign_file_one letter file capture = one (file_signed_by (profile_of letter) file capture)

pub hold_file_one : (profile : Profile) (file capture : List ℕ) → OneAnswer (λ x. x ≡ held_file profile file capture)
hold_file_one profile file capture = one (held_file profile file capture)

pub cell_in_capture_one : (letter : ℕ) (capture : List ℕ) (zone command : ℕ) → OneAnswer (λ x. x ≡ capture_cell_by (profile_of letter) capture zone command)
cell_in_capture_one letter capture zone command = one (capture_cell_by (profile_of letter) capture zone command)
