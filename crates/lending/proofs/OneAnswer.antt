-- Each public function's contract admits one answer.
use mathlib.Core.Path.{◌≡◌}
use mathlib.Core.List.{List}
use Prim.Native.Nat.{ℕ}
use Rattle.refusals.specs.OneAnswer.{OneAnswer}
use Rattle.refusals.proofs.One.{one, one_lent}
use Rattle.fields.specs.declared.fields.Fields.{Fields}
use Rattle.row.specs.declared.profile.Profile.{Profile}
use Rattle.sheet.specs.Sheet.{lines_of}
use Rattle.sheet.specs.Check.{sheet_verdict}
use Rattle.sheetfile.specs.Written.{file_answered, file_left, run_answered, run_left}
use Rattle.sheet.specs.declared.sheet.Sheet.{Sheet}
use Rattle.tracker.specs.Tracker.{kept_in}
use Rattle.tracker.specs.Feed.{answer_fed}
use Rattle.tracker.specs.Capture.{capture_fed}
use Rattle.signing.specs.Sign.{sign_off}
use Rattle.signing.specs.Capture.{capture_signed}
use Rattle.tracker.specs.declared.tracker.Tracker.{Tracker}
use Rattle.std.specs.Prelude.{Result}
use Rattle.refusals.specs.declared.refusal.Fault.{Fault}

pub check_sheet_lent_one : (profile : Profile) (sheet : Sheet) → OneAnswer (λ x. x ≡ sheet_verdict profile (lines_of sheet))
check_sheet_lent_one profile sheet = one (sheet_verdict profile (lines_of sheet))

-- a write: its answer and the buffer after it
pub write_sheet_file_lent_one : (profile : Profile) (sheet : Sheet) (buf : List ℕ) (at : ℕ)
    → OneAnswer (λ (x : Result ℕ Fault × List ℕ). (x.0 ≡ file_answered profile (lines_of sheet) buf at) × (x.1 ≡ file_left profile (lines_of sheet) buf at))
write_sheet_file_lent_one profile sheet buf at = one_lent (file_answered profile (lines_of sheet) buf at) (file_left profile (lines_of sheet) buf at)

pub write_run_lent_one : (profile : Profile) (sheet : Sheet) (buf : List ℕ) (at : ℕ)
    → OneAnswer (λ (x : Result ℕ Fault × List ℕ). (x.0 ≡ run_answered profile (lines_of sheet) buf at) × (x.1 ≡ run_left profile (lines_of sheet) buf at))
write_run_lent_one profile sheet buf at = one_lent (run_answered profile (lines_of sheet) buf at) (run_left profile (lines_of sheet) buf at)

pub read_cell_lent_one : (tracker : Tracker) (zone command : ℕ) → OneAnswer (λ x. x ≡ kept_in tracker zone command)
read_cell_lent_one tracker zone command = one (kept_in tracker zone command)

pub feed_lent_one : (tracker : Tracker) (fields : Fields) (body : List ℕ) → OneAnswer (λ x. x ≡ answer_fed tracker fields.zone fields.command fields.answer body)
feed_lent_one tracker fields body = one (answer_fed tracker fields.zone fields.command fields.answer body)

pub feed_capture_lent_one : (tracker : Tracker) (capture : List ℕ) → OneAnswer (λ x. x ≡ capture_fed tracker capture)
feed_capture_lent_one tracker capture = one (capture_fed tracker capture)

pub sign_off_lent_one : (tracker : Tracker) (sheet : Sheet) → OneAnswer (λ x. x ≡ sign_off tracker (lines_of sheet))
sign_off_lent_one tracker sheet = one (sign_off tracker (lines_of sheet))

pub sign_capture_lent_one : (profile : Profile) (sheet : Sheet) (capture : List ℕ) → OneAnswer (λ x. x ≡ capture_signed profile (lines_of sheet) capture)
sign_capture_lent_one profile sheet capture = one (capture_signed profile (lines_of sheet) capture)
