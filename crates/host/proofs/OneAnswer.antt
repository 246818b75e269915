-- Each public function's contract admits one answer.
use mathlib.Core.Path.{◌≡◌}
use mathlib.Core.List.{List}
use Prim.Native.Nat.{ℕ}
use Rattle.refusals.specs.OneAnswer.{OneAnswer}
use Rattle.refusals.proofs.One.{one, one_lent}
use Rattle.row.specs.declared.profile.Profile.{Profile}
use Rattle.sheet.specs.Sheet.{with_all}
use Rattle.sheet.specs.Check.{sheet_verdict}
use Rattle.sheetfile.specs.Written.{file_answered, file_left, run_answered, run_left}
use Rattle.sheet.specs.declared.line.Line.{Line}
use Rattle.sheet.specs.declared.sheet.Sheet.{Sheet}
use Rattle.tracker.specs.Tracker.{kept_in}
use Rattle.tracker.specs.Feed.{answer_fed}
use Rattle.signing.specs.Sign.{sign_off}
use Rattle.tracker.specs.Capture.{capture_fed}
use Rattle.signing.specs.Capture.{capture_signed}
use Rattle.tracker.specs.declared.tracker.Tracker.{Tracker}
use Rattle.std.specs.Prelude.{Result}
use Rattle.refusals.specs.declared.refusal.Refusal.{Refusal}
use Rattle.refusals.specs.declared.refusal.Fault.{Fault}
use Rattle.fields.specs.declared.fields.Fields.{Fields}
use Rattle.message.specs.declared.read.Message.{Message}

pub with_lines_one : (lines : List Line) (from : Sheet) → OneAnswer (λ x. x ≡ with_all from lines)
with_lines_one lines from = one (with_all from lines)

pub check_sheet_one : (profile : Profile) (lines : List Line) → OneAnswer (λ x. x ≡ sheet_verdict profile lines)
check_sheet_one profile lines = one (sheet_verdict profile lines)

-- a write: its answer and the buffer after it
pub write_sheet_file_one : (profile : Profile) (lines : List Line) (buf : List ℕ) (at : ℕ)
    → OneAnswer (λ (x : Result ℕ Fault × List ℕ). (x.0 ≡ file_answered profile lines buf at) × (x.1 ≡ file_left profile lines buf at))
write_sheet_file_one profile lines buf at = one_lent (file_answered profile lines buf at) (file_left profile lines buf at)

pub write_run_one : (profile : Profile) (lines : List Line) (buf : List ℕ) (at : ℕ)
    → OneAnswer (λ (x : Result ℕ Fault × List ℕ). (x.0 ≡ run_answered profile lines buf at) × (x.1 ≡ run_left profile lines buf at))
write_run_one profile lines buf at = one_lent (run_answered profile lines buf at) (run_left profile lines buf at)

pub read_cell_one : (tracker : Tracker) (zone command : ℕ) → OneAnswer (λ x. x ≡ kept_in tracker zone command)
read_cell_one tracker zone command = one (kept_in tracker zone command)

-- a tracker lent mutably: the answer, and the tracker after it
pub feed_one : (tracker : Tracker) (fields : Fields) (body : List ℕ)
    → OneAnswer (λ (x : Result Message Refusal × Tracker). (x.0 ≡ (answer_fed tracker fields.zone fields.command fields.answer body).reading) × (x.1 ≡ (answer_fed tracker fields.zone fields.command fields.answer body).tracker))
feed_one tracker fields body = one_lent (answer_fed tracker fields.zone fields.command fields.answer body).reading (answer_fed tracker fields.zone fields.command fields.answer body).tracker

pub feed_capture_one : (tracker : Tracker) (capture : List ℕ)
    → OneAnswer (λ (x : (Result (Unit {0}) Refusal) × Tracker). (x.0 ≡ (capture_fed tracker capture).answer) × (x.1 ≡ (capture_fed tracker capture).tracker))
feed_capture_one tracker capture = one_lent (capture_fed tracker capture).answer (capture_fed tracker capture).tracker

pub sign_off_one : (tracker : Tracker) (lines : List Line) → OneAnswer (λ x. x ≡ sign_off tracker lines)
sign_off_one tracker lines = one (sign_off tracker lines)

pub sign_capture_one : (profile : Profile) (lines : List Line) (capture : List ℕ) → OneAnswer (λ x. x ≡ capture_signed profile lines capture)
sign_capture_one profile lines capture = one (capture_signed profile lines capture)
