-- What a capture alone signs off and makes known, by the profile's letter: "Order: 12, then 11, before all others". The sheet comes as
-- the bytes of its sheet file, whose refusals are next.
use Rattle.std.specs.Prelude.{ℕ, Bool, List, [], ◌∷◌, length, Err, Ok, Result}
use Rattle.refusals.specs.Refusal.{number, fault}
use Rattle.refusals.specs.Rule.{ruled}
use Rattle.refusals.specs.declared.refusal.Refusal.{Refusal}
use Rattle.refusals.specs.declared.refusal.Fault.{Fault}
use Rattle.frame.specs.Capture.{long_capture}
use Rattle.row.specs.declared.profile.Profile.{Profile}
use Rattle.sheet.specs.Sheet.{no_lines, with_all}
use Rattle.sheet.specs.declared.sheet.Sheet.{Sheet}
use Rattle.sheetfile.specs.File.{records, lines_in, file_verdict}
use Rattle.tracker.specs.Tracker.{fresh_tracker, kept_in}
use Rattle.tracker.specs.Capture.{tracked_by, capture_fed}
use Rattle.tracker.specs.Numbers.{kept_state, kept_byte}
use Rattle.signing.specs.Sign.{all_hold, signed_by}
use Rattle.tracker.specs.declared.tracker.Tracker.{Tracker}
use Rattle.tracker.specs.declared.tracker.Kept.{Kept}
use Rattle.signing.specs.declared.by_letter.HeldFile.{HeldFile}

-- a sheet file signed off by a capture alone
abbrev pub file_signed : Profile → List ℕ → List ℕ → Result Bool Fault
file_signed profile file capture =
    ruled (long_capture (length capture) ∷ []) (λ e. Err (fault e 0))
    (signed_by (file_verdict profile file) (all_hold (tracked_by profile capture) (lines_in (records file))))

abbrev pub file_signed_by : Result Profile Refusal → List ℕ → List ℕ → Result Bool Fault
file_signed_by (Ok profile) file capture = file_signed profile file capture
file_signed_by (Err e) file capture = Err (fault e 0)

-- a sign-off with what it goes by; "A refusal returns its number and zero for every other field": with one there is neither tracker nor sheet
abbrev pub held_as : Result Bool Fault → Tracker → Sheet → Result HeldFile Fault
held_as (Ok agrees) fed lines = Ok (record { agrees = agrees; tracker = fed; sheet = lines })
held_as (Err f) fed lines = Err f

-- of a sheet file: the tracker once the capture was fed, and the file's lines
abbrev pub held_file : Profile → List ℕ → List ℕ → Result HeldFile Fault
held_file profile file capture =
    held_as (file_signed profile file capture) (capture_fed (fresh_tracker profile) capture).tracker (with_all no_lines (lines_in (records file)))

-- what a tracker made new knows of a row and zone once a capture was fed to it
abbrev pub capture_cell : Profile → List ℕ → ℕ → ℕ → Result Kept Refusal
capture_cell profile capture zone command =
    ruled (long_capture (length capture) ∷ []) Err (Ok (kept_in (tracked_by profile capture) zone command))

abbrev pub capture_cell_by : Result Profile Refusal → List ℕ → ℕ → ℕ → Result Kept Refusal
capture_cell_by (Ok profile) capture zone command = capture_cell profile capture zone command
capture_cell_by (Err e) capture zone command = Err e

-- its number; 1 for a byte, 0 for unknown or refused and 2 for no cell; and its byte
abbrev pub capture_cell_number : Result Kept Refusal → ℕ
capture_cell_number (Ok k) = 0
capture_cell_number (Err e) = number e

abbrev pub capture_cell_state : Result Kept Refusal → ℕ
capture_cell_state (Ok k) = kept_state k
capture_cell_state (Err e) = 0

abbrev pub capture_cell_byte : Result Kept Refusal → ℕ
capture_cell_byte (Ok k) = kept_byte k
capture_cell_byte (Err e) = 0
