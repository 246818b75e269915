-- Promise: what a sheet's file is signed off as, is what its lines are; the tracker and lines that are given with a sign-off bear it out;
-- what a capture's cell shows is what a tracker fed with it knows; and 12 first, then 11, then the file's refusal.
use Rattle.std.specs.Prelude.{◌≡◌, List, ℕ, ◌≤◌, ◌<◌, Bool, length, Err, Ok, Result}
use Rattle.frame.specs.Capture.{capture_limit}
use Rattle.row.specs.Profile.{profile_of}
use Rattle.row.specs.declared.profile.Profile.{Profile}
use Rattle.sheet.specs.Sheet.{lines_of}
use Rattle.sheetfile.specs.File.{file_of, file_verdict}
use Rattle.sheet.specs.declared.line.Line.{Line}
use Rattle.tracker.specs.Tracker.{kept_in}
use Rattle.tracker.specs.Capture.{tracked_by}
use Rattle.signing.specs.Sign.{all_hold}
use Rattle.signing.specs.Capture.{capture_signed}
use Rattle.tracker.specs.Numbers.{kept_state, kept_byte}
use Rattle.signing.specs.Numbers.{signed_number, signed_place, signed_yes}
use Rattle.signing.specs.ByLetter.{file_signed_by, held_file, capture_cell_by, capture_cell_number, capture_cell_state, capture_cell_byte}
use Rattle.refusals.specs.declared.refusal.Refusal.{Refusal}
use Rattle.refusals.specs.Refusal.{number}
use Rattle.refusals.specs.declared.refusal.Fault.{Fault}
use Rattle.signing.specs.declared.by_letter.HeldFile.{HeldFile}
use Rattle.tracker.specs.declared.tracker.Kept.{Kept}

-- "A refusal returns its number and zero for every other field": 11 and 12 have no place
abbrev pub RefusedFile : ℕ → Result Bool Fault → Type 0
RefusedFile n s = (signed_number s ≡ n) × (signed_place s ≡ 0) × (signed_yes s ≡ 0)

abbrev pub RefusedCell : ℕ → Result Kept Refusal → Type 0
RefusedCell n c = (capture_cell_number c ≡ n) × (capture_cell_state c ≡ 0) × (capture_cell_byte c ≡ 0)

pub record SignByLetterPromise (letter : ℕ) (profile : Profile) (named : profile_of letter ≡ Ok profile) (capture : List ℕ) : Type 0 where
  pub signs : (ls : List Line) → file_signed_by (profile_of letter) (file_of profile ls) capture ≡ capture_signed profile ls capture
  -- a file that is accepted is held, signed off as it says, and that is yes exactly when all the lines that are given hold in the
  -- tracker that is given
  pub held : length capture ≤ capture_limit → (file : List ℕ) → file_verdict profile file ≡ Ok tt
      → (h : HeldFile) × (held_file profile file capture ≡ Ok h) × (file_signed_by (profile_of letter) file capture ≡ Ok h.agrees)
      × (h.agrees ≡ all_hold h.tracker (lines_of h.sheet))
  -- and with a refusal nothing is given
  pub nothing : (file : List ℕ) (f : Fault) → file_signed_by (profile_of letter) file capture ≡ Err f → held_file profile file capture ≡ Err f
  pub shows : length capture ≤ capture_limit → (zone command : ℕ)
      → (capture_cell_number (capture_cell_by (profile_of letter) capture zone command) ≡ 0)
      × (capture_cell_state (capture_cell_by (profile_of letter) capture zone command) ≡ kept_state (kept_in (tracked_by profile capture) zone command))
      × (capture_cell_byte (capture_cell_by (profile_of letter) capture zone command) ≡ kept_byte (kept_in (tracked_by profile capture) zone command))
  -- a file that is refused: its own number and place
  pub refused : length capture ≤ capture_limit → (file : List ℕ) (f : Fault) → file_verdict profile file ≡ Err f
      → (signed_number (file_signed_by (profile_of letter) file capture) ≡ number f.refusal) × (signed_place (file_signed_by (profile_of letter) file capture) ≡ f.place)
      × (signed_yes (file_signed_by (profile_of letter) file capture) ≡ 0)
  pub eleven : capture_limit < length capture → (file : List ℕ) (zone command : ℕ)
      → RefusedFile 11 (file_signed_by (profile_of letter) file capture) × RefusedCell 11 (capture_cell_by (profile_of letter) capture zone command)

pub record SignOtherLetter (letter : ℕ) (file capture : List ℕ) (zone command : ℕ) : Type 0 where
  pub twelve : (letter ≡ 0x41 → ⊥) → (letter ≡ 0x53 → ⊥)
      → RefusedFile 12 (file_signed_by (profile_of letter) file capture) × RefusedCell 12 (capture_cell_by (profile_of letter) capture zone command)
