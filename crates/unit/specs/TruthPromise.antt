-- Promise: what holds where each unit has its own new tracker. Whatever bytes are sent to a unit at legal settings: where all its
-- answers and no others, as bytes, are read and fed to a tracker made new before, each value that the tracker knows is the unit's
-- setting, at every moment. So a sheet that is signed off is a sheet that the unit holds now. And after the full sending of
-- demand 3 the unit's answers sign the sheet off.
use Rattle.std.specs.Prelude.{ℕ, ◌≤◌, ◌≡◌, List, length, Ok, true}
use Rattle.frame.specs.Capture.{capture_limit}
use Rattle.row.specs.declared.profile.Profile.{Profile}
use Rattle.sheet.specs.Check.{sheet_verdict}
use Rattle.sheetfile.specs.Run.{run_of}
use Rattle.sheet.specs.declared.line.Line.{Line}
use Rattle.tracker.specs.Tracker.{kept_in}
use Rattle.signing.specs.Sign.{sign_off}
use Rattle.tracker.specs.Capture.{tracked_by}
use Rattle.signing.specs.Capture.{capture_signed}
use Rattle.tracker.specs.declared.tracker.Kept.TheVariants.{Value}
use Rattle.unit.specs.Unit.{value, Settings, Unit, Holds, after, replies}
use Rattle.unit.specs.Legal.{LegalSettings}
use Rattle.lists.specs.Each.{Each}
use Rattle.unit.specs.Sending.{AreBytes, setting_of, sendings}
use Rattle.unit.specs.Demand3.{stopped}

-- the unit after some bytes, and the tracker then
pub record TruthPromise (u : Unit) (sent : List ℕ) : Type 0 where
  pub known : LegalSettings u.profile u.settings → (zone command b : ℕ) → kept_in (tracked_by u.profile (replies u sent)) zone command ≡ Value b
      → Holds (after u sent) (value zone command) b
  pub signed : LegalSettings u.profile u.settings → (ls : List Line) → sign_off (tracked_by u.profile (replies u sent)) ls ≡ Ok true
      → Each (λ (l : Line). Holds (after u sent) (setting_of l) l.value) ls
  -- the same of the sign-off by a capture of all the answers
  pub captured : LegalSettings u.profile u.settings → (ls : List Line) → capture_signed u.profile ls (replies u sent) ≡ Ok true
      → Each (λ (l : Line). Holds (after u sent) (setting_of l) l.value) ls

pub record SignedSending : Type 0 where
  pub signs : (profile : Profile) (s : Settings) (before : List ℕ) (sheet : List Line) (cuts : List ℕ)
      → LegalSettings profile s → AreBytes before → sheet_verdict profile sheet ≡ Ok tt
      → sign_off (tracked_by profile (replies (stopped profile s before) (sendings cuts (run_of sheet)))) sheet ≡ Ok true
  -- and so as a capture, where it is within the limit
  pub captured : (profile : Profile) (s : Settings) (before : List ℕ) (sheet : List Line) (cuts : List ℕ)
      → LegalSettings profile s → AreBytes before → sheet_verdict profile sheet ≡ Ok tt
      → length (replies (stopped profile s before) (sendings cuts (run_of sheet))) ≤ capture_limit
      → capture_signed profile sheet (replies (stopped profile s before) (sendings cuts (run_of sheet))) ≡ Ok true
