-- Promise: a capture within the limit signs an accepted sheet off exactly when for each line the last status answer among the capture's
-- frames for its zone and row shows the line's value. 11 comes before the sheet's refusal, and the sheet's refusal before yes and no.
use Rattle.std.specs.Prelude.{◌≡◌, List, ℕ, ◌≤◌, ◌<◌, length, Err, Ok, false, true}
use Rattle.lists.specs.Each.{Each}
use Rattle.frame.specs.Capture.{capture_limit}
use Rattle.row.specs.declared.profile.Profile.{Profile}
use Rattle.sheet.specs.Check.{sheet_verdict}
use Rattle.sheet.specs.declared.line.Line.{Line}
use Rattle.tracker.specs.Capture.{brought_by}
use Rattle.signing.specs.SignPromise.{IsAnswered}
use Rattle.signing.specs.Capture.{capture_signed}
use Rattle.refusals.specs.declared.refusal.Refusal.TheVariants.{TooLong}
use Rattle.refusals.specs.declared.refusal.Fault.{Fault}
use Rattle.refusals.specs.Refusal.{fault}

pub record CaptureSignPromise (profile : Profile) (ls : List Line) (capture : List ℕ) : Type 0 where
  pub long : capture_limit < length capture → capture_signed profile ls capture ≡ Err (fault TooLong 0)
  pub refused : length capture ≤ capture_limit → (f : Fault) → sheet_verdict profile ls ≡ Err f → capture_signed profile ls capture ≡ Err f
  pub yes : length capture ≤ capture_limit → sheet_verdict profile ls ≡ Ok tt → Each (IsAnswered profile (brought_by capture)) ls
      → capture_signed profile ls capture ≡ Ok true
  pub no : length capture ≤ capture_limit → sheet_verdict profile ls ≡ Ok tt → (Each (IsAnswered profile (brought_by capture)) ls → ⊥)
      → capture_signed profile ls capture ≡ Ok false
  pub only : capture_signed profile ls capture ≡ Ok true
      → (length capture ≤ capture_limit) × (sheet_verdict profile ls ≡ Ok tt) × Each (IsAnswered profile (brought_by capture)) ls
