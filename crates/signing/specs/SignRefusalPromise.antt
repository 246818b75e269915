-- Promise: a refused sheet signs nothing off, and every field but its number and place is zero; a capture over the limit is 11, before
-- the sheet's refusal, and signs nothing off.
use Rattle.std.specs.Prelude.{◌≡◌, List, ℕ, ◌<◌, length, Err, Ok, false, true}
use Rattle.frame.specs.Capture.{capture_limit}
use Rattle.row.specs.declared.profile.Profile.{Profile}
use Rattle.sheet.specs.Check.{sheet_verdict}
use Rattle.sheet.specs.declared.line.Line.{Line}
use Rattle.tracker.specs.declared.tracker.Tracker.{Tracker}
use Rattle.signing.specs.Sign.{sign_off}
use Rattle.signing.specs.Capture.{capture_signed}
use Rattle.signing.specs.Numbers.{signed_number, signed_place, signed_yes}
use Rattle.refusals.specs.Refusal.{number}
use Rattle.refusals.specs.declared.refusal.Fault.{Fault}

pub record SignRefusalPromise (t : Tracker) : Type 0 where
  pub sheet : (ls : List Line) (f : Fault) → sheet_verdict t.profile ls ≡ Err f
      → (signed_number (sign_off t ls) ≡ number f.refusal) × (signed_place (sign_off t ls) ≡ f.place) × (signed_yes (sign_off t ls) ≡ 0)
  pub long_signed : (profile : Profile) (ls : List Line) (capture : List ℕ) → capture_limit < length capture
      → (signed_number (capture_signed profile ls capture) ≡ 11) × (signed_place (capture_signed profile ls capture) ≡ 0) × (signed_yes (capture_signed profile ls capture) ≡ 0)
  -- what is no refusal: 1 for yes and 0 for no
  pub yes : (ls : List Line) → sign_off t ls ≡ Ok true → (signed_number (sign_off t ls) ≡ 0) × (signed_place (sign_off t ls) ≡ 0) × (signed_yes (sign_off t ls) ≡ 1)
  pub no : (ls : List Line) → sign_off t ls ≡ Ok false → (signed_number (sign_off t ls) ≡ 0) × (signed_place (sign_off t ls) ≡ 0) × (signed_yes (sign_off t ls) ≡ 0)
