-- Promise: C and R name the directions, and any other letter is 12, before 11; a capture over 60,000 bytes is 11, and one within them has
-- its four totals; what is refused has four totals of zero, and what is no refusal has the number 0.
use Rattle.std.specs.Prelude.{◌≡◌, List, ℕ, ◌≤◌, ◌<◌, length, Err, Ok}
use Rattle.frame.specs.Letter.{direction_of}
use Rattle.frame.specs.Capture.{capture_limit, totals_of, counted_of, counted_by}
use Rattle.frame.specs.Numbers.{letter_number, counted_number, counted_totals, no_totals}
use Rattle.frame.specs.declared.direction.Direction.{Direction}
use Rattle.frame.specs.declared.direction.Direction.TheVariants.{Command, Answer}
use Rattle.frame.specs.declared.capture.Totals.{Totals}
use Rattle.refusals.specs.declared.refusal.Refusal.TheVariants.{TooLong}

pub record CaptureRefusalPromise : Type 0 where
  -- 12 for any letter but C and R, before 11
  pub letter : (l : ℕ) → (l ≡ 0x43 → ⊥) → (l ≡ 0x52 → ⊥) → letter_number (direction_of l) ≡ 12
  pub named : (direction_of 0x43 ≡ Ok Command) × (direction_of 0x52 ≡ Ok Answer)
  pub numbered : (letter_number (direction_of 0x43) ≡ 0) × (letter_number (direction_of 0x52) ≡ 0)
  pub first : (l : ℕ) (capture : List ℕ) → letter_number (direction_of l) ≡ 12 → counted_number (counted_by (direction_of l) capture) ≡ 12
  -- 11 over the limit, and no other capture is refused
  pub long : (dir : Direction) (capture : List ℕ) → capture_limit < length capture → counted_of dir capture ≡ Err TooLong
  pub within : (dir : Direction) (capture : List ℕ) → length capture ≤ capture_limit → counted_of dir capture ≡ Ok (totals_of dir capture)
  pub zero : (letter : ℕ) (capture : List ℕ)
      → (counted_number (counted_by (direction_of letter) capture) ≡ 0 → ⊥) → counted_totals (counted_by (direction_of letter) capture) ≡ no_totals
  pub totals : (letter : ℕ) (capture : List ℕ) (t : Totals) → counted_by (direction_of letter) capture ≡ Ok t
      → (counted_number (counted_by (direction_of letter) capture) ≡ 0) × (counted_totals (counted_by (direction_of letter) capture) ≡ t)
