-- A letter that names no direction, and a capture that is refused.
use mathlib.Core.Path.{◌≡◌, refl, ap}
use mathlib.Core.List.{List}
use Prim.Native.Nat.{ℕ}
use native.Mathlib.Omega.{arith}
use borrow.Author.Tests.{ne_eqb, lt-ltb, le-ltb}
use lib.ListN.{length}
use Rattle.frame.specs.Letter.{direction_of}
use Rattle.frame.specs.Capture.{capture_limit, counted_by}
use Rattle.frame.specs.Numbers.{letter_number, counted_number, counted_totals, no_totals}
use Rattle.frame.specs.CaptureRefusalPromise.{CaptureRefusalPromise}
use Rattle.std.specs.Prelude.{Err, Ok, Result}
use Rattle.refusals.specs.declared.refusal.Refusal.{Refusal}
use Rattle.frame.specs.declared.direction.Direction.{Direction}
use Rattle.frame.specs.declared.capture.Totals.{Totals}

zeros : (c : Result Totals Refusal) → (counted_number c ≡ 0 → ⊥) → counted_totals c ≡ no_totals
zeros (Ok t) refused = absurd (refused refl)
zeros (Err e) refused = refl

other_letter : (l : ℕ) → (l ≡ 0x43 → ⊥) → (l ≡ 0x52 → ⊥) → letter_number (direction_of l) ≡ 12
unfolding direction_of
other_letter l c r = rw (ne_eqb l 0x43 c, ne_eqb l 0x52 r)

letter_first : (n : Result Direction Refusal) (capture : List ℕ) → letter_number n ≡ 12 → counted_number (counted_by n capture) ≡ 12
letter_first (Ok dir) capture e = absurd (omega (arith, e))
letter_first (Err e) capture f = f

pub capture_refusal_promise : CaptureRefusalPromise
unfolding direction_of
capture_refusal_promise = record {
  named = (refl, refl);
  numbered = (refl, refl);
  long = λ dir capture h. rw (lt-ltb capture_limit (length capture) h);
  within = λ dir capture h. rw (le-ltb capture_limit (length capture) h);
  totals = λ letter capture t e. (ap counted_number e, ap counted_totals e);
  letter = other_letter;
  first = λ l. letter_first (direction_of l);
  zero = λ letter capture. zeros (counted_by (direction_of letter) capture);
}
