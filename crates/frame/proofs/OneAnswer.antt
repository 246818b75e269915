-- The contract of each public function that these definitions are for, here or in the crate of its code, admits one answer.
use mathlib.Core.Path.{◌≡◌}
use mathlib.Core.List.{List}
use Prim.Native.Nat.{ℕ}
use Rattle.refusals.specs.OneAnswer.{OneAnswer}
use Rattle.refusals.proofs.One.{one}
use Rattle.frame.specs.Letter.{direction_of}
use Rattle.frame.specs.Frame.{header}
use Rattle.frame.specs.KeptReader.{fresh_reader, fed_of}
use Rattle.frame.specs.Capture.{part_of, events_from, first_of, counted_of, counted_by}
use Rattle.frame.specs.declared.direction.Direction.{Direction}
use Rattle.frame.specs.declared.reader.Reader.{Reader}

pub direction_of_one : (letter : ℕ) → OneAnswer (λ x. x ≡ direction_of letter)
direction_of_one letter = one (direction_of letter)

pub new_one : (direction : Direction) → OneAnswer (λ x. x ≡ fresh_reader direction)
new_one direction = one (fresh_reader direction)

pub header_one : (direction : Direction) → OneAnswer (λ x. x ≡ header direction)
header_one direction = one (header direction)

pub feed_one : (self : Reader) (byte : ℕ) → OneAnswer (λ x. x ≡ fed_of self byte)
feed_one self byte = one (fed_of self byte)

pub take_part_one : (reader : Reader) (bytes : List ℕ) → OneAnswer (λ x. x ≡ part_of reader bytes)
take_part_one reader bytes = one (part_of reader bytes)

pub next_event_one : (direction : Direction) (capture : List ℕ) (at : ℕ) → OneAnswer (λ x. x ≡ first_of (events_from direction capture at))
next_event_one direction capture at = one (first_of (events_from direction capture at))

pub capture_totals_one : (direction : Direction) (capture : List ℕ) → OneAnswer (λ x. x ≡ counted_of direction capture)
capture_totals_one direction capture = one (counted_of direction capture)

pub capture_totals_by_letter_one : (letter : ℕ) (capture : List ℕ) → OneAnswer (λ x. x ≡ counted_by (direction_of letter) capture)
capture_totals_by_letter_one letter capture = one (counted_by (direction_of letter) capture)
