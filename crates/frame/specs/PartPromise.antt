-- Promise: "how a stream is cut into calls changes nothing". Parts fed one after another, each from the reader that the last one gave,
-- bring the answers (`CutPromise` of any reader) and the counts of the whole; from a fresh reader these are the capture's totals.
use Rattle.std.specs.Prelude.{◌≡◌, List, [], ◌∷◌, ℕ, ◌+◌}
use Rattle.lists.specs.InOrder.{joined}
use Rattle.streams.specs.CutPromise.{CutPromise}
use Rattle.frame.specs.KeptReader.{fresh_reader, next_reader, byte_answer}
use Rattle.frame.specs.Capture.{part_of, totals_of}
use Rattle.frame.specs.declared.direction.Direction.{Direction}
use Rattle.frame.specs.declared.reader.Reader.{Reader}
use Rattle.frame.specs.declared.part.Part.{Part}

abbrev pub added_up : Part → Part → Part
added_up p q = record {
  reader = q.reader;
  frame = p.frame + q.frame;
  broken = p.broken + q.broken;
  noise = p.noise + q.noise;
}

abbrev pub fed_in_parts : Reader → List (List ℕ) → Part
fed_in_parts r [] = part_of r []
fed_in_parts r (p ∷ ps) = added_up (part_of r p) (fed_in_parts (part_of r p).reader ps)

pub record PartPromise : Type 0 where
  pub cut : CutPromise next_reader byte_answer
  pub counted : (r : Reader) (parts : List (List ℕ)) → fed_in_parts r parts ≡ part_of r (joined parts)
  pub frame : (dir : Direction) (capture : List ℕ) → (part_of (fresh_reader dir) capture).frame ≡ (totals_of dir capture).frame
  pub broken : (dir : Direction) (capture : List ℕ) → (part_of (fresh_reader dir) capture).broken ≡ (totals_of dir capture).broken
  pub noise : (dir : Direction) (capture : List ℕ) → (part_of (fresh_reader dir) capture).noise ≡ (totals_of dir capture).noise
  pub pending : (dir : Direction) (capture : List ℕ) → (part_of (fresh_reader dir) capture).reader.place ≡ (totals_of dir capture).pending
