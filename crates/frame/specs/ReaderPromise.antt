-- Promise: the reader that the code keeps, made new and fed any stream, gives the answers of the definition's reader,
-- and stands where that one stands. One that the host has spoilt: a place past the end place counts as the end place, and
-- while the header is taken Dl is not looked at.
use Rattle.std.specs.Prelude.{◌≡◌, List, [], ℕ, ◌+◌, ◌≤◌, ◌<◌}
use Rattle.frame.specs.Frame.{header}
use Rattle.frame.specs.Reader.{answers, taken_by}
use Rattle.frame.specs.KeptReader.{fresh_reader, reader_of, fed_of, answers_of, reader_after}
use Rattle.frame.specs.declared.direction.Direction.{Direction}

pub record ReaderPromise : Type 0 where
  pub told : (dir : Direction) (stream : List ℕ) → answers_of (fresh_reader dir) stream ≡ answers dir [] stream
  pub stands : (dir : Direction) (stream : List ℕ) → reader_after (fresh_reader dir) stream ≡ reader_of dir (taken_by dir [] stream)

pub record SpoiltPromise (dir : Direction) (place n b : ℕ) : Type 0 where
  pub past : header dir + n ≤ place
      → fed_of (record { direction = dir; place = place; dl = n }) b ≡ fed_of (record { direction = dir; place = header dir + n; dl = n }) b
  pub early : place < header dir → fed_of (record { direction = dir; place = place; dl = n }) b ≡ fed_of (record { direction = dir; place = place; dl = 0 }) b
