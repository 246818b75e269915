-- The characters so far are within the line's room.
use Rattle.std.proofs.Common.{◌≤◌, length}
use Rattle.drive.proofs.read_lines.Given as goal

abbrev pub invariant-loop-byte : goal.invariant-loop-byte
invariant-loop-byte l = l.count ≤ length l.line

abbrev pub invariant-loop : goal.invariant-loop
invariant-loop l = l.count ≤ length l.line
