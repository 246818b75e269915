-- Each turn reads a byte or more.
use Rattle.std.proofs.Common.{length, ◌-◌, ◌≤◌}
use Rattle.run.proofs.files.read_all.Given as goal

abbrev pub invariant-loop-at : goal.invariant-loop-at
invariant-loop-at g l = l.at ≤ length l.file

abbrev pub decreases-loop-at : goal.decreases-loop-at
decreases-loop-at g l = length l.file - l.at
