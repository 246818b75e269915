use mathlib.Core.Path.{◌≡◌}
use Prim.Native.Nat.{ℕ, ◌-◌, ◌≤◌}
use lib.ListN.{length}
use Rattle.frame.specs.Frame
use Rattle.frame.specs.Capture.{events_from}
use Rattle.frame.specs.declared.direction.Direction.{Direction}
use Rattle.frame.proofs.Totals.{totals_from, sum, noisy}
use Rattle.frame_capture.proofs.capture.count_events.Given as goal

abbrev pub invariant-loop-at : goal.invariant-loop-at
invariant-loop-at l =
    (noise : ℕ) × (l.at ≤ length l.capture) × (sum (noisy l.totals noise) ≡ l.at)
    × ((dir : Direction) → l.header ≡ Frame.header dir → totals_from l.initial.totals (events_from dir l.capture 0) ≡ totals_from (noisy l.totals noise) (events_from dir l.capture l.at))

abbrev pub decreases-loop-at : goal.decreases-loop-at
decreases-loop-at l = length l.capture - l.at
