use mathlib.Core.Path.{◌≡◌}
use Prim.Native.Nat.{◌-◌, ◌≤◌}
use lib.ListN.{length}
use Rattle.lists.specs.InOrder.{in_order}
use Rattle.frame.specs.Capture.{events_from}
use Rattle.frame.specs.declared.direction.Direction.TheVariants.{Answer}
use Rattle.tracker.specs.Feed.{answers_fed}
use Rattle.tracker.specs.Capture.{brought_at, brought_by}
use Rattle.tracker_code.proofs.capture.feed_events.Given as goal

abbrev pub invariant-loop-event : goal.invariant-loop-event
invariant-loop-event l =
    (l.at ≤ length l.capture)
    × (l.next.profile ≡ l.profile)
    × (answers_fed l.initial.next (brought_by l.capture) ≡ answers_fed l.next (in_order (brought_at l.capture) (events_from Answer l.capture l.at)))

abbrev pub decreases-loop-event : goal.decreases-loop-event
decreases-loop-event l = length l.capture - l.at
