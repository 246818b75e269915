-- What an event makes known is one cell or nothing.
use Rattle.std.proofs.Common.{◌∙◌}
use Rattle.tracker.proofs.Captures.{event_inside, feeds_next}
use Rattle.tracker_code.proofs.capture.feed_events.Goals as goal

pub loop-event-preserved-in-Some-told_at : goal.loop-event-preserved-in-Some-told_at
loop-event-preserved-in-Some-told_at c =
    let l = c.loop-event in
    rw c.make_known.ensures (
      event_inside _ _ _ c.in-Some.ensures,
      l.invariant.1,
      l.invariant.2 ∙ feeds_next _ _ _ _ l.invariant.1 _ c.in-Some.ensures _ c.in-Some-told_at.ensures,
    )

pub loop-event-preserved : goal.loop-event-preserved
loop-event-preserved c =
    let l = c.loop-event in (
      event_inside _ _ _ c.in-Some.ensures,
      l.invariant.1,
      l.invariant.2 ∙ feeds_next _ _ _ _ l.invariant.1 _ c.in-Some.ensures _ c.in_default-told_at.ensures,
    )
