-- After each turn the totals, with the noise that was passed over, are those of the events up to the place.
use Rattle.std.proofs.Common.{◌≡◌, ◌∙◌, ap, sym, ℕ, ◌+◌, arith}
use Rattle.frame.specs.Capture.{events_from}
use Rattle.frame.specs.Computed.{with_event}
use Rattle.frame.specs.declared.direction.Direction.{Direction}
use Rattle.frame.specs.declared.capture.Event.{Event}
use Rattle.frame.specs.declared.capture.Totals.{Totals}
use Rattle.frame.proofs.Header.{header_least}
use Rattle.frame.proofs.Events.{Within, stretch_within}
use Rattle.frame.proofs.Totals.{totals_from, totals_more, sum, sum_more, noisy, noisy_event, noise_here}
use Rattle.frame_capture.proofs.capture.count_events.Goals as goal

pub loop-at-preserved-then-capture-at-ne-OPENS : goal.loop-at-preserved-then-capture-at-ne-OPENS
loop-at-preserved-then-capture-at-ne-OPENS c =
    let l = c.loop-at in
    let noise = l.invariant.0 in
    let here = noise_here c.from-header.result c.args.capture.now l.at c.if-capture-at-ne-OPENS.true in
    let one : Direction → Event → Totals = λ dir x. totals_from (with_event (noisy l.totals noise) x.length x.kind) (events_from dir c.args.capture.now (l.at + x.length)) in
    let same : l.totals.noise + noise + 1 ≡ l.totals.noise + (noise + 1) = omega arith in (
      noise + 1,
      omega arith,
      omega (arith, l.invariant.2),
      λ dir e. l.invariant.3 dir e ∙ totals_more dir c.from-header.result c.args.capture.now l.at (noisy l.totals noise) e (omega arith) ∙ ap (one dir) here
          ∙ ap (λ (n : ℕ). totals_from (record { frame = l.totals.frame; broken = l.totals.broken; noise = n; pending = l.totals.pending }) (events_from dir c.args.capture.now (l.at + 1))) same,
    )

pub loop-at-preserved : goal.loop-at-preserved
loop-at-preserved c =
    let l = c.loop-at in
    let noise = l.invariant.0 in
    let event = c.stretch-event.result in
    let w : Within c.args.capture.now l.at event =
    rw c.stretch-event.ensures (stretch_within c.from-header.result c.args.capture.now l.at (rw (c.from-header.ensures ∙ c.header.ensures) (omega (arith, header_least c.args.direction))) (omega arith)) in
    let moved = noisy_event l.totals noise event.length event.kind in
    let sums : sum (with_event (noisy l.totals noise) event.length event.kind) ≡ l.at + event.length =
    omega (arith, l.invariant.2, sum_more (noisy l.totals noise) event.length event.kind) in (
      noise,
      omega arith,
      rw c.add_event-totals.ensures (sym (ap sum moved) ∙ sums),
      λ dir e. l.invariant.3 dir e ∙ totals_more dir c.from-header.result c.args.capture.now l.at (noisy l.totals noise) e (omega arith)
          ∙ rw (← c.stretch-event.ensures, c.add_event-totals.ensures) (ap (λ (t : Totals). totals_from t (events_from dir c.args.capture.now (l.at + event.length))) moved),
    )
