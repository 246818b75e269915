-- What the private functions compute, here and in `frame_capture`. Nothing here need be believed: proofs/ ties each form to the definitions.
use Rattle.std.specs.Prelude.{ℕ, ◌+◌, ◌-◌, List, eqb, leb, length, get_or, cond}
use Rattle.frame.specs.Frame.{opens, ends}
use Rattle.frame.specs.Capture.{count, settles, event}
use Rattle.frame.specs.declared.reader.Fed.{Fed}
use Rattle.frame.specs.declared.part.Part.{Part}
use Rattle.frame.specs.declared.capture.Kind.{Kind}
use Rattle.frame.specs.declared.capture.Kind.TheVariants.{Frame, Broken, Noise, Pending}
use Rattle.frame.specs.declared.capture.Event.{Event}
use Rattle.frame.specs.declared.capture.Totals.{Totals}

-- a part after what one byte more gave
abbrev pub with_fed : Part → Fed → Part
with_fed part fed = record {
  reader = fed.reader;
  frame = part.frame + count Frame (settles fed.answer);
  broken = part.broken + count Broken (settles fed.answer);
  noise = part.noise + count Noise (settles fed.answer);
}

-- the stretch that starts at a place inside the capture, over the header's length
unfoldable pub stretch_at : ℕ → List ℕ → ℕ → Event
stretch_at head capture at =
    let end = head + get_or capture (at + (head - 1)) 0 in
    let left = length capture - at in
    cond (eqb (get_or capture at 0) opens)
    (cond (leb left end)
    (event at left Pending)
    (cond (eqb (get_or capture (at + end) 0) ends)
    (event at (end + 1) Frame)
    (cond (eqb (get_or capture (at + end) 0) opens) (event at end Broken) (event at (end + 1) Broken))))
    (event at 1 Noise)

-- the totals of so many bytes, of which those in no other total are noise
abbrev pub with_noise : Totals → ℕ → Totals
with_noise t n = record { frame = t.frame; broken = t.broken; noise = n - t.frame - t.broken - t.pending; pending = t.pending }

-- totals with the bytes of one event more
abbrev pub with_event : Totals → ℕ → Kind → Totals
with_event t n Frame = record { frame = t.frame + n; broken = t.broken; noise = t.noise; pending = t.pending }
with_event t n Broken = record { frame = t.frame; broken = t.broken + n; noise = t.noise; pending = t.pending }
with_event t n Noise = record { frame = t.frame; broken = t.broken; noise = t.noise + n; pending = t.pending }
with_event t n Pending = record { frame = t.frame; broken = t.broken; noise = t.noise; pending = t.pending + n }
