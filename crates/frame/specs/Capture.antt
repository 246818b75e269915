-- Document 01, 'The frame and its reader': "In a capture of at most 60,000 bytes, every byte belongs to exactly one of
-- frame, broken, noise, pending; the four totals are those of this rule."
use Rattle.std.specs.Prelude.{ℕ, zero, suc, ◌+◌, List, [], ◌∷◌, ◌++◌, eqb, ltb, length, drop, replicate, cond, Err, None, Ok, Option, Result, Some}
use Rattle.lists.specs.InOrder.{in_order}
use Rattle.refusals.specs.Rule.{Rule, rule, ruled}
use Rattle.frame.specs.Reader.{answers, taken_by}
use Rattle.frame.specs.KeptReader.{answers_of, reader_after}
use Rattle.frame.specs.declared.direction.Direction.{Direction}
use Rattle.frame.specs.declared.reader.ByteAnswer.{ByteAnswer}
use Rattle.frame.specs.declared.reader.ByteAnswer.TheVariants as answer
use Rattle.frame.specs.declared.reader.Reader.{Reader}
use Rattle.frame.specs.declared.part.Part.{Part}
use Rattle.frame.specs.declared.capture.Kind.{Kind}
use Rattle.frame.specs.declared.capture.Kind.TheVariants.{Frame, Broken, Noise, Pending}
use Rattle.frame.specs.declared.capture.Event.{Event}
use Rattle.frame.specs.declared.capture.Totals.{Totals}
use Rattle.refusals.specs.declared.refusal.Refusal.{Refusal}
use Rattle.refusals.specs.declared.refusal.Refusal.TheVariants.{TooLong}

abbrev pub capture_limit : ℕ
capture_limit = 60000

-- the labels of the bytes whose stretch ends with this answer, one a byte
abbrev pub settles : ByteAnswer → List Kind
settles answer.Waiting = []
settles answer.Noise = Noise ∷ []
settles (answer.Frame n) = replicate n Frame
settles (answer.Broken n) = replicate n Broken

abbrev pub settled : List ByteAnswer → List Kind
settled told = in_order settles told

-- the label of each byte of a capture; "Bytes of an unfinished frame are pending."
unfoldable pub labels : Direction → List ℕ → List Kind
labels dir capture = settled (answers dir [] capture) ++ replicate (length (taken_by dir [] capture)) Pending

-- only to tell the kinds apart: document 01 gives them no numbers
abbrev pub kind_number : Kind → ℕ
kind_number Frame = 0
kind_number Broken = 1
kind_number Noise = 2
kind_number Pending = 3

-- how many of the labels are of a kind
unfoldable pub count : Kind → List Kind → ℕ
count k [] = 0
count k (l ∷ ls) = cond (eqb (kind_number k) (kind_number l)) 1 0 + count k ls

-- "the four totals": they count the labels
abbrev pub totals_of : Direction → List ℕ → Totals
totals_of dir capture = record {
  frame = count Frame (labels dir capture);
  broken = count Broken (labels dir capture);
  noise = count Noise (labels dir capture);
  pending = count Pending (labels dir capture);
}

-- 11: "capture over 60,000 bytes", by how many it has
abbrev pub long_capture : ℕ → Rule
long_capture count = rule TooLong (ltb capture_limit count)

abbrev pub counted_of : Direction → List ℕ → Result Totals Refusal
counted_of dir capture = ruled (long_capture (length capture) ∷ []) Err (Ok (totals_of dir capture))

-- "Order: 12, then 11, before all others."
abbrev pub counted_by : Result Direction Refusal → List ℕ → Result Totals Refusal
counted_by (Ok dir) capture = counted_of dir capture
counted_by (Err e) capture = Err e

-- a part of a stream, from a given reader: the reader after it, and how many bytes it settled as each kind
abbrev pub part_of : Reader → List ℕ → Part
part_of r bytes = record {
  reader = reader_after r bytes;
  frame = count Frame (settled (answers_of r bytes));
  broken = count Broken (settled (answers_of r bytes));
  noise = count Noise (settled (answers_of r bytes));
}

abbrev pub event : ℕ → ℕ → Kind → Event
event at n k = record { at = at; length = n; kind = k }

abbrev pub pending_event : ℕ → ℕ → List Event
pending_event at zero = []
pending_event at (suc n) = event at (suc n) Pending ∷ []

-- the events that the answers make, the first of them starting at a place; bytes that are left pending are one event more
unfoldable pub events_told : ℕ → List ByteAnswer → ℕ → List Event
events_told at [] left = pending_event at left
events_told at (answer.Waiting ∷ rest) left = events_told at rest left
events_told at (answer.Noise ∷ rest) left = event at 1 Noise ∷ events_told (at + 1) rest left
events_told at (answer.Frame n ∷ rest) left = event at n Frame ∷ events_told (at + n) rest left
events_told at (answer.Broken n ∷ rest) left = event at n Broken ∷ events_told (at + n) rest left

-- the events of the bytes from a place on, read by a fresh reader
unfoldable pub events_from : Direction → List ℕ → ℕ → List Event
events_from dir capture at =
    events_told at (answers dir [] (drop at capture)) (length (taken_by dir [] (drop at capture)))

-- the first of them
abbrev pub first_of : List Event → Option Event
first_of [] = None
first_of (e ∷ es) = Some e

-- the labels that events give to their bytes
abbrev pub spread : List Event → List Kind
spread es = in_order (λ (e : Event). replicate e.length e.kind) es
