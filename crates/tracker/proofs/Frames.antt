-- What stands at the head of a capture: a frame brings its own fields and data, and nothing else brings anything.
use mathlib.Core.Path.{◌≡◌, refl, ap, sym, ◌∙◌}
use mathlib.Core.Bool.{Bool, true, false}
use mathlib.Core.List.{List, [], ◌∷◌, ◌++◌, append_assoc, append-nil}
use Prim.Native.Nat.{ℕ, zero, suc, ◌+◌, ◌≤◌, ◌<◌}
use native.Mathlib.Nat.{zero-add, add-zero}
use native.Mathlib.Omega.{arith}
use borrow.Author.Tests.{ne_eqb, le-leb, lt-leb, leb-true, leb-false}
use lib.Dec.{leb}
use lib.ListN.{length, take, length-append}
use lib.Seq.{take-append_seam, drop-append-add, take-append-le}
use Rattle.lists.specs.InOrder.{in_order}
use Rattle.streams.specs.Stream.{answers_by, reader_by}
use Rattle.lent.specs.Placed.{bytes_at}
use Rattle.frame.specs.Frame.{opens, ends, header, dl, frame_of}
use Rattle.frame.specs.Reader.{answers, taken_by}
use Rattle.frame.specs.Capture.{event, events_told, events_from, first_of}
use Rattle.frame.specs.declared.direction.Direction.TheVariants.{Answer}
use Rattle.frame.specs.declared.reader.ByteAnswer.{ByteAnswer}
use Rattle.frame.specs.declared.reader.ByteAnswer.TheVariants.{Waiting, Noise, Frame, Broken}
use Rattle.frame.specs.declared.capture.Kind.{Kind}
use Rattle.frame.specs.declared.capture.Kind.TheVariants as kind
use Rattle.frame.specs.declared.capture.Event.{Event}
use Rattle.frame.proofs.Events.{events_on, events_noise, events_open, events_fill, events_pending, events_frame, events_next, events_broken}
use Rattle.frame.proofs.Taken.{Stands}
use Rattle.fields.specs.Fields.{fields_in, data_in}
use Rattle.fields.proofs.Back.{frame_promise}
use Rattle.tracker.specs.Feed.{BroughtAnswer}
use Rattle.tracker.specs.Capture.{brought_in, brought_at, brought_by}
use Rattle.tracker.specs.CaptureFedPromise.{unended, BroughtPromise}
use Rattle.std.specs.Prelude.{Some}

-- the bytes and events behind a front of a capture are those of the rest, further on
module _ (front rest : List ℕ) where
  bytes_shift : (at n : ℕ) → bytes_at (front ++ rest) (length front + at) n ≡ bytes_at rest at n
  unfolding bytes_at
  bytes_shift at n = go (leb (at + n) (length rest)) refl
    where
      go : (t : Bool) → leb (at + n) (length rest) ≡ t → bytes_at (front ++ rest) (length front + at) n ≡ bytes_at rest at n
      go true e =
          rw (e, le-leb (length front + at + n) (length (front ++ rest)) (omega (arith, length-append front rest, leb-true (at + n) (length rest) e)), drop-append-add front rest at)
      go false e =
          rw (e, lt-leb (length front + at + n) (length (front ++ rest)) (omega (arith, length-append front rest, leb-false (at + n) (length rest) e)))

  abbrev brings : List Event → List BroughtAnswer
  brings es = in_order (brought_at (front ++ rest)) es

  shift : (ws : List ByteAnswer) (left at : ℕ) → brings (events_told (length front + at) ws left) ≡ in_order (brought_at rest) (events_told at ws left)
  unfolding in_order events_told
  shift [] zero at = refl
  shift [] (suc left) at = refl
  shift (Waiting ∷ ws) left at = shift ws left at
  shift (Noise ∷ ws) left at =
      let further : length front + at + 1 ≡ length front + (at + 1) = omega arith in
      ap (λ (k : ℕ). brings (events_told k ws left)) further ∙ shift ws left (at + 1)
  shift (Frame n ∷ ws) left at =
      let further : length front + at + n ≡ length front + (at + n) = omega arith in
      ap (λ (bs : List ℕ). brought_in bs ++ brings (events_told (length front + at + n) ws left)) (bytes_shift at n)
      ∙ ap (λ (k : ℕ). brought_in (bytes_at rest at n) ++ brings (events_told k ws left)) further
      ∙ ap (λ (xs : List BroughtAnswer). brought_in (bytes_at rest at n) ++ xs) (shift ws left (at + n))
  shift (Broken n ∷ ws) left at =
      let further : length front + at + n ≡ length front + (at + n) = omega arith in
      ap (λ (k : ℕ). brings (events_told k ws left)) further ∙ shift ws left (at + n)

  -- a front that is one event brings what the event does, and then what the rest brings
  behind : (k : Kind) (xs : List BroughtAnswer) → events_from Answer (front ++ rest) 0 ≡ event 0 (length front) k ∷ events_on Answer (length front) [] rest
      → brought_at (front ++ rest) (event 0 (length front) k) ≡ xs → brought_by (front ++ rest) ≡ xs ++ brought_by rest
  unfolding in_order events_from
  behind k xs e f =
      ap brings e
      ∙ ap (λ (ys : List BroughtAnswer). ys ++ brings (events_on Answer (length front) [] rest)) f
      ∙ ap (λ (ys : List BroughtAnswer). xs ++ ys)
      (ap (λ (n : ℕ). brings (events_on Answer n [] rest)) (sym (add-zero (length front))) ∙ shift (answers Answer [] rest) (length (taken_by Answer [] rest)) 0)

take_short : (m : ℕ) (xs : List ℕ) → length (take m xs) ≤ length xs
take_short zero xs = omega arith
take_short (suc m) [] = omega arith
take_short (suc m) (x ∷ xs) = omega (arith, take_short m xs)

-- no bytes bring nothing
pub brought_none : brought_by [] ≡ []
unfolding in_order events_from events_told answers_by reader_by
brought_none = refl

-- a byte outside any frame brings nothing
noise_here : (b : ℕ) (rest : List ℕ) → (b ≡ opens → ⊥) → brought_by (b ∷ rest) ≡ brought_by rest
unfolding events_from
noise_here b rest other = behind (b ∷ []) rest kind.Noise [] (events_noise Answer 0 b rest (ne_eqb b opens other)) refl

module _ (zone command ac : ℕ) (body : List ℕ) where
  abbrev head : List ℕ
  head = unended zone command ac body

  abbrev middle : List ℕ
  middle = zone ∷ command ∷ ac ∷ length body ∷ body

  to_end : (ys : List ℕ) → events_from Answer (head ++ ys) 0 ≡ events_on Answer 0 head ys
  unfolding events_from
  to_end ys = events_open Answer 0 opens (middle ++ ys) refl ∙ events_fill Answer 0 (opens ∷ []) middle ys (omega arith) (omega arith)

  full : header Answer + dl Answer head ≤ length head
  full = omega arith

  -- the frame's end place is in the event
  past : (b : ℕ) (rest : List ℕ) (k : Kind) → events_on Answer 0 head (b ∷ rest) ≡ event 0 (length head + 1) k ∷ events_on Answer (0 + (length head + 1)) [] rest
      → events_from Answer ((head ++ b ∷ []) ++ rest) 0 ≡ event 0 (length (head ++ b ∷ [])) k ∷ events_on Answer (length (head ++ b ∷ [])) [] rest
  past b rest k e =
      ap (λ (bs : List ℕ). events_from Answer bs 0) (append_assoc head (b ∷ []) rest)
      ∙ to_end (b ∷ rest)
      ∙ e
      ∙ ap (λ (n : ℕ). event 0 n k ∷ events_on Answer (0 + n) [] rest) (sym (length-append head (b ∷ [])))
      ∙ ap (λ (n : ℕ). event 0 (length (head ++ b ∷ [])) k ∷ events_on Answer n [] rest) (zero-add (length (head ++ b ∷ [])))

  abbrev frame : List ℕ
  frame = frame_of Answer zone command ac body

  abbrev itself : BroughtAnswer
  itself = record { zone = zone; command = command; answer = ac; body = body }

  bytes_here : (rest : List ℕ) → bytes_at (frame ++ rest) 0 (length frame) ≡ frame
  unfolding bytes_at
  bytes_here rest =
      rw (le-leb (0 + length frame) (length (frame ++ rest)) (omega (arith, length-append frame rest))) (take-append_seam frame rest)

  brought_here : brought_in frame ≡ itself ∷ []
  brought_here =
      let b = frame_promise.brought Answer zone command ac body in rw (b.head, b.load)

  frame_here : (rest : List ℕ) → events_from Answer (frame ++ rest) 0 ≡ event 0 (length frame) kind.Frame ∷ events_on Answer (length frame) [] rest
  unfolding frame_of
  frame_here rest = past ends rest kind.Frame (events_frame Answer 0 head (omega arith) full ends rest refl)

  pub brought_behind : (rest : List ℕ) → brought_by (frame ++ rest) ≡ itself ∷ brought_by rest
  brought_behind rest = behind frame rest kind.Frame (itself ∷ []) (frame_here rest) (ap brought_in (bytes_here rest) ∙ brought_here)

  -- broken by 21, which opens the next frame, and by any other byte
  opened : (rest : List ℕ) → brought_by (head ++ opens ∷ rest) ≡ brought_by (opens ∷ rest)
  opened rest =
      behind head (opens ∷ rest) kind.Broken [] (
      to_end (opens ∷ rest)
      ∙ events_next Answer 0 head (omega arith) full opens rest refl
      ∙ ap (λ (n : ℕ). event 0 (length head) kind.Broken ∷ events_on Answer n [] (opens ∷ rest)) (zero-add (length head))
      ) refl

  broken : (b : ℕ) (rest : List ℕ) → (b ≡ ends → ⊥) → (b ≡ opens → ⊥) → brought_by (head ++ b ∷ rest) ≡ brought_by rest
  broken b rest e o =
      ap brought_by (sym (append_assoc head (b ∷ []) rest))
      ∙ behind (head ++ b ∷ []) rest kind.Broken [] (past b rest kind.Broken (events_broken Answer 0 head (omega arith) full b rest (ne_eqb b ends e) (ne_eqb b opens o))) refl

  -- a frame that is not finished
  stands : (m : ℕ) → Stands Answer (opens ∷ take m middle)
  stands zero = omega arith
  stands (suc zero) = omega arith
  stands (suc (suc zero)) = omega arith
  stands (suc (suc (suc zero))) = omega arith
  stands (suc (suc (suc (suc m)))) = omega (arith, take_short m body)

  front : (m : ℕ) → suc m < length frame → take (suc m) frame ≡ opens ∷ take m middle
  unfolding frame_of
  front m h = ap (λ (bs : List ℕ). opens ∷ bs) (take-append-le m middle (ends ∷ []) (omega (arith, length-append body (ends ∷ []))))

  pends : (m : ℕ) → events_from Answer (opens ∷ take m middle) 0 ≡ event 0 (suc (length (take m middle))) kind.Pending ∷ []
  unfolding events_from
  pends m = events_pending Answer 0 opens (take m middle) refl (stands m)

  pending : (n : ℕ) → n < length frame → brought_by (take n frame) ≡ []
  unfolding in_order
  pending zero h = brought_none
  pending (suc m) h = ap brought_by (front m h) ∙ ap (λ (es : List Event). in_order (brought_at (opens ∷ take m middle)) es) (pends m)

-- one frame brings one answer
pub brought_one : (zone command ac : ℕ) (body : List ℕ) → brought_by (frame_of Answer zone command ac body) ≡ record { zone = zone; command = command; answer = ac; body = body } ∷ []
brought_one zone command ac body =
    ap brought_by (sym (append-nil (frame_of Answer zone command ac body))) ∙ brought_behind zone command ac body []
    ∙ ap (λ (xs : List BroughtAnswer). record { zone = zone; command = command; answer = ac; body = body } ∷ xs) brought_none

-- the event of a frame, anywhere in a capture
frame_event : (capture : List ℕ) (at n : ℕ) → first_of (events_from Answer capture at) ≡ Some (event at n kind.Frame)
    → (a : BroughtAnswer) × (brought_at capture (event at n kind.Frame) ≡ a ∷ []) × (frame_of Answer a.zone a.command a.answer a.body ≡ bytes_at capture at n)
frame_event capture at n e =
    let w = frame_promise.captured Answer capture at n e in
    let bytes = bytes_at capture at n in
    (record { zone = (fields_in Answer bytes).zone; command = (fields_in Answer bytes).command; answer = (fields_in Answer bytes).answer; body = data_in Answer bytes }, rw w.whole, w.same)

pub brought_promise : BroughtPromise
brought_promise = record {
  none = brought_none;
  frame = brought_behind;
  noise = noise_here;
  opened = opened;
  broken = broken;
  pending = pending;
  events = frame_event;
}
