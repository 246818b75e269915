-- A raw frame that is written reads back, and a frame that is read is its own bytes again.
use mathlib.Core.Path.{◌≡◌, refl, ap, sym, ◌∙◌}
use mathlib.Core.Bool.{Bool, true, false}
use mathlib.Core.List.{List, [], ◌∷◌, ◌++◌, append_assoc}
use Prim.Native.Nat.{ℕ, ◌+◌, ◌-◌, ◌≤◌, ◌<◌}
use native.Mathlib.Nat.{add-zero}
use native.Mathlib.Omega.{arith}
use borrow.Author.Tests.{le-leb, eqb-true, leb-true, leb-false}
use lib.Dec.{eqb, leb}
use lib.ListN.{length, take, drop, get_or, replicate, length-drop}
use lib.Seq.{drop_at, get_or-take, get_or-drop, length-take-le}
use Rattle.frame.specs.Frame.{opens, ends, data_limit, header, frame_length, frame_of, dl}
use Rattle.frame.specs.Reader.{taken_after, answers, taken_by}
use Rattle.frame.specs.Capture.{kind_number, event, events_from, first_of}
use Rattle.fields.specs.Fields.{is_frame, fields_in, data_in}
use Rattle.lent.specs.Placed.{bytes_at, last_bytes, placed}
use Rattle.fields.specs.Raw.{raw_rules}
use Rattle.lent.specs.Written.{write_answered, write_left}
use Rattle.lent.proofs.Writes.{write_promise}
use Rattle.fields.specs.FramePromise.{Brings, Again, FramePromise}
use Rattle.frame.specs.Computed.{stretch_at}
use Rattle.frame.specs.declared.direction.Direction.{Direction}
use Rattle.frame.specs.declared.direction.Direction.TheVariants.{Command, Answer}
use Rattle.frame.specs.declared.reader.ByteAnswer.{ByteAnswer}
use Rattle.frame.specs.declared.reader.ByteAnswer.TheVariants as answer
use Rattle.frame.specs.declared.capture.Kind.{Kind}
use Rattle.frame.specs.declared.capture.Kind.TheVariants as kind
use Rattle.frame.specs.declared.capture.Event.{Event}
use Rattle.frame.proofs.Cases.{cases}
use Rattle.frame.proofs.Header.{header_least, frame_length_lem}
use Rattle.frame.proofs.Taken.{fills, taken_outside, taken_end}
use Rattle.frame.proofs.Events.{events_on, events_open, events_fill, events_frame, events_here, events_end}
use Rattle.fields.proofs.Whole.{Whole, is_whole, whole_is}
use Rattle.fields.proofs.Raws.{raw_left}
use Rattle.lent.proofs.Placed.{placed_length, placed_there}
use Rattle.fields.proofs.Again.{frame_is, frame_fields, frame_data, data_length, frame_again}
use Rattle.fields.proofs.Live.{live_frame}
use Rattle.streams.specs.Stream.{answers_by, reader_by}
use Rattle.std.specs.Prelude.{None, Ok, Some}

-- all of a frame but its first byte and its last
middle : Direction → ℕ → ℕ → ℕ → List ℕ → List ℕ
middle Command zone command code body = zone ∷ command ∷ length body ∷ body
middle Answer zone command code body = zone ∷ command ∷ code ∷ length body ∷ body

parts : (dir : Direction) (zone command code : ℕ) (body ys : List ℕ)
    → frame_of dir zone command code body ++ ys ≡ opens ∷ (middle dir zone command code body ++ ends ∷ ys)
unfolding frame_of middle
parts Command zone command code body ys = rw (append_assoc body (ends ∷ []) ys)
parts Answer zone command code body ys = rw (append_assoc body (ends ∷ []) ys)

full : (dir : Direction) (zone command code : ℕ) (body : List ℕ) → length (opens ∷ middle dir zone command code body) ≡ header dir + length body
unfolding middle
full Command zone command code body = omega arith
full Answer zone command code body = omega arith

counted : (dir : Direction) (zone command code : ℕ) (body : List ℕ) → dl dir (opens ∷ middle dir zone command code body) ≡ length body
unfolding middle
counted Command zone command code body = refl
counted Answer zone command code body = refl

module _ (dir : Direction) (zone command code : ℕ) (body : List ℕ) where
  abbrev mid : List ℕ
  mid = middle dir zone command code body

  stands : length (opens ∷ mid) ≤ header dir + dl dir (opens ∷ mid)
  stands = omega (arith, full dir zone command code body, counted dir zone command code body)

  ended : header dir + dl dir (opens ∷ mid) ≤ length (opens ∷ mid)
  ended = omega (arith, full dir zone command code body, counted dir zone command code body)

  long : length (opens ∷ mid) + 1 ≡ frame_length dir (length body)
  long = omega (arith, full dir zone command code body)

  -- the event of a frame with more bytes behind it
  frame_event : (at : ℕ) (ys : List ℕ)
      → events_on dir at [] (frame_of dir zone command code body ++ ys)
      ≡ event at (frame_length dir (length body)) kind.Frame ∷ events_on dir (at + frame_length dir (length body)) [] ys
  frame_event at ys =
      ap (λ (l : List ℕ). events_on dir at [] l) (parts dir zone command code body ys)
      ∙ events_open dir at opens (mid ++ ends ∷ ys) refl
      ∙ events_fill dir at (opens ∷ []) mid (ends ∷ ys) (omega arith) stands
      ∙ events_frame dir at (opens ∷ mid) (omega arith) ended ends ys refl
      ∙ ap (λ (n : ℕ). event at n kind.Frame ∷ events_on dir (at + n) [] ys) long

  frame_whole : frame_of dir zone command code body ≡ opens ∷ (mid ++ ends ∷ [])
  frame_whole = sym (mathlib.Core.List.append-nil (frame_of dir zone command code body)) ∙ parts dir zone command code body []

  frame_answers : answers dir [] (opens ∷ (mid ++ ends ∷ []))
      ≡ replicate (length (opens ∷ mid)) answer.Waiting ++ answer.Frame (length (opens ∷ mid) + 1) ∷ []
  unfolding answers_by
  frame_answers =
      let first = taken_outside dir [] opens refl in
      let last = taken_end dir (opens ∷ mid) ends (omega arith) ended in
      ap (λ (a : ByteAnswer). a ∷ answers dir (taken_after dir [] opens) (mid ++ ends ∷ [])) first.0
      ∙ ap (λ (l : List ℕ). answer.Waiting ∷ answers dir l (mid ++ ends ∷ [])) first.1
      ∙ ap (λ (l : List ByteAnswer). answer.Waiting ∷ l)
      ((fills dir (opens ∷ []) mid (ends ∷ []) (omega arith) stands).0
      ∙ ap (λ (a : ByteAnswer). replicate (length mid) answer.Waiting ++ a ∷ []) last.0)

  frame_read_lem : answers dir [] (frame_of dir zone command code body)
      ≡ replicate (header dir + length body) answer.Waiting ++ answer.Frame (frame_length dir (length body)) ∷ []
  frame_read_lem =
      ap (λ (l : List ℕ). answers dir [] l) frame_whole
      ∙ frame_answers
      ∙ ap (λ (n : ℕ). replicate n answer.Waiting ++ answer.Frame (n + 1) ∷ []) (full dir zone command code body)

  frame_outside : taken_by dir [] (frame_of dir zone command code body) ≡ []
  unfolding reader_by
  frame_outside =
      ap (λ (l : List ℕ). taken_by dir [] l) frame_whole
      ∙ ap (λ (l : List ℕ). taken_by dir l (mid ++ ends ∷ [])) (taken_outside dir [] opens refl).1
      ∙ (fills dir (opens ∷ []) mid (ends ∷ []) (omega arith) stands).1
      ∙ (taken_end dir (opens ∷ mid) ends (omega arith) ended).1

  frame_brings : Brings dir (frame_of dir zone command code body) zone command code body
  frame_brings = record {
    head = rw (frame_is dir zone command code body, frame_fields dir zone command code body);
    load = rw (frame_is dir zone command code body, frame_data dir zone command code body);
  }

-- a frame that stands at a place of a buffer is the event there, and its bytes are the frame
module _ (dir : Direction) (buf : List ℕ) (at zone command code : ℕ) (body : List ℕ)
    (room : at + length (frame_of dir zone command code body) ≤ length buf) where
  abbrev frame : List ℕ
  frame = frame_of dir zone command code body

  pub placed_found : first_of (events_from dir (placed buf at frame) at) ≡ Some (event at (length frame) kind.Frame)
  unfolding events_from
  placed_found =
      let there : drop at (placed buf at frame) ≡ frame ++ drop (at + length frame) buf =
      drop_at (take at buf) (frame ++ drop (at + length frame) buf) at (length-take-le at buf (omega arith)) in
      ap first_of (ap (λ (l : List ℕ). events_on dir at [] l) there ∙ frame_event dir zone command code body at (drop (at + length frame) buf))
      ∙ ap (λ (m : ℕ). Some (event at m kind.Frame)) (sym (frame_length_lem dir zone command code body))

  pub placed_bytes_lem : bytes_at (placed buf at frame) at (length frame) ≡ frame
  unfolding bytes_at
  placed_bytes_lem =
      rw (placed_length buf at frame room, le-leb (at + length frame) (length buf) room) (placed_there buf at frame room)

module _ (dir : Direction) (buf : List ℕ) (at zone command code : ℕ) (body : List ℕ) (n : ℕ)
    (e : write_answered (raw_rules body) buf at (frame_of dir zone command code body) ≡ Ok n) where
  abbrev sent : List ℕ
  sent = frame_of dir zone command code body

  abbrev left : List ℕ
  left = write_left (raw_rules body) buf at sent

  fits : at + length sent ≤ length buf
  fits = let w = (write_promise (raw_rules body) buf at sent).there n e in rw (← w.0) w.1

  is_placed : left ≡ placed buf at sent
  is_placed = ((write_promise (raw_rules body) buf at sent).there n e).2

  long_as : n ≡ length sent
  long_as = ((write_promise (raw_rules body) buf at sent).there n e).0

  raw_found : first_of (events_from dir left at) ≡ Some (event at n kind.Frame)
  raw_found = rw (is_placed, long_as) (placed_found dir buf at zone command code body fits)

  raw_brings : Brings dir (bytes_at left at n) zone command code body
  raw_brings = rw (is_placed, long_as, placed_bytes_lem dir buf at zone command code body fits) (frame_brings dir zone command code body)

-- a frame event of a capture: its bytes are one whole frame
module _ (dir : Direction) (capture : List ℕ) (at n : ℕ) (within : at < length capture) where
  abbrev end : ℕ
  end = header dir + get_or capture (at + (header dir - 1)) 0

  unfoldable Framed : Event → Type 0
  Framed e = e ≡ event at n kind.Frame → (at + n ≤ length capture) × Whole dir (take n (drop at capture))

  other : (m : ℕ) (k : Kind) → (kind_number k ≡ 0 → ⊥) → Framed (event at m k)
  unfolding Framed
  other m k differs e = absurd (differs (ap (λ (x : Event). kind_number x.kind) e))

  whole_there : get_or capture at 0 ≡ opens → end < length capture - at → get_or capture (at + end) 0 ≡ ends → Framed (event at (end + 1) kind.Frame)
  unfolding Framed
  whole_there first room last e =
      let long : n ≡ end + 1 = ap (λ (x : Event). x.length) (sym e) in
      let size : length (take n (drop at capture)) ≡ n = length-take-le n (drop at capture) (rw length-drop (omega arith)) in
      let byte : (i : ℕ) → i < n → get_or (take n (drop at capture)) i 0 ≡ get_or capture (at + i) 0 = λ i h. get_or-take n (drop at capture) i 0 h ∙ get_or-drop at capture i 0 in
      let place : length (take n (drop at capture)) - 1 ≡ end = omega arith in (
        omega arith,
        record {
          first = byte 0 (omega arith) ∙ rw (add-zero at) first;
          long = omega (arith, size, byte (header dir - 1) (omega (arith, header_least dir)));
          last = ap (λ (m : ℕ). get_or (take n (drop at capture)) m 0) place ∙ byte end (omega arith) ∙ last;
        },
      )

  framed : Framed (stretch_at (header dir) capture at)
  unfolding stretch_at
  framed =
      cases Framed (eqb (get_or capture at 0) opens)
      (λ e. cases Framed (leb (length capture - at) end)
      (λ f. other (length capture - at) kind.Pending (λ z. omega arith))
      (λ f. cases Framed (eqb (get_or capture (at + end) 0) ends)
      (λ g. whole_there (eqb-true _ _ e) (leb-false _ _ f) (eqb-true _ _ g))
      (λ g. cases Framed (eqb (get_or capture (at + end) 0) opens)
      (λ h. other end kind.Broken (λ z. omega arith))
      (λ h. other (end + 1) kind.Broken (λ z. omega arith)))))
      (λ e. other 1 kind.Noise (λ z. omega arith))

  framed_there : first_of (events_from dir capture at) ≡ Some (event at n kind.Frame) → (at + n ≤ length capture) × Whole dir (take n (drop at capture))
  unfolding Framed
  framed_there e =
      let here : Some (stretch_at (header dir) capture at) ≡ Some (event at n kind.Frame) = sym (ap first_of (events_here dir capture at within)) ∙ e in
      framed (cc)

written_again : (dir : Direction) (bytes : List ℕ) → is_frame dir bytes ≡ true → (buf : List ℕ) (at : ℕ) → dl dir bytes ≤ data_limit → at + length bytes ≤ length buf
    → write_left (raw_rules (data_in dir bytes)) buf at (frame_of dir (fields_in dir bytes).zone (fields_in dir bytes).command (fields_in dir bytes).answer (data_in dir bytes)) ≡ placed buf at bytes
written_again dir bytes e buf at small room =
    let f = fields_in dir bytes in
    let same = frame_again dir bytes e in
    let few : length (data_in dir bytes) ≡ dl dir bytes = data_length dir bytes (is_whole dir bytes e) in
    let long : length bytes ≡ frame_length dir (length (data_in dir bytes)) = ap length same ∙ frame_length_lem dir f.zone f.command f.answer (data_in dir bytes) in
    raw_left dir buf at f.zone f.command f.answer (data_in dir bytes) (omega arith) (omega arith)
    ∙ ap (λ (l : List ℕ). placed buf at l) (sym same)

again : (dir : Direction) (bytes : List ℕ) → is_frame dir bytes ≡ true → Again dir bytes
again dir bytes e = record {
  whole = e;
  same = sym (frame_again dir bytes e);
  written = λ buf at small room. written_again dir bytes e buf at small room;
}

captured : (dir : Direction) (capture : List ℕ) (at n : ℕ) → first_of (events_from dir capture at) ≡ Some (event at n kind.Frame) → Again dir (bytes_at capture at n)
unfolding bytes_at
captured dir capture at n e = go (leb (length capture) at) refl
  where
    go : (t : Bool) → leb (length capture) at ≡ t → Again dir (bytes_at capture at n)
    go true f =
        let none : None ≡ Some (event at n kind.Frame) = sym (ap first_of (events_end dir capture at (leb-true _ _ f))) ∙ e in
        cc
    go false f =
        let w = framed_there dir capture at n (leb-false _ _ f) e in
        rw (le-leb (at + n) (length capture) w.0) (again dir (take n (drop at capture)) (whole_is dir (take n (drop at capture)) w.1))

pub frame_promise : FramePromise
frame_promise = record {
  read = frame_read_lem;
  outside = frame_outside;
  brought = frame_brings;
  found = raw_found;
  placed = raw_brings;
  captured = captured;
  live = λ dir stream b n e. again dir (last_bytes (stream ++ b ∷ []) n) (live_frame dir stream b n e);
}
