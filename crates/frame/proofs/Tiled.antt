-- The events of a capture tile it, and the walk meets each.
use mathlib.Core.Path.{◌≡◌, refl, ap, sym, ◌∙◌, subst}
use mathlib.Core.Bool.{Bool, true, false}
use mathlib.Core.List.{List, [], ◌∷◌, ◌++◌}
use Prim.Native.Nat.{ℕ, zero, suc, ◌+◌, ◌≤◌, ◌<◌}
use native.Mathlib.Omega.{arith}
use borrow.Author.Tests.{ne_eqb, eqb-true, eqb-false, ltb-true, ltb-false, leb-true, leb-false}
use lib.Dec.{eqb, ltb, leb}
use lib.ListN.{length, replicate, length-append, length-replicate}
use Rattle.frame.specs.Frame.{header, opens, ends, dl}
use Rattle.frame.specs.Reader.{answer_to, taken_after, answers, taken_by}
use Rattle.frame.specs.Capture.{settles, labels, pending_event, events_told, events_from, first_of, spread}
use Rattle.frame.specs.CapturePromise.{Tiles, Walk, CapturePromise}
use Rattle.frame.specs.Computed.{stretch_at}
use Rattle.frame.specs.declared.direction.Direction.{Direction}
use Rattle.frame.specs.declared.reader.ByteAnswer.{ByteAnswer}
use Rattle.frame.specs.declared.reader.ByteAnswer.TheVariants as answer
use Rattle.frame.specs.declared.capture.Kind.TheVariants.{Frame, Broken}
use Rattle.frame.specs.declared.capture.Event.{Event}
use Rattle.frame.proofs.Labels.{count_all}
use Rattle.frame.proofs.Taken.{taken_outside, taken_inside, taken_end}
use Rattle.frame.proofs.Events.{events_on, events_byte, events_end, events_here}
use Rattle.frame.proofs.Totals.{labels_spread}
use Rattle.streams.specs.Stream.{answers_by, reader_by}
use Rattle.lists.specs.InOrder.{in_order}

-- an answer that ends a stretch ends one with a byte in it
abbrev Ends : ByteAnswer → Type 0
Ends answer.Waiting = 0 < 1
Ends answer.Noise = 0 < 1
Ends (answer.Frame n) = 0 < n
Ends (answer.Broken n) = 0 < n

tiles_to : (at : ℕ) (es : List Event) (m n : ℕ) → m ≡ n → Tiles at es m → Tiles at es n
tiles_to at es m n e t = subst (λ (k : ℕ). Tiles at es k) e t

-- the bytes behind one, wherever the reader goes on
abbrev Goes : Direction → List ℕ → Type 0
Goes dir bs = (at : ℕ) (taken : List ℕ) → Tiles at (events_on dir at taken bs) (at + (length taken + length bs))

-- one answer: what it settles and what is taken then are the bytes that were taken, and one more
tiles_told : (dir : Direction) (bs : List ℕ) → Goes dir bs → (at n : ℕ) (a : ByteAnswer) (then : List ℕ) → Ends a → length (settles a) + length then ≡ n + 1
    → Tiles at (events_told at (a ∷ answers dir then bs) (length (taken_by dir then bs))) (at + (n + suc (length bs)))
unfolding events_told
tiles_told dir bs goes at n answer.Waiting then some e =
    tiles_to at (events_on dir at then bs) (at + (length then + length bs)) (at + (n + suc (length bs))) (omega arith) (goes at then)
tiles_told dir bs goes at n answer.Noise then some e =
    (refl, some, tiles_to (at + 1) (events_on dir (at + 1) then bs) (at + 1 + (length then + length bs)) (at + (n + suc (length bs))) (omega arith) (goes (at + 1) then))
tiles_told dir bs goes at n (answer.Frame k) then some e =
    (refl, some, tiles_to (at + k) (events_on dir (at + k) then bs) (at + k + (length then + length bs)) (at + (n + suc (length bs))) (omega (arith, length-replicate k Frame)) (goes (at + k) then))
tiles_told dir bs goes at n (answer.Broken k) then some e =
    (refl, some, tiles_to (at + k) (events_on dir (at + k) then bs) (at + k + (length then + length bs)) (at + (n + suc (length bs))) (omega (arith, length-replicate k Broken)) (goes (at + k) then))

module _ (dir : Direction) (at : ℕ) (taken : List ℕ) (b : ℕ) (bs : List ℕ) (goes : Goes dir bs) where
  by : (a : ByteAnswer) (then : List ℕ) → (answer_to dir taken b ≡ a) × (taken_after dir taken b ≡ then) → Ends a → length (settles a) + length then ≡ length taken + 1
      → Tiles at (events_on dir at taken (b ∷ bs)) (at + (length taken + suc (length bs)))
  by a then e some h =
      subst (λ (es : List Event). Tiles at es (at + (length taken + suc (length bs)))) (sym (events_byte dir at taken b bs a then e.0 e.1))
      (tiles_told dir bs goes at (length taken) a then some h)

  tiles_outside : length taken ≡ 0 → (t : Bool) → eqb b opens ≡ t → Tiles at (events_on dir at taken (b ∷ bs)) (at + (length taken + suc (length bs)))
  tiles_outside out true e =
      let step = taken_outside dir taken b out in by answer.Waiting (b ∷ []) (step.0 ∙ rw e, step.1 ∙ rw e) (omega arith) (omega arith)
  tiles_outside out false e =
      let step = taken_outside dir taken b out in by answer.Noise [] (step.0 ∙ rw e, step.1 ∙ rw e) (omega arith) (omega arith)

  tiles_inside : 0 < length taken → length taken < header dir + dl dir taken → Tiles at (events_on dir at taken (b ∷ bs)) (at + (length taken + suc (length bs)))
  tiles_inside some early = by answer.Waiting (taken ++ b ∷ []) (taken_inside dir taken b some early) (omega arith) (omega (arith, length-append taken (b ∷ [])))

  tiles_end : 0 < length taken → header dir + dl dir taken ≤ length taken → (t u : Bool) → eqb b ends ≡ t → eqb b opens ≡ u
      → Tiles at (events_on dir at taken (b ∷ bs)) (at + (length taken + suc (length bs)))
  tiles_end some full true u e f =
      let step = taken_end dir taken b some full in
      by (answer.Frame (length taken + 1)) [] (step.0 ∙ rw e, step.1 ∙ rw (ne_eqb b opens (omega (arith, eqb-true b ends e))))
      (omega arith) (omega (arith, length-replicate (length taken + 1) Frame))
  tiles_end some full false true e f =
      let step = taken_end dir taken b some full in
      by (answer.Broken (length taken)) (b ∷ []) (step.0 ∙ rw (e, f), step.1 ∙ rw f) some (omega (arith, length-replicate (length taken) Broken))
  tiles_end some full false false e f =
      let step = taken_end dir taken b some full in
      by (answer.Broken (length taken + 1)) [] (step.0 ∙ rw (e, f), step.1 ∙ rw f) (omega arith) (omega (arith, length-replicate (length taken + 1) Broken))

  tiles_byte : Tiles at (events_on dir at taken (b ∷ bs)) (at + (length taken + suc (length bs)))
  tiles_byte = go (eqb (length taken) 0) (ltb (length taken) (header dir + dl dir taken)) refl refl
    where
      go : (t u : Bool) → eqb (length taken) 0 ≡ t → ltb (length taken) (header dir + dl dir taken) ≡ u
          → Tiles at (events_on dir at taken (b ∷ bs)) (at + (length taken + suc (length bs)))
      go true u e f = tiles_outside (eqb-true _ _ e) (eqb b opens) refl
      go false true e f = tiles_inside (omega (arith, eqb-false (length taken) 0 e)) (ltb-true _ _ f)
      go false false e f = tiles_end (omega (arith, eqb-false (length taken) 0 e)) (ltb-false _ _ f) (eqb b ends) (eqb b opens) refl refl

tiles_pending : (at n : ℕ) → Tiles at (pending_event at n) (at + (n + 0))
tiles_pending at zero = omega arith
tiles_pending at (suc n) = (refl, omega arith, omega arith)

tiles_on : (dir : Direction) (bs : List ℕ) → Goes dir bs
unfolding answers_by reader_by events_told
tiles_on dir [] = λ at taken. tiles_pending at (length taken)
tiles_on dir (b ∷ bs) = λ at taken. tiles_byte dir at taken b bs (tiles_on dir bs)

pub tiled : (dir : Direction) (capture : List ℕ) → Tiles 0 (events_from dir capture 0) (length capture)
unfolding events_from
tiled dir capture = tiles_to 0 (events_from dir capture 0) (0 + (0 + length capture)) (length capture) (omega arith) (tiles_on dir capture 0 [])

tiles_length : (at : ℕ) (es : List Event) (end : ℕ) → Tiles at es end → at + length (spread es) ≡ end
unfolding in_order
tiles_length at [] end t = omega arith
tiles_length at (e ∷ es) end t =
    omega (arith, tiles_length (at + e.length) es end t.2, length-append (replicate e.length e.kind) (spread es), length-replicate e.length e.kind)

labelled : (dir : Direction) (capture : List ℕ) → length (labels dir capture) ≡ length capture
labelled dir capture = rw (labels_spread dir capture) (omega (arith, tiles_length 0 (events_from dir capture 0) (length capture) (tiled dir capture)))

walks : (dir : Direction) (capture : List ℕ) (at : ℕ) (es : List Event) → events_from dir capture at ≡ es → Walk dir capture at es
walks dir capture at [] e = ap first_of e
walks dir capture at (x ∷ es) e = (ap first_of e, walks dir capture (at + x.length) es (go (leb (length capture) at) refl))
  where
    go : (t : Bool) → leb (length capture) at ≡ t → events_from dir capture (at + x.length) ≡ es
    go true f = let none : events_from dir capture at ≡ [] = events_end dir capture at (leb-true _ _ f) in cc
    go false f =
        let here : x ∷ es ≡ stretch_at (header dir) capture at ∷ events_from dir capture (at + (stretch_at (header dir) capture at).length) = sym e ∙ events_here dir capture at (leb-false _ _ f) in
        let first : x ≡ stretch_at (header dir) capture at = cc in
        let rest : events_from dir capture (at + (stretch_at (header dir) capture at).length) ≡ es = cc in
        ap (λ (y : Event). events_from dir capture (at + y.length)) first ∙ rest

pub capture_promise : CapturePromise
capture_promise = record {
  labelled = labelled;
  total = λ dir capture. count_all (labels dir capture) ∙ labelled dir capture;
  tiled = tiled;
  spreads = λ dir capture. sym (labels_spread dir capture);
  walked = λ dir capture. walks dir capture 0 (events_from dir capture 0) refl;
}
