-- The events of a capture, stretch by stretch.
use mathlib.Core.Path.{◌≡◌, refl, ap, sym, ◌∙◌, subst}
use mathlib.Core.Bool.{true, false, cond}
use mathlib.Core.List.{List, [], ◌∷◌, ◌++◌, append-nil}
use Prim.Native.Nat.{ℕ, zero, suc, ◌+◌, ◌-◌, ◌≤◌, ◌<◌}
use native.Mathlib.Nat.{add-zero}
use native.Mathlib.Numerals.{add-one}
use native.Mathlib.Omega.{arith}
use borrow.Author.Tests.{ne_eqb, leb-true, leb-false, eqb-true}
use lib.Dec.{eqb, leb}
use lib.ListN.{length, take, drop, get_or, replicate, length-drop, drop_of_length-le, take-append-drop}
use lib.Seq.{drop-cons, get_or-drop, get_or-take, drop-drop, length-take-le, drop-length}
use Rattle.frame.specs.Frame.{header, opens, ends, dl}
use Rattle.frame.specs.Reader.{answer_to, taken_after, answers, taken_by}
use Rattle.frame.specs.Capture.{event, events_told, events_from}
use Rattle.frame.specs.Computed.{stretch_at}
use Rattle.frame.specs.declared.direction.Direction.{Direction}
use Rattle.frame.specs.declared.reader.ByteAnswer.{ByteAnswer}
use Rattle.frame.specs.declared.reader.ByteAnswer.TheVariants as answer
use Rattle.frame.specs.declared.capture.Kind.{Kind}
use Rattle.frame.specs.declared.capture.Kind.TheVariants.{Frame, Broken, Noise, Pending}
use Rattle.frame.specs.declared.capture.Event.{Event}
use Rattle.frame.proofs.Cases.{cases}
use Rattle.frame.proofs.Header.{header_least}
use Rattle.frame.proofs.Taken.{Stands, fills, taken_outside, taken_end}
use Rattle.streams.specs.Stream.{answers_by, reader_by}

-- the events of bytes that a reader goes on with, of a stretch that began at a place
abbrev pub events_on : Direction → ℕ → List ℕ → List ℕ → List Event
events_on dir at taken bs = events_told at (answers dir taken bs) (length (taken_by dir taken bs))

waits : (at n left : ℕ) (told : List ByteAnswer) → events_told at (replicate n answer.Waiting ++ told) left ≡ events_told at told left
unfolding events_told
waits at zero left told = refl
waits at (suc n) left told = waits at n left told

-- filling the places of a frame tells no event
pub events_fill : (dir : Direction) (at : ℕ) (taken xs ys : List ℕ) → 0 < length taken → Stands dir (taken ++ xs)
    → events_on dir at taken (xs ++ ys) ≡ events_on dir at (taken ++ xs) ys
events_fill dir at taken xs ys some s =
    let f = fills dir taken xs ys some s in
    ap (λ (t : List ByteAnswer). events_told at t (length (taken_by dir taken (xs ++ ys)))) f.0
    ∙ waits at (length xs) _ _
    ∙ ap (λ (l : List ℕ). events_told at (answers dir (taken ++ xs) ys) (length l)) f.1

module _ (dir : Direction) (at : ℕ) where
  -- one byte more
  pub events_byte : (taken : List ℕ) (b : ℕ) (bs : List ℕ) (a : ByteAnswer) (then : List ℕ) → answer_to dir taken b ≡ a → taken_after dir taken b ≡ then
      → events_on dir at taken (b ∷ bs) ≡ events_told at (a ∷ answers dir then bs) (length (taken_by dir then bs))
  unfolding answers_by reader_by
  events_byte taken b bs a then e f =
      ap (λ (x : ByteAnswer). events_told at (x ∷ answers dir (taken_after dir taken b) bs) (length (taken_by dir (taken_after dir taken b) bs))) e
      ∙ ap (λ (l : List ℕ). events_told at (a ∷ answers dir l bs) (length (taken_by dir l bs))) f

  pub events_noise : (b : ℕ) (bs : List ℕ) → eqb b opens ≡ false → events_on dir at [] (b ∷ bs) ≡ event at 1 Noise ∷ events_on dir (at + 1) [] bs
  unfolding events_told
  events_noise b bs e =
      let step = taken_outside dir [] b refl in
      events_byte [] b bs answer.Noise [] (step.0 ∙ rw e) (step.1 ∙ rw e)

  pub events_open : (b : ℕ) (bs : List ℕ) → eqb b opens ≡ true → events_on dir at [] (b ∷ bs) ≡ events_on dir at (b ∷ []) bs
  unfolding events_told
  events_open b bs e =
      let step = taken_outside dir [] b refl in
      events_byte [] b bs answer.Waiting (b ∷ []) (step.0 ∙ rw e) (step.1 ∙ rw e)

  -- a frame that is not finished
  pub events_pending : (b : ℕ) (bs : List ℕ) → eqb b opens ≡ true → Stands dir (b ∷ bs) → events_on dir at [] (b ∷ bs) ≡ event at (suc (length bs)) Pending ∷ []
  unfolding events_told answers_by reader_by
  events_pending b bs e s =
      events_open b bs e
      ∙ ap (λ (l : List ℕ). events_on dir at (b ∷ []) l) (sym (append-nil bs))
      ∙ events_fill dir at (b ∷ []) bs [] (omega arith) s

-- at the end place
module _ (dir : Direction) (at : ℕ) (taken : List ℕ) (some : 0 < length taken) (full : header dir + dl dir taken ≤ length taken) (b : ℕ) (bs : List ℕ) where
  pub events_frame : eqb b ends ≡ true → events_on dir at taken (b ∷ bs) ≡ event at (length taken + 1) Frame ∷ events_on dir (at + (length taken + 1)) [] bs
  unfolding events_told
  events_frame e =
      let step = taken_end dir taken b some full in
      events_byte dir at taken b bs (answer.Frame (length taken + 1)) [] (step.0 ∙ rw e) (step.1 ∙ rw (ne_eqb b opens (omega (arith, eqb-true b ends e))))

  pub events_next : eqb b opens ≡ true → events_on dir at taken (b ∷ bs) ≡ event at (length taken) Broken ∷ events_on dir (at + length taken) [] (b ∷ bs)
  unfolding events_told
  events_next e =
      let step = taken_end dir taken b some full in
      events_byte dir at taken b bs (answer.Broken (length taken)) (b ∷ []) (step.0 ∙ rw (ne_eqb b ends (omega (arith, eqb-true b opens e)), e)) (step.1 ∙ rw e)
      ∙ ap (λ (l : List Event). event at (length taken) Broken ∷ l) (sym (events_open dir (at + length taken) b bs e))

  pub events_broken : eqb b ends ≡ false → eqb b opens ≡ false
      → events_on dir at taken (b ∷ bs) ≡ event at (length taken + 1) Broken ∷ events_on dir (at + (length taken + 1)) [] bs
  unfolding events_told
  events_broken e f =
      let step = taken_end dir taken b some full in
      events_byte dir at taken b bs (answer.Broken (length taken + 1)) [] (step.0 ∙ rw (e, f)) (step.1 ∙ rw f)

-- the first event of bytes is E, and the others are those of the bytes behind it
unfoldable pub Leads : Direction → ℕ → List ℕ → Event → Type 0
Leads dir at bs e = events_on dir at [] bs ≡ e ∷ events_on dir (at + e.length) [] (drop e.length bs)

-- the stretch at the head of bytes, over the place of the frame's end
abbrev stretch_to : ℕ → List ℕ → ℕ → Event
stretch_to end bs at =
    cond (eqb (get_or bs 0 0) opens)
    (cond (leb (length bs) end)
    (event at (length bs) Pending)
    (cond (eqb (get_or bs end 0) ends)
    (event at (end + 1) Frame)
    (cond (eqb (get_or bs end 0) opens) (event at end Broken) (event at (end + 1) Broken))))
    (event at 1 Noise)

module _ (dir : Direction) (at b : ℕ) (rest : List ℕ) (m : ℕ) (end : header dir + dl dir (b ∷ rest) ≡ suc m) where
  -- the bytes before the end place
  abbrev filled : List ℕ
  filled = b ∷ take m rest

  module _ (long : m < length rest) where
    filled_long : length filled ≡ suc m
    filled_long = ap suc (length-take-le m rest (omega arith))

    filled_dl : dl dir filled ≡ dl dir (b ∷ rest)
    filled_dl = get_or-take (suc m) (b ∷ rest) (header dir - 1) 0 (omega (arith, header_least dir))

    split : rest ≡ take m rest ++ (get_or rest m 0 ∷ drop (suc m) rest)
    split = sym (take-append-drop m rest) ∙ ap (λ (l : List ℕ). take m rest ++ l) (drop-cons rest m 0 long)

    to_end : eqb b opens ≡ true → events_on dir at [] (b ∷ rest) ≡ events_on dir at filled (get_or rest m 0 ∷ drop (suc m) rest)
    to_end e =
        events_open dir at b rest e
        ∙ ap (λ (l : List ℕ). events_on dir at (b ∷ []) l) split
        ∙ events_fill dir at (b ∷ []) (take m rest) (get_or rest m 0 ∷ drop (suc m) rest) (omega arith) (omega (arith, filled_long, filled_dl))

    at_end_lem : header dir + dl dir filled ≤ length filled
    at_end_lem = omega (arith, filled_long, filled_dl)

    -- an event with the end place in it, and what is behind it
    past : (k : Kind) → events_on dir at filled (get_or rest m 0 ∷ drop (suc m) rest)
        ≡ event at (length filled + 1) k ∷ events_on dir (at + (length filled + 1)) [] (drop (suc m) rest)
        → eqb b opens ≡ true → Leads dir at (b ∷ rest) (event at (suc m + 1) k)
    unfolding Leads
    past k t e =
        let behind : drop (suc m + 1) (b ∷ rest) ≡ drop (suc m) rest = rw (add-one (suc m)) in
        to_end e
        ∙ t
        ∙ ap (λ (n : ℕ). event at (n + 1) k ∷ events_on dir (at + (n + 1)) [] (drop (suc m) rest)) filled_long
        ∙ ap (λ (l : List ℕ). event at (suc m + 1) k ∷ events_on dir (at + (suc m + 1)) [] l) (sym behind)

    next : eqb b opens ≡ true → eqb (get_or rest m 0) opens ≡ true → Leads dir at (b ∷ rest) (event at (suc m) Broken)
    unfolding Leads
    next e h =
        to_end e
        ∙ events_next dir at filled (omega arith) at_end_lem (get_or rest m 0) (drop (suc m) rest) h
        ∙ ap (λ (n : ℕ). event at n Broken ∷ events_on dir (at + n) [] (get_or rest m 0 ∷ drop (suc m) rest)) filled_long
        ∙ ap (λ (l : List ℕ). event at (suc m) Broken ∷ events_on dir (at + suc m) [] l) (sym (drop-cons rest m 0 long))

  whole : eqb b opens ≡ true → suc (length rest) ≤ suc m → Leads dir at (b ∷ rest) (event at (suc (length rest)) Pending)
  unfolding Leads answers_by reader_by events_told
  whole e short = events_pending dir at b rest e (omega arith) ∙ rw (drop-length rest)

  noise : eqb b opens ≡ false → Leads dir at (b ∷ rest) (event at 1 Noise)
  unfolding Leads
  noise e = events_noise dir at b rest e

  leads : Leads dir at (b ∷ rest) (stretch_to (suc m) (b ∷ rest) at)
  leads =
      cases (Leads dir at (b ∷ rest)) (eqb b opens)
      (λ e. cases (Leads dir at (b ∷ rest)) (leb (suc (length rest)) (suc m))
      (λ f. whole e (leb-true _ _ f))
      (λ f.
      let long : m < length rest = omega (arith, leb-false (suc (length rest)) (suc m) f) in
      cases (Leads dir at (b ∷ rest)) (eqb (get_or rest m 0) ends)
      (λ g. past long Frame (events_frame dir at filled (omega arith) (at_end_lem long) (get_or rest m 0) (drop (suc m) rest) g) e)
      (λ g. cases (Leads dir at (b ∷ rest)) (eqb (get_or rest m 0) opens)
      (λ h. next long e h)
      (λ h. past long Broken (events_broken dir at filled (omega arith) (at_end_lem long) (get_or rest m 0) (drop (suc m) rest) g h) e))))
      (λ e. noise e)

module _ (dir : Direction) (capture : List ℕ) (at : ℕ) where
  pub events_end : length capture ≤ at → events_from dir capture at ≡ []
  unfolding events_from events_told answers_by reader_by
  events_end h = rw (drop_of_length-le capture {i = at} h)

  module _ (within : at < length capture) where
    stretch_here : stretch_at (header dir) capture at ≡ stretch_to (header dir + dl dir (drop at capture)) (drop at capture) at
    unfolding stretch_at
    stretch_here = simp (get_or-drop, length-drop, add-zero)

    leads_here : (m : ℕ) → header dir + dl dir (drop at capture) ≡ suc m → Leads dir at (drop at capture) (stretch_to (suc m) (drop at capture) at)
    leads_here =
        subst (λ (l : List ℕ). (m : ℕ) → header dir + dl dir l ≡ suc m → Leads dir at l (stretch_to (suc m) l at))
        (sym (drop-cons capture at 0 within))
        (λ m e. leads dir at (get_or capture at 0) (drop (suc at) capture) m e)

    -- the event at a place, and those behind it: what the jump gives is what the reader tells
    pub events_here : events_from dir capture at
        ≡ stretch_at (header dir) capture at ∷ events_from dir capture (at + (stretch_at (header dir) capture at).length)
    unfolding Leads events_from
    events_here =
        let n = header dir + dl dir (drop at capture) in
        let e : n ≡ suc (n - 1) = omega (arith, header_least dir) in
        let first = leads_here (n - 1) e in
        let there : stretch_at (header dir) capture at ≡ stretch_to (suc (n - 1)) (drop at capture) at = stretch_here ∙ ap (λ (k : ℕ). stretch_to k (drop at capture) at) e in
        first
        ∙ ap (λ (x : Event). x ∷ events_on dir (at + x.length) [] (drop x.length (drop at capture))) (sym there)
        ∙ ap (λ (l : List ℕ). stretch_at (header dir) capture at ∷ events_on dir (at + (stretch_at (header dir) capture at).length) [] l) (drop-drop _ at capture)

-- it starts at the place, has a byte or more, and ends within the capture
pub record Within (capture : List ℕ) (at : ℕ) (e : Event) : Type 0 where
  pub starts : e.at ≡ at
  pub some : 0 < e.length
  pub inside : at + e.length ≤ length capture

pub stretch_within : (head : ℕ) (capture : List ℕ) (at : ℕ) → 0 < head → at < length capture → Within capture at (stretch_at head capture at)
unfolding stretch_at
stretch_within head capture at h within =
    cases (Within capture at) (eqb (get_or capture at 0) opens)
    (λ e. cases (Within capture at) (leb left end)
    (λ e. record { starts = refl; some = omega arith; inside = omega arith })
    (λ f.
    let over : end < left = leb-false left end f in
    cases (Within capture at) (eqb (get_or capture (at + end) 0) ends)
    (λ e. record { starts = refl; some = omega arith; inside = omega arith })
    (λ e. cases (Within capture at) (eqb (get_or capture (at + end) 0) opens)
    (λ e. record { starts = refl; some = omega arith; inside = omega arith })
    (λ e. record { starts = refl; some = omega arith; inside = omega arith }))))
    (λ e. record { starts = refl; some = omega arith; inside = omega arith })
  where
    end : ℕ
    end = head + get_or capture (at + (head - 1)) 0

    left : ℕ
    left = length capture - at
