-- A part of a stream: what one byte adds to it, and the whole.
use mathlib.Core.Path.{◌≡◌, ◌∙◌}
use mathlib.Core.List.{List, [], ◌∷◌}
use Prim.Native.Nat.{ℕ, ◌+◌, ◌≤◌, ◌<◌}
use native.Mathlib.Nat.{add-zero, add_assoc}
use native.Mathlib.Numerals.{add-one}
use native.Mathlib.Omega.{arith}
use borrow.Author.Tests.{ltb-false}
use lib.Dec.{eqb, ltb}
use lib.ListN.{length, drop, get_or, length-replicate, drop_of_length-le}
use lib.Seq.{drop-cons}
use Rattle.frame.specs.Frame.{header, opens, ends}
use Rattle.frame.specs.KeptReader.{fed_at, fed_of, answers_of, reader_after}
use Rattle.frame.specs.Capture.{count, settles, settled}
use Rattle.frame.specs.Computed.{with_fed}
use Rattle.frame.specs.declared.direction.Direction.{Direction}
use Rattle.frame.specs.declared.reader.ByteAnswer.TheVariants as answer
use Rattle.frame.specs.declared.reader.Reader.{Reader}
use Rattle.frame.specs.declared.reader.Fed.{Fed}
use Rattle.frame.specs.declared.part.Part.{Part}
use Rattle.frame.specs.declared.capture.Kind.TheVariants.{Frame, Broken, Noise}
use Rattle.frame.proofs.Cases.{cases}
use Rattle.frame.proofs.Labels.{count_append, count_all}
use Rattle.streams.specs.Stream.{answers_by, reader_by}
use Rattle.lists.specs.InOrder.{in_order}

-- a byte settles no more bytes than were taken, itself among them
unfoldable Settles : ℕ → Fed → Type 0
Settles place f = length (settles f.answer) + f.reader.place ≤ place + 1

settles_taken : (dir : Direction) (head place count b : ℕ) → Settles place (fed_at dir head place count b)
unfolding fed_at Settles
settles_taken dir head place count b =
    cases (Settles place) (eqb place 0)
    (λ e. cases (Settles place) (eqb b opens) (λ e. omega arith) (λ e. omega arith))
    (λ e. cases (Settles place) (ltb place head)
    (λ e. cases (Settles place) (eqb (place + 1) head) (λ e. omega arith) (λ e. omega arith))
    (λ e. cases (Settles place) (ltb place (head + count))
    (λ e. omega arith)
    (λ past.
    let end : head + count ≤ place = ltb-false _ _ past in
    cases (Settles place) (eqb b ends)
    (λ e. omega (arith, length-replicate (head + count + 1) Frame))
    (λ e. cases (Settles place) (eqb b opens)
    (λ e. omega (arith, length-replicate (head + count) Broken))
    (λ e. omega (arith, length-replicate (head + count + 1) Broken))))))

pub settles_most : (r : Reader) (b : ℕ) → length (settles (fed_of r b).answer) + (fed_of r b).reader.place ≤ r.place + 1
unfolding Settles
settles_most r b = settles_taken r.direction (header r.direction) r.place r.dl b

-- so the length that a frame or a broken stretch comes with is no longer either
pub frame_most : (r : Reader) (b n : ℕ) → (fed_of r b).answer ≡ answer.Frame n → n ≤ r.place + 1
frame_most r b n e = omega (arith, rw e at (settles_most r b), length-replicate n Frame)

pub broken_most : (r : Reader) (b n : ℕ) → (fed_of r b).answer ≡ answer.Broken n → n ≤ r.place + 1
broken_most r b n e = omega (arith, rw e at (settles_most r b), length-replicate n Broken)

-- a part with more bytes, one by one
unfoldable pub part_from : Part → List ℕ → Part
part_from p [] = p
part_from p (b ∷ bs) = part_from (with_fed p (fed_of p.reader b)) bs

pub part_more : (p : Part) (xs : List ℕ) (i : ℕ) → i < length xs
    → part_from p (drop i xs) ≡ part_from (with_fed p (fed_of p.reader (get_or xs i 0))) (drop (i + 1) xs)
unfolding part_from
part_more p xs i h = rw (add-one, drop-cons xs i 0)

pub part_end : (p : Part) (xs : List ℕ) (i : ℕ) → length xs ≤ i → part_from p (drop i xs) ≡ p
unfolding part_from
part_end p xs i h = rw drop_of_length-le

-- what they add to the counts
pub part_adds : (p : Part) (bs : List ℕ) → part_from p bs ≡ record {
  reader = reader_after p.reader bs;
  frame = p.frame + count Frame (settled (answers_of p.reader bs));
  broken = p.broken + count Broken (settled (answers_of p.reader bs));
  noise = p.noise + count Noise (settled (answers_of p.reader bs));
}
unfolding part_from reader_by answers_by in_order count
part_adds p [] = simp add-zero
part_adds p (b ∷ bs) = part_adds (with_fed p (fed_of p.reader b)) bs ∙ simp (count_append, add_assoc)

-- what a part holds: the bytes that are settled, and those that are taken
abbrev pub held : Part → ℕ
held p = p.frame + p.broken + p.noise + p.reader.place

pub held_more : (p : Part) (b : ℕ) → held (with_fed p (fed_of p.reader b)) ≤ held p + 1
held_more p b = omega (arith, settles_most p.reader b, count_all (settles (fed_of p.reader b).answer))
