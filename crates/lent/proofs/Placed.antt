-- Bytes at a place of a buffer that has room for them: there they stand, and every other byte is as it was.
use mathlib.Core.Path.{◌≡◌, ap, sym, ◌∙◌}
use mathlib.Core.List.{List, ◌++◌, append_assoc}
use Prim.Native.Nat.{ℕ, ◌+◌, ◌≤◌}
use native.Mathlib.Omega.{arith}
use lib.ListN.{length, take, drop, length-append, length-drop}
use lib.Seq.{length-take-le, take_at, drop_at, take-append_seam, drop-append_seam, drop-drop}
use Rattle.lent.specs.Placed.{placed}

module _ (buf : List ℕ) (at : ℕ) (bytes : List ℕ) (room : at + length bytes ≤ length buf) where
  before_place : length (take at buf) ≡ at
  before_place = length-take-le at buf (omega arith)

  pub placed_length : length (placed buf at bytes) ≡ length buf
  placed_length = simp (length-append, before_place, length-drop) (omega arith)

  pub placed_there : take (length bytes) (drop at (placed buf at bytes)) ≡ bytes
  placed_there = rw (drop_at (take at buf) _ at before_place, take-append_seam)

  pub placed_before : take at (placed buf at bytes) ≡ take at buf
  placed_before = take_at (take at buf) _ at before_place

  pub placed_after : drop (at + length bytes) (placed buf at bytes) ≡ drop (at + length bytes) buf
  placed_after = rw (← drop-drop (length bytes) at (placed buf at bytes), drop_at (take at buf) _ at before_place, drop-append_seam)

-- bytes placed right behind those placed first: both are placed as one
module _ (buf : List ℕ) (at : ℕ) (first second : List ℕ) (within : at ≤ length buf) where
  head : length (take at buf ++ first) ≡ at + length first
  head = length-append (take at buf) first ∙ ap (λ (k : ℕ). k + length first) (length-take-le at buf within)

  abbrev rest : List ℕ
  rest = drop (at + length first) buf

  abbrev once : List ℕ
  once = placed buf at first

  seam : once ≡ (take at buf ++ first) ++ rest
  seam = sym (append_assoc (take at buf) first rest)

  before : take (at + length first) once ≡ take at buf ++ first
  before = ap (λ (xs : List ℕ). take (at + length first) xs) seam ∙ take_at (take at buf ++ first) rest (at + length first) head

  after : drop (at + length first + length second) once ≡ drop (at + length (first ++ second)) buf
  after =
      let long : at + length first + length second ≡ at + length (first ++ second) = omega (arith, length-append first second) in
      sym (drop-drop (length second) (at + length first) once)
      ∙ ap (λ (xs : List ℕ). drop (length second) xs)
      (ap (λ (xs : List ℕ). drop (at + length first) xs) seam ∙ drop_at (take at buf ++ first) rest (at + length first) head)
      ∙ drop-drop (length second) (at + length first) buf ∙ ap (λ (k : ℕ). drop k buf) long

  pub placed_both : placed once (at + length first) second ≡ placed buf at (first ++ second)
  placed_both =
      ap (λ (xs : List ℕ). xs ++ (second ++ drop (at + length first + length second) once)) before
      ∙ ap (λ (xs : List ℕ). (take at buf ++ first) ++ (second ++ xs)) after
      ∙ append_assoc (take at buf) first (second ++ drop (at + length (first ++ second)) buf)
      ∙ ap (λ (xs : List ℕ). take at buf ++ xs) (sym (append_assoc first second (drop (at + length (first ++ second)) buf)))
