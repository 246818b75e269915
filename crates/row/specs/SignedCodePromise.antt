-- Promise: a code other than 80 is the code of its number, a number with a code is that code's number, every such code is a byte, and 00, 80 and both ends are exact.
use Rattle.std.specs.Prelude.{◌≡◌, [], ◌∷◌, map, ℕ, ◌<◌, ℤ, pos, neg_ℤ, None, Some}
use Rattle.row.specs.Signed.{number_of, code_of}

pub record SignedCodePromise : Type 0 where
  pub code_number : (c : ℕ) → c < 0x100 → (c ≡ 0x80 → ⊥) → code_of (number_of c) ≡ Some c
  pub number_of_code : (z : ℤ) (c : ℕ) → code_of z ≡ Some c → number_of c ≡ z
  pub code_byte : (z : ℤ) (c : ℕ) → code_of z ≡ Some c → c < 0x100
  pub exact :
      (map number_of (0x00 ∷ 0x01 ∷ 0x7F ∷ 0x80 ∷ 0x81 ∷ 0x8A ∷ 0xFF ∷ []) ≡ pos 0 ∷ pos 1 ∷ pos 127 ∷ pos 0 ∷ neg_ℤ (pos 1) ∷ neg_ℤ (pos 10) ∷ neg_ℤ (pos 127) ∷ [])
      × (map code_of (pos 0 ∷ pos 127 ∷ neg_ℤ (pos 1) ∷ neg_ℤ (pos 127) ∷ pos 128 ∷ neg_ℤ (pos 128) ∷ pos 300 ∷ []) ≡ Some 0x00 ∷ Some 0x7F ∷ Some 0x81 ∷ Some 0xFF ∷ None ∷ None ∷ None ∷ [])
