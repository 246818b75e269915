-- Promise: the hex digits and their values undo each other, the letters are capitals alone, and a byte's two digits read back as the byte.
use Rattle.std.specs.Prelude.{◌≡◌, true, false, ℕ, ◌/◌, ◌%◌, ◌≤◌, ◌<◌, None, Some}
use Rattle.characters.specs.Class.{is_hex_digit}
use Rattle.characters.specs.Hex.{hex_value, hex_digit, hex_read}

pub record HexPromise : Type 0 where
  -- each undoes the other
  pub value : (d : ℕ) → d < 16 → hex_value (hex_digit d) ≡ Some d
  pub digit : (b d : ℕ) → hex_value b ≡ Some d → (d < 16) × (hex_digit d ≡ b)
  -- the hex digits have a value, and no other character has one
  pub some : (b : ℕ) → is_hex_digit b ≡ true → (d : ℕ) × (hex_value b ≡ Some d)
  pub none : (b : ℕ) → is_hex_digit b ≡ false → hex_value b ≡ None
  -- small letters are none
  pub small : (b : ℕ) → 0x61 ≤ b → b ≤ 0x66 → hex_value b ≡ None
  -- a byte is read back from its two digits
  pub byte : (b : ℕ) → b < 256 → hex_read (hex_digit (b / 16)) (hex_digit (b % 16)) ≡ b
