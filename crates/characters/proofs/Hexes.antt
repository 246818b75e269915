-- Hex digits and their values.
use mathlib.Core.Path.{◌≡◌, refl, sym, ap, ◌∙◌}
use mathlib.Core.Bool.{Bool, true, false, cond, ◌||◌}
use Prim.Native.Nat.{ℕ, ◌+◌, ◌-◌, ◌/◌, ◌%◌, ◌≤◌, ◌<◌}
use native.Mathlib.Omega.{arith}
use borrow.Author.Tests.{lt-ltb, le-ltb, ltb-true, ltb-false}
use lib.Dec.{ltb}
use Rattle.characters.specs.Class.{is_from, is_digit, is_hex_digit}
use Rattle.characters.specs.Hex.{hex_value, hex_digit, hex_count, hex_read}
use Rattle.characters.specs.HexPromise.{HexPromise}
use Rattle.characters.proofs.Classes.{within, above, bounds}
use Rattle.std.specs.Prelude.{None, Some}

module _ (b : ℕ) where
  pub value_digit : is_digit b ≡ true → hex_value b ≡ Some (b - 0x30)
  unfolding hex_value
  value_digit e = rw e

  pub value_letter : is_digit b ≡ false → is_from 0x41 0x46 b ≡ true → hex_value b ≡ Some (b - 0x41 + 10)
  unfolding hex_value
  value_letter e f = rw (e, f)

  pub value_none : is_digit b ≡ false → is_from 0x41 0x46 b ≡ false → hex_value b ≡ None
  unfolding hex_value
  value_none e f = rw (e, f)

value : (d : ℕ) → d < 16 → hex_value (hex_digit d) ≡ Some d
value d h = go (ltb d 10) refl
  where
    go : (t : Bool) → ltb d 10 ≡ t → hex_value (cond t (0x30 + d) (0x41 + (d - 10))) ≡ Some d
    go true e =
        let low : d < 10 = ltb-true d 10 e in
        let back : 0x30 + d - 0x30 ≡ d = omega arith in
        value_digit (0x30 + d) (within 0x30 0x39 (0x30 + d) (omega arith) (omega arith)) ∙ ap Some back
    go false e =
        let high : 10 ≤ d = ltb-false d 10 e in
        let back : 0x41 + (d - 10) - 0x41 + 10 ≡ d = omega arith in
        value_letter (0x41 + (d - 10)) (above 0x30 0x39 (0x41 + (d - 10)) (omega arith)) (within 0x41 0x46 (0x41 + (d - 10)) (omega arith) (omega arith))
        ∙ ap Some back

digit : (b d : ℕ) → hex_value b ≡ Some d → (d < 16) × (hex_digit d ≡ b)
digit b d e = go (is_digit b) (is_from 0x41 0x46 b) refl refl
  where
    go : (s t : Bool) → is_digit b ≡ s → is_from 0x41 0x46 b ≡ t → (d < 16) × (hex_digit d ≡ b)
    go true t f g =
        let is : d ≡ b - 0x30 = ap hex_count (sym e ∙ value_digit b f) in
        let in_range = bounds 0x30 0x39 b f in
        let low : d < 10 = omega (arith, is, in_range.0, in_range.1) in
        (omega arith, rw (lt-ltb d 10 low) (omega (arith, is, in_range.0)))
    go false true f g =
        let is : d ≡ b - 0x41 + 10 = ap hex_count (sym e ∙ value_letter b f g) in
        let in_range = bounds 0x41 0x46 b g in
        let high : 10 ≤ d = omega (arith, is) in
        (omega (arith, is, in_range.0, in_range.1), rw (le-ltb d 10 high) (omega (arith, is, in_range.0)))
    go false false f g =
        let same : None ≡ Some d = sym (value_none b f g) ∙ e in
        cc

some : (b : ℕ) → is_hex_digit b ≡ true → (d : ℕ) × (hex_value b ≡ Some d)
some b e = go (is_digit b) (is_from 0x41 0x46 b) refl refl e
  where
    go : (s t : Bool) → is_digit b ≡ s → is_from 0x41 0x46 b ≡ t → s || t ≡ true → (d : ℕ) × (hex_value b ≡ Some d)
    go true t f g h = (b - 0x30, value_digit b f)
    go false true f g h = (b - 0x41 + 10, value_letter b f g)
    go false false f g h = cc

none : (b : ℕ) → is_hex_digit b ≡ false → hex_value b ≡ None
none b e = go (is_digit b) (is_from 0x41 0x46 b) refl refl e
  where
    go : (s t : Bool) → is_digit b ≡ s → is_from 0x41 0x46 b ≡ t → s || t ≡ false → hex_value b ≡ None
    go true t f g h = cc
    go false true f g h = cc
    go false false f g h = value_none b f g

byte : (b : ℕ) → b < 256 → hex_read (hex_digit (b / 16)) (hex_digit (b % 16)) ≡ b
byte b h =
    let high : hex_count (hex_value (hex_digit (b / 16))) ≡ b / 16 = ap hex_count (value (b / 16) (omega arith)) in
    let low : hex_count (hex_value (hex_digit (b % 16))) ≡ b % 16 = ap hex_count (value (b % 16) (omega arith)) in
    omega (arith, high, low)

pub hex_promise : HexPromise
hex_promise = record {
  value = value;
  digit = digit;
  some = some;
  none = none;
  small = λ b low high. value_none b (above 0x30 0x39 b (omega arith)) (above 0x41 0x46 b (omega arith));
  byte = byte;
}
