-- The contract of each public function that these definitions are for, here or in the crate of its code, admits one answer: its result, and the lent bytes after it where it has any.
use mathlib.Core.Path.{◌≡◌}
use mathlib.Core.List.{List, []}
use Prim.Native.Nat.{ℕ, ◌%◌}
use lib.IntN.{ℤ}
use Rattle.refusals.specs.OneAnswer.{OneAnswer}
use Rattle.refusals.proofs.One.{one, one_lent}
use Rattle.lent.specs.Written.{write_answered, write_left}
use Rattle.characters.specs.Class.{is_capital, is_digit}
use Rattle.characters.specs.Decimal.{decimal, integer}
use Rattle.characters.specs.Hex.{hex_value, hex_digit, hex_byte}
use Rattle.std.specs.Prelude.{Result}
use Rattle.refusals.specs.declared.refusal.Refusal.{Refusal}

pub is_capital_one : (byte : ℕ) → OneAnswer (λ x. x ≡ is_capital byte)
is_capital_one byte = one (is_capital byte)

pub is_digit_one : (byte : ℕ) → OneAnswer (λ x. x ≡ is_digit byte)
is_digit_one byte = one (is_digit byte)

pub hex_value_one : (byte : ℕ) → OneAnswer (λ x. x ≡ hex_value byte)
hex_value_one byte = one (hex_value byte)

pub hex_digit_one : (value : ℕ) → OneAnswer (λ x. x ≡ hex_digit (value % 16))
hex_digit_one value = one (hex_digit (value % 16))

pub hex_byte_one : (byte : ℕ) → OneAnswer (λ x. x ≡ hex_byte byte)
hex_byte_one byte = one (hex_byte byte)

pub write_hex_one : (buf : List ℕ) (at byte : ℕ)
    → OneAnswer (λ (x : Result ℕ Refusal × List ℕ). (x.0 ≡ write_answered [] buf at (hex_byte byte)) × (x.1 ≡ write_left [] buf at (hex_byte byte)))
write_hex_one buf at byte = one_lent (write_answered [] buf at (hex_byte byte)) (write_left [] buf at (hex_byte byte))

pub write_decimal_one : (buf : List ℕ) (at number : ℕ)
    → OneAnswer (λ (x : Result ℕ Refusal × List ℕ). (x.0 ≡ write_answered [] buf at (decimal number)) × (x.1 ≡ write_left [] buf at (decimal number)))
write_decimal_one buf at number = one_lent (write_answered [] buf at (decimal number)) (write_left [] buf at (decimal number))

pub write_integer_one : (buf : List ℕ) (at : ℕ) (number : ℤ)
    → OneAnswer (λ (x : Result ℕ Refusal × List ℕ). (x.0 ≡ write_answered [] buf at (integer number)) × (x.1 ≡ write_left [] buf at (integer number)))
write_integer_one buf at number = one_lent (write_answered [] buf at (integer number)) (write_left [] buf at (integer number))
