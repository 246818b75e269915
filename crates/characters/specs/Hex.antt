-- Document 01, 'Bench frames': "code and answer two hex digits".
use Rattle.std.specs.Prelude.{ℕ, ◌+◌, ◌-◌, ◌*◌, ◌/◌, ◌%◌, cond, List, [], ◌∷◌, ltb, None, Option, Some}
use Rattle.characters.specs.Class.{is_from, is_digit}

-- the digit of a value below 16; 41 hex is the letter A
abbrev pub hex_digit : ℕ → ℕ
hex_digit d = cond (ltb d 10) (0x30 + d) (0x41 + (d - 10))

-- "two hex digits"
abbrev pub hex_byte : ℕ → List ℕ
hex_byte b = hex_digit (b / 16) ∷ hex_digit (b % 16) ∷ []

-- what a character counts as a hex digit
unfoldable pub hex_value : ℕ → Option ℕ
hex_value b = cond (is_digit b) (Some (b - 0x30)) (cond (is_from 0x41 0x46 b) (Some (b - 0x41 + 10)) None)

abbrev pub hex_count : Option ℕ → ℕ
hex_count (Some d) = d
hex_count None = 0

-- two digits read back: sixteen times the first's value and the second's
abbrev pub hex_read : ℕ → ℕ → ℕ
hex_read first second = hex_count (hex_value first) * 16 + hex_count (hex_value second)
