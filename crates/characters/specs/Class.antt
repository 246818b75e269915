-- Classes of characters, each by its first and its last.
use Rattle.std.specs.Prelude.{ℕ, Bool, ◌&&◌, ◌||◌, leb}

unfoldable pub is_from : ℕ → ℕ → ℕ → Bool
is_from first last b = leb first b && leb b last

-- A to Z
abbrev pub is_capital : ℕ → Bool
is_capital b = is_from 0x41 0x5A b

-- 0 to 9
abbrev pub is_digit : ℕ → Bool
is_digit b = is_from 0x30 0x39 b

-- 0 to 9 and A to F: "two hex digits", which are capitals in each of the document's examples
abbrev pub is_hex_digit : ℕ → Bool
is_hex_digit b = is_digit b || is_from 0x41 0x46 b
