-- Promise: a number's decimal text has only digits, begins with 0 for 0 alone, and reads back as the number. When it is refused and what
-- it leaves is lent's `WritePromise`, as of any bytes: proofs/Written.antt says so of each kind of text.
use Rattle.std.specs.Prelude.{◌≡◌, true, [], ◌∷◌, ℕ, ◌<◌, length, get_or}
use Rattle.lists.specs.Each.{Each}
use Rattle.characters.specs.Class.{is_digit}
use Rattle.characters.specs.Decimal.{decimal, decimal_read}

pub record DecimalPromise : Type 0 where
  pub digits : (n : ℕ) → Each (λ (d : ℕ). is_digit d ≡ true) (decimal n)
  pub some : (n : ℕ) → 0 < length (decimal n)
  -- no leading zero, but for 0 itself
  pub zero : decimal 0 ≡ 0x30 ∷ []
  pub leads : (n : ℕ) → 0 < n → get_or (decimal n) 0 0 ≡ 0x30 → ⊥
  pub reads : (n : ℕ) → decimal_read (decimal n) ≡ n
