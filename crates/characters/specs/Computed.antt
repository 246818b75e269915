-- What the private functions compute, here and in `decimal`. Nothing here need be believed: proofs/ ties each form to the definitions.
use Rattle.std.specs.Prelude.{ℕ, zero, suc, ◌/◌, ◌%◌, List, [], ◌∷◌, ◌++◌}
use Rattle.characters.specs.Decimal.{digit}

-- the last digits of a number, the most significant first
unfoldable pub last_digits : ℕ → ℕ → List ℕ
last_digits zero n = []
last_digits (suc k) n = last_digits k (n / 10) ++ digit (n % 10) ∷ []
