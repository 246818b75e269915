-- Codes and the signed numbers they mean.
use Rattle.std.specs.Prelude.{ℤ, pos, negsuc, neg_ℤ, ℕ, suc, ◌+◌, ◌-◌, cond, ltb, leb, None, Option, Some}

-- "Codes 00 to 7F mean themselves and 81 to FF mean minus (code less 80 hex)"; 80 is then minus 0, which is 0.
unfoldable pub number_of : ℕ → ℤ
number_of code = cond (ltb code 0x80) (pos code) (neg_ℤ (pos (code - 0x80)))

-- The same sentence read back, with no code below -127 or above 127: 0 to 7F hex are their own codes, and minus `suc n`, which is `negsuc n`, has the code 80 hex more than `suc n`.
unfoldable pub code_of : ℤ → Option ℕ
code_of (pos n) = cond (leb n 0x7F) (Some n) None
code_of (negsuc n) = cond (leb (suc n) 0x7F) (Some (0x80 + suc n)) None

-- In the other rows a code means itself: the numbers 0 to FF have codes.
unfoldable pub plain_code_of : ℤ → Option ℕ
plain_code_of (pos n) = cond (leb n 0xFF) (Some n) None
plain_code_of (negsuc n) = None
