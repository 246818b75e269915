-- The code of a row's number, and the number of a row's code.
use mathlib.Core.Path.{◌≡◌, refl}
use mathlib.Core.Bool.{Bool, true, false, cond}
use Prim.Native.Nat.{ℕ, ◌<◌}
use native.Mathlib.Omega.{arith}
use borrow.Author.Tests.{le-leb}
use lib.Dec.{leb}
use lib.IntN.{ℤ, pos, negsuc}
use Rattle.row.specs.MinusZero.{normal}
use Rattle.row.specs.Signed.{number_of, code_of, plain_code_of}
use Rattle.row.specs.declared.table.Row.{Row}
use Rattle.row.proofs.Inverse.{signed_promise}
use Rattle.row.proofs.Turned.{minus_zero_promise}
use Rattle.std.specs.Prelude.{None, Option, Some}

-- by the row's mark
abbrev pub code_by : Bool → ℤ → Option ℕ
code_by signed z = cond signed (code_of z) (plain_code_of z)

abbrev pub number_by : Bool → ℕ → ℤ
number_by signed b = cond signed (number_of b) (pos b)

-- but for minus zero a number's code is the code that it was
pub number_coded : (row : Row) (b : ℕ) → b < 256 → code_by row.signed (number_by row.signed b) ≡ Some (normal row b)
unfolding plain_code_of
number_coded row b h = go row.signed refl
  where
    go : (t : Bool) → row.signed ≡ t → code_by t (number_by t b) ≡ Some (normal row b)
    go true e = minus_zero_promise.written row b e h
    go false e = rw (le-leb b 0xFF (omega arith), minus_zero_promise.unsigned row b e)

pub coded_number : (signed : Bool) (z : ℤ) (c : ℕ) → code_by signed z ≡ Some c → number_by signed c ≡ z
unfolding plain_code_of
coded_number true z c e = signed_promise.number_of_code z c e
coded_number false (pos n) c e = go (leb n 0xFF) e
  where
    go : (t : Bool) → cond t (Some n) None ≡ Some c → pos c ≡ pos n
    go true f = cc
    go false f = cc
coded_number false (negsuc n) c e = cc
