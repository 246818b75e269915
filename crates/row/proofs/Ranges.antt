-- What the tests on a signed number say of its code.
use mathlib.Core.Path.{◌≡◌}
use mathlib.Core.Bool.{true, false}
use Prim.Native.Nat.{suc, ◌+◌, ◌≤◌}
use native.Mathlib.Omega.{arith}
use lib.IntN.{ℤ, pos, negsuc, nat_abs}
use lib.Signed.{lt_z}
use borrow.Author.Tests.{ltb-true, ltb-false, le-leb}
use Rattle.row.specs.Signed.{code_of}
use Rattle.std.specs.Prelude.{Some}

-- below zero: the code is 80 and the number's distance from zero
pub minus : (z : ℤ) → lt_z z (negsuc 0x7E) ≡ false → lt_z z (pos 0) ≡ true → Some (0x80 + nat_abs z) ≡ code_of z
unfolding code_of
minus (pos n) least e = absurd (omega (arith, ltb-true n 0 e))
minus (negsuc n) least e =
    let h : n ≤ 0x7E = ltb-false 0x7E n least in
    rw (le-leb (suc n) 0x7F (omega arith))
