-- A signed number without its sign, and its text.
use mathlib.Core.Path.{◌≡◌, refl}
use mathlib.Core.Bool.{true, false}
use mathlib.Core.List.{◌++◌}
use native.Mathlib.Omega.{arith}
use lib.Dec.{T}
use lib.IntN.{ℤ, pos, negsuc, nat_abs, ◌-ℤ◌}
use lib.Signed.{lt_z, non_neg}
use mir.Syntax.{w32, w64}
use mir.Val.{Fits, SFits}
use mir.Facts.{sfits_widen}
use borrow.Author.Tests.{ltb-true}
use Rattle.characters.specs.Letters.{letters}
use Rattle.characters.specs.Decimal.{decimal, integer}

pub wide : (z : ℤ) → SFits w32 z → SFits w64 z
wide z fits = sfits_widen tt fits

-- `k` is the size of `z`, in four bytes
pub record Sized (z k : ℤ) : Type 0 where
  pub fits : SFits w64 k
  pub half : T (non_neg k) × Fits w32 (nat_abs k)
  pub size : nat_abs k ≡ nat_abs z

pub turned : (z : ℤ) → SFits w32 z → lt_z z (pos 0) ≡ true → Sized z (pos 0 -ℤ z)
turned (pos n) fits e = absurd (omega (arith, ltb-true n 0 e))
turned (negsuc n) fits e =
    let h = fits.sfits in
    record { fits = record { sfits = omega arith }; half = (tt, record { fits = omega arith }); size = omega arith }

pub itself : (z : ℤ) → SFits w32 z → lt_z z (pos 0) ≡ false → T (non_neg z) × Fits w32 (nat_abs z)
itself (pos n) fits e =
    let h = fits.sfits in
    (tt, record { fits = omega arith })
itself (negsuc n) fits e = cc

pub minus_text : (z : ℤ) → lt_z z (pos 0) ≡ true → letters "-" ++ decimal (nat_abs z) ≡ integer z
minus_text (pos n) e = absurd (omega (arith, ltb-true n 0 e))
minus_text (negsuc n) e = refl

pub plain_text : (z : ℤ) → lt_z z (pos 0) ≡ false → decimal (nat_abs z) ≡ integer z
plain_text (pos n) e = refl
plain_text (negsuc n) e = cc
