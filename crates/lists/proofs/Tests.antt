-- What tests joined say of each, and a test over all numbers below one, computed at once.
use mathlib.Core.Path.{◌≡◌, refl, sym, subst}
use mathlib.Core.Bool.{Bool, true, false, ◌&&◌, ◌||◌}
use Prim.Native.Nat.{ℕ, zero, suc, ◌<◌}
use native.Mathlib.Omega.{arith}
use borrow.Author.Tests.{eqb-true, eqb-false}
use lib.Dec.{eqb}

pub both : (s t : Bool) → s && t ≡ true → (s ≡ true) × (t ≡ true)
both true t e = (refl, e)
both false t e = (e, cc)

pub former : (s t : Bool) → s || t ≡ true → t ≡ false → s ≡ true
former true t e f = refl
former false t e f = cc

-- what holds of `k`, and of `b` where it is not `k`, holds of `b`
pub by_value : (P : ℕ → Type 0) (b k : ℕ) → P k → (eqb b k ≡ false → P b) → P b
by_value P b k p q = go (eqb b k) refl
  where
    go : (t : Bool) → eqb b k ≡ t → P b
    go true e = subst P (sym (eqb-true b k e)) p
    go false e = q e

-- does a test hold of all numbers below one
unfoldable pub upto : ℕ → (ℕ → Bool) → Bool
upto zero test = true
upto (suc n) test = test n && upto n test

pub upto_at : (n : ℕ) (test : ℕ → Bool) → upto n test ≡ true → (b : ℕ) → b < n → test b ≡ true
unfolding upto
upto_at zero test e b h = absurd (omega arith)
upto_at (suc n) test e b h =
    let (last, rest) = both (test n) (upto n test) e in
    by_value (λ (k : ℕ). test k ≡ true) b n last (λ f. upto_at n test rest b (omega (arith, eqb-false b n f)))
