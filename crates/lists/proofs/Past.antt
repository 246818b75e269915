-- What the last arm of a match on a number knows.
use mathlib.Core.Path.{◌≡◌}
use Prim.Native.Nat.{ℕ, zero, suc, ◌≤◌}
use native.Mathlib.Omega.{arith}

-- what is known before, and that a number is none of those below another
abbrev pub Past : Type 0 → ℕ → ℕ → Type 0
Past known zero p = known
Past known (suc n) p = Past known n p × (p ≡ n → ⊥)

pub past_all : (known : Type 0) (n p : ℕ) → Past known n p → n ≤ p
past_all known zero p r = omega arith
past_all known (suc n) p r = omega (arith, past_all known n p r.0, r.1)
