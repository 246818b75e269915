-- `signed-promise`: the definitions of `specs/Signed.antt` are inverse to each other.
use mathlib.Core.Path.{◌≡◌, refl, ap}
use mathlib.Core.Bool.{Bool, true, false, cond}
use Prim.Native.Nat.{ℕ, zero, suc, ◌+◌, ◌-◌, ◌≤◌, ◌<◌}
use native.Mathlib.Omega.{arith}
use lib.Dec.{leb, ltb}
use lib.IntN.{ℤ, pos, negsuc, neg_ℤ}
use borrow.Author.Tests.{ltb-true, ltb-false, leb-true, lt-ltb, le-ltb, le-leb}
use Rattle.row.specs.Signed.{number_of, code_of}
use Rattle.row.specs.SignedCodePromise.{SignedCodePromise}
use Rattle.std.specs.Prelude.{None, Some}

code_number : (c : ℕ) → c < 0x100 → (c ≡ 0x80 → ⊥) → code_of (number_of c) ≡ Some c
unfolding number_of code_of
code_number c h other = go (ltb c 0x80) refl where
  minus : (n : ℕ) → c - 0x80 ≡ n → 0x80 ≤ c → code_of (neg_ℤ (pos n)) ≡ Some c
  minus zero e k = absurd (other (omega arith))
  minus (suc n) e k = rw (le-leb (suc n) 0x7F (omega arith)) (ap Some (omega arith))

  go : (t : Bool) → ltb c 0x80 ≡ t → code_of (cond t (pos c) (neg_ℤ (pos (c - 0x80)))) ≡ Some c
  go true e = rw (le-leb c 0x7F (omega (arith, ltb-true c 0x80 e)))
  go false e = minus (c - 0x80) refl (ltb-false c 0x80 e)

-- where a test gives the code `a` or none, a code is `a` and the test held
told : (n b a c : ℕ) → cond (leb n b) (Some a) None ≡ Some c → (n ≤ b) × (a ≡ c)
told n b a c h = go (leb n b) refl h where
  go : (t : Bool) → leb n b ≡ t → cond t (Some a) None ≡ Some c → (n ≤ b) × (a ≡ c)
  go true e h = (leb-true n b e, cc)
  go false e h = cc

number_of_code : (z : ℤ) (c : ℕ) → code_of z ≡ Some c → number_of c ≡ z
unfolding number_of code_of
number_of_code (pos n) c h =
    let (k, e) = told n 0x7F n c h in
    rw (← e, lt-ltb n 0x80 (omega arith))
number_of_code (negsuc n) c h =
    let (k, e) = told (suc n) 0x7F (0x80 + suc n) c h in
    let less : c - 0x80 ≡ suc n = omega arith in
    rw (le-ltb c 0x80 (omega arith), less)

code_byte : (z : ℤ) (c : ℕ) → code_of z ≡ Some c → c < 0x100
unfolding code_of
code_byte (pos n) c h = omega (arith, told n 0x7F n c h)
code_byte (negsuc n) c h = omega (arith, told (suc n) 0x7F (0x80 + suc n) c h)

pub signed_promise : SignedCodePromise
unfolding number_of code_of
signed_promise = record { code_number = code_number; number_of_code = number_of_code; code_byte = code_byte; exact = (refl, refl) }
