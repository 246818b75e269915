-- Counting labels.
use mathlib.Core.Path.{◌≡◌, refl}
use mathlib.Core.Bool.{true, false, cond}
use mathlib.Core.List.{List, [], ◌∷◌, ◌++◌}
use Prim.Native.Nat.{ℕ, zero, suc, ◌+◌}
use native.Mathlib.Omega.{arith}
use lib.Dec.{eqb}
use lib.ListN.{length, replicate}
use Rattle.frame.specs.Capture.{count, kind_number}
use Rattle.frame.specs.declared.capture.Kind.{Kind}
use Rattle.frame.specs.declared.capture.Kind.TheVariants.{Frame, Broken, Noise, Pending}

pub count_append : (k : Kind) (ls ms : List Kind) → count k (ls ++ ms) ≡ count k ls + count k ms
unfolding count
count_append k [] ms = omega arith
count_append k (l ∷ ls) ms = rw (count_append k ls ms) (omega arith)

-- n labels of one kind: n of that kind, and none of another
pub count_replicate : (k l : Kind) (n : ℕ) → count k (replicate n l) ≡ cond (eqb (kind_number k) (kind_number l)) n 0
unfolding count
count_replicate k l zero = elim (eqb (kind_number k) (kind_number l)) as (λ t. ◌≡◌ {A = ℕ} 0 (cond t 0 0)) [ true ↦ refl | false ↦ refl ]
count_replicate k l (suc n) = rw (count_replicate k l n) (elim (eqb (kind_number k) (kind_number l)) as (λ t. cond t 1 0 + cond t n 0 ≡ cond t (suc n) 0) [ true ↦ omega arith | false ↦ refl ])

-- each label is counted once
pub count_all : (ls : List Kind) → count Frame ls + count Broken ls + count Noise ls + count Pending ls ≡ length ls
unfolding count
count_all [] = refl
count_all (Frame ∷ ls) = omega (arith, count_all ls)
count_all (Broken ∷ ls) = omega (arith, count_all ls)
count_all (Noise ∷ ls) = omega (arith, count_all ls)
count_all (Pending ∷ ls) = omega (arith, count_all ls)
