-- Minus zero: which rows have it, computed over the table, and what it is turned into.
use mathlib.Core.Path.{◌≡◌, refl}
use mathlib.Core.Bool.{Bool, true, false, cond, ◌&&◌}
use mathlib.Core.List.{[], ◌∷◌}
use Prim.Native.Nat.{ℕ, ◌<◌}
use borrow.Author.Tests.{eqb-true, eqb-false, ne_eqb}
use lib.Dec.{eqb}
use Rattle.lists.specs.InOrder.{in_order}
use Rattle.row.specs.Signed.{number_of, code_of}
use Rattle.row.specs.MinusZero.{is_minus_zero, normal, normal_in}
use Rattle.row.specs.MinusZeroPromise.{concerned, MinusZeroPromise}
use Rattle.row.specs.Table.{table}
use Rattle.row.specs.declared.table.Row.{Row}
use Rattle.row.proofs.Inverse.{signed_promise}
use Rattle.std.specs.Prelude.{None, Option, Some}

concerned_rows : in_order concerned table ≡ (0x41, 0x3A) ∷ (0x41, 0x45) ∷ (0x41, 0x46) ∷ (0x53, 0x3B) ∷ []
unfolding table in_order
concerned_rows = refl

module _ (row : Row) (code : ℕ) where
  -- what holds of 80 in a signed row, and of a code that is not minus zero, holds of any
  pub by_zero : (P : ℕ → ℕ → Type 0) → (row.signed ≡ true → P 0x80 0x00) → (is_minus_zero row code ≡ false → P code code) → P code (normal row code)
  by_zero P zero rest = go (eqb code 0x80) row.signed refl refl
    where
      go : (t u : Bool) → eqb code 0x80 ≡ t → row.signed ≡ u → P code (cond (t && u) 0x00 code)
      go true true e f = rw (eqb-true code 0x80 e) (zero f)
      go true false e f = rest (rw (e, f))
      go false u e f = rest (rw e)

  other : (code ≡ 0x80 → ⊥) → normal row code ≡ code
  other e = rw (ne_eqb code 0x80 e)

  unsigned : row.signed ≡ false → normal row code ≡ code
  unsigned e = go (eqb code 0x80)
    where
      go : (t : Bool) → cond (t && row.signed) 0x00 code ≡ code
      go true = rw e
      go false = refl

  means : number_of (normal row code) ≡ number_of code
  unfolding number_of
  means = by_zero (λ c n. number_of n ≡ number_of c) (λ s. refl) (λ e. refl)

  written : row.signed ≡ true → code < 0x100 → code_of (number_of code) ≡ Some (normal row code)
  unfolding number_of code_of
  written s h = by_zero (λ c n. code_of (number_of c) ≡ Some n) (λ t. refl) (λ e. signed_promise.code_number code h (not_zero e))
    where
      not_zero : is_minus_zero row code ≡ false → code ≡ 0x80 → ⊥
      not_zero e = eqb-false code 0x80 (go (eqb code 0x80) e)
        where
          go : (t : Bool) → t && row.signed ≡ false → t ≡ false
          go true f = cc
          go false f = refl

  again : is_minus_zero row (normal row code) ≡ false
  again = by_zero (λ c n. is_minus_zero row n ≡ false) (λ s. refl) (λ e. e)

pub minus_zero_promise : MinusZeroPromise
minus_zero_promise = record {
  rows = concerned_rows;
  turned = λ row s. rw s;
  other = other;
  unsigned = unsigned;
  means = means;
  written = written;
  again = again;
}

-- what a byte is turned into is turned no further
pub turned_again : (f : Option Row) (b : ℕ) → normal_in f (normal_in f b) ≡ normal_in f b
turned_again (Some row) b = let done = minus_zero_promise.again row b in rw done
turned_again None b = refl
