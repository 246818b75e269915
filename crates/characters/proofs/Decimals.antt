-- A number's decimal text: its digits, its first, and the number read back.
use mathlib.Core.Path.{◌≡◌, refl, sym, ◌∙◌}
use mathlib.Core.Bool.{Bool, true, false, cond}
use mathlib.Core.List.{List, [], ◌∷◌, ◌++◌}
use Prim.Native.Nat.{ℕ, zero, suc, ◌+◌, ◌-◌, ◌*◌, ◌/◌, ◌%◌, ◌≤◌, ◌<◌}
use native.Mathlib.Omega.{arith}
use borrow.Author.Tests.{ltb-true, ltb-false}
use lib.Dec.{ltb}
use lib.ListN.{length, get_or, length-append}
use Rattle.lists.specs.Each.{Each}
use Rattle.lists.proofs.Each.{each_append}
use Rattle.characters.specs.Class.{is_digit}
use Rattle.characters.specs.Decimal.{digit, decimal_in, decimal, read_behind, decimal_read}
use Rattle.characters.specs.DecimalPromise.{DecimalPromise}
use Rattle.characters.proofs.Classes.{within}

abbrev Digit : ℕ → Type 0
Digit d = is_digit d ≡ true

is_digit_lem : (n : ℕ) → n < 10 → Digit (digit n)
is_digit_lem n h = within 0x30 0x39 (digit n) (omega arith) (omega arith)

first_same : (ds ys : List ℕ) → 0 < length ds → get_or (ds ++ ys) 0 0 ≡ get_or ds 0 0
first_same [] ys h = absurd (omega arith)
first_same (d ∷ ds) ys h = refl

read_last : (ds : List ℕ) (d v : ℕ) → read_behind v (ds ++ d ∷ []) ≡ read_behind v ds * 10 + (d - 0x30)
unfolding read_behind
read_last [] d v = refl
read_last (x ∷ ds) d v = read_last ds d (v * 10 + (x - 0x30))

-- what is so of the text of a number
record Text (n : ℕ) (ds : List ℕ) : Type 0 where
  digits : Each Digit ds
  some : 0 < length ds
  leads : 0 < n → get_or ds 0 0 ≡ 0x30 → ⊥
  reads : decimal_read ds ≡ n

text_one : (n : ℕ) → n < 10 → Text n (digit n ∷ [])
unfolding read_behind
text_one n h = record {
  digits = (is_digit_lem n h, tt);
  some = omega arith;
  leads = λ more e. omega (arith, more, e);
  reads = omega arith;
}

text_more : (n : ℕ) (ds : List ℕ) → 10 ≤ n → Text (n / 10) ds → Text n (ds ++ digit (n % 10) ∷ [])
text_more n ds h t = record {
  digits = each_append Digit ds (digit (n % 10) ∷ []) t.digits (is_digit_lem (n % 10) (omega arith), tt);
  some = omega (arith, length-append ds (digit (n % 10) ∷ []));
  leads = λ more e. t.leads (omega arith) (sym (first_same ds (digit (n % 10) ∷ []) t.some) ∙ e);
  reads = omega (arith, read_last ds (digit (n % 10)) 0, t.reads);
}

text_in : (k n : ℕ) → n ≤ k → Text n (decimal_in k n)
unfolding decimal_in
text_in zero n h = text_one n (omega arith)
text_in (suc k) n h = go (ltb n 10) refl (text_in k (n / 10) (omega arith))
  where
    go : (t : Bool) → ltb n 10 ≡ t → Text (n / 10) (decimal_in k (n / 10)) → Text n (cond t (digit n ∷ []) (decimal_in k (n / 10) ++ digit (n % 10) ∷ []))
    go true e s = text_one n (ltb-true n 10 e)
    go false e s = text_more n (decimal_in k (n / 10)) (ltb-false n 10 e) s

text : (n : ℕ) → Text n (decimal n)
text n = text_in n n (omega arith)

pub decimal_promise : DecimalPromise
unfolding decimal_in
decimal_promise = record {
  digits = λ n. (text n).digits;
  some = λ n. (text n).some;
  zero = refl;
  leads = λ n. (text n).leads;
  reads = λ n. (text n).reads;
}
