-- The digits of a number: counted, and written from the last to the first.
use mathlib.Core.Path.{◌≡◌, refl, ap, sym, ◌∙◌}
use mathlib.Core.Bool.{Bool, true, false, cond}
use mathlib.Core.List.{List, [], ◌∷◌, ◌++◌, append_assoc}
use Prim.Native.Nat.{ℕ, zero, suc, ◌+◌, ◌-◌, ◌*◌, ◌/◌, ◌%◌, ◌^◌, ◌≤◌, ◌<◌}
use native.Mathlib.Omega.{arith}
use native.Mathlib.Numerals.{unary_clauses}
use borrow.Author.Tests.{lt-ltb, le-ltb, ltb-true, ltb-false}
use lib.Dec.{ltb}
use lib.ListN.{length, take, get_or, set, length-append}
use lib.Seq.{take-suc, set_at, length-take-le}
use Rattle.characters.specs.Decimal.{digit, decimal_in, decimal}
use Rattle.characters.specs.Computed.{last_digits}

pub digits_count : (k n : ℕ) → length (last_digits k n) ≡ k
unfolding last_digits
digits_count zero n = refl
digits_count (suc k) n = omega (arith, length-append (last_digits k (n / 10)) (digit (n % 10) ∷ []), digits_count k (n / 10))

-- 1 with so many zeros
abbrev pub tens : ℕ → ℕ
tens zero = 1
tens (suc j) = 10 * tens j

-- a number of so many digits behind its first: nothing is asked of one digit
abbrev pub Least : ℕ → ℕ → Type 0
Least zero n = Unit {0}
Least (suc j) n = tens (suc j) ≤ n

tens_some : (j : ℕ) → 1 ≤ tens j
tens_some zero = omega arith
tens_some (suc j) = omega (arith, tens_some j)

-- a number below ten, and one more digit
one : (k n : ℕ) → n < 10 → decimal_in k n ≡ last_digits 1 n
unfolding decimal_in last_digits
one zero n h = let same : n % 10 ≡ n = omega arith in rw same
one (suc k) n h = let same : n % 10 ≡ n = omega arith in rw (lt-ltb n 10 h, same)

more : (j k n : ℕ) → 10 ≤ n → decimal_in k (n / 10) ≡ last_digits j (n / 10) → decimal_in (suc k) n ≡ last_digits (suc j) n
unfolding decimal_in last_digits
more j k n h e = rw (le-ltb n 10 h) (ap (λ (ds : List ℕ). ds ++ digit (n % 10) ∷ []) e)

least_less : (j n : ℕ) → tens (suc j) ≤ n → Least j (n / 10)
least_less zero n h = tt
least_less (suc j) n h = omega (arith, h)

sized : (j k n : ℕ) → n ≤ k → n < tens (suc j) → Least j n → decimal_in k n ≡ last_digits (suc j) n
sized zero k n bound high low = one k n (omega arith)
sized (suc j) zero n bound high low = absurd (omega (arith, low, tens_some j))
sized (suc j) (suc k) n bound high low =
    let many : 10 ≤ n = omega (arith, low, tens_some j) in
    more (suc j) k n many (sized j k (n / 10) (omega arith) (omega arith) (least_less j n low))

pub decimal_long : (j n : ℕ) → n < tens (suc j) → Least j n → suc j ≡ length (decimal n)
decimal_long j n high low = sym (ap (λ (ds : List ℕ). length ds) (sized j n n (omega arith) high low) ∙ digits_count (suc j) n)

-- the same by the power of ten that is the greatest in a number; 0 has none, and one digit
tens_power : (j : ℕ) → tens j ≡ 10 ^ j
tens_power zero = refl
tens_power (suc j) = simp unary_clauses (omega (arith, tens_power j))

pub decimal_power : (j n : ℕ) → 10 ^ j ≤ n → n < 10 * 10 ^ j → j + 1 ≡ length (decimal n)
decimal_power zero n low high = decimal_long 0 n (omega arith) tt
decimal_power (suc j) n low high =
    let same = tens_power (suc j) in
    omega (arith, decimal_long (suc j) n (omega (arith, same)) (omega (arith, same)))

pub decimal_none : (n : ℕ) → n ≡ 0 → 1 ≡ length (decimal n)
decimal_none n h = decimal_long 0 n (omega arith) tt

-- at most so many digits
most_more : (j k n : ℕ) → n < tens (suc j) → ((i : ℕ) → n / 10 < tens (suc i) → length (decimal_in k (n / 10)) ≤ suc i) → length (decimal_in (suc k) n) ≤ suc j
unfolding decimal_in
most_more j k n high less = go (ltb n 10) refl j high
  where
    go : (t : Bool) → ltb n 10 ≡ t → (i : ℕ) → n < tens (suc i) → length (cond t (digit n ∷ []) (decimal_in k (n / 10) ++ digit (n % 10) ∷ [])) ≤ suc i
    go true e i h = omega arith
    go false e zero h = absurd (omega (arith, ltb-false n 10 e, h))
    go false e (suc i) h = omega (arith, length-append (decimal_in k (n / 10)) (digit (n % 10) ∷ []), less i (omega (arith, h)))

most_in : (k j n : ℕ) → n < tens (suc j) → length (decimal_in k n) ≤ suc j
unfolding decimal_in
most_in zero j n high = omega arith
most_in (suc k) j n high = most_more j k n high (λ i h. most_in k i (n / 10) h)

pub decimal_most : (j n : ℕ) → n < tens (suc j) → length (decimal n) ≤ suc j
decimal_most j n high = most_in n j n high

-- any number's text is the last of its digits, as many as it has
last_more : (k n : ℕ) → (c : ℕ) × (decimal_in k (n / 10) ≡ last_digits c (n / 10)) → (c : ℕ) × (decimal_in (suc k) n ≡ last_digits c n)
last_more k n s = go (ltb n 10) refl
  where
    go : (t : Bool) → ltb n 10 ≡ t → (c : ℕ) × (decimal_in (suc k) n ≡ last_digits c n)
    go true e = (1, one (suc k) n (ltb-true n 10 e))
    go false e = (suc s.0, more s.0 k n (ltb-false n 10 e) s.1)

some_last : (k n : ℕ) → n ≤ k → (c : ℕ) × (decimal_in k n ≡ last_digits c n)
some_last zero n h = (1, one zero n (omega arith))
some_last (suc k) n h = last_more k n (some_last k (n / 10) (omega arith))

pub decimal_last : (n : ℕ) → decimal n ≡ last_digits (length (decimal n)) n
decimal_last n =
    let s = some_last n n (omega arith) in
    s.1 ∙ ap (λ (c : ℕ). last_digits c n) (sym (ap (λ (ds : List ℕ). length ds) s.1 ∙ digits_count s.0 n))

-- one digit more, before those that stand already
pub digit_before : (i n : ℕ) (later : List ℕ) → 0 < i → last_digits i n ++ later ≡ last_digits (i - 1) (n / 10) ++ digit (n % 10) ∷ later
unfolding last_digits
digit_before zero n later h = absurd (omega arith)
digit_before (suc j) n later h =
    let same : suc j - 1 ≡ j = omega arith in
    append_assoc (last_digits j (n / 10)) (digit (n % 10) ∷ []) later
    ∙ ap (λ (k : ℕ). last_digits k (n / 10) ++ digit (n % 10) ∷ later) (sym same)

pub set_before : (buf before later : List ℕ) (j d : ℕ) → suc j ≤ length before → buf ≡ take (suc j) before ++ later → set buf j d ≡ take j before ++ d ∷ later
set_before buf before later j d room e =
    ap (λ (xs : List ℕ). set xs j d) (e ∙ ap (λ (xs : List ℕ). xs ++ later) (take-suc before j 0 room) ∙ append_assoc (take j before) (get_or before j 0 ∷ []) later)
    ∙ set_at (take j before) (get_or before j 0) later d j (length-take-le j before (omega arith))
