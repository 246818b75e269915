-- Going along the records of a file, six bytes at a time.
use mathlib.Core.Path.{◌≡◌, refl, ap, ◌∙◌}
use mathlib.Core.Bool.{true, false}
use mathlib.Core.List.{List, [], ◌∷◌}
use Prim.Native.Nat.{ℕ, zero, suc, ◌+◌, ◌*◌, ◌≤◌, ◌<◌}
use native.Mathlib.Numerals.{add-one}
use native.Mathlib.Omega.{arith}
use lib.ListN.{length, drop, get_or, drop_of_length-le}
use lib.Seq.{drop-cons}
use Rattle.std.specs.Prelude.{Err, Ok}
use Rattle.std.specs.Simd.{first_chunks}
use Rattle.refusals.specs.Refusal.{fault}
use Rattle.refusals.specs.declared.refusal.Refusal.TheVariants.{WrongFile}
use Rattle.row.specs.declared.profile.Profile.{Profile}
use Rattle.sheetfile.specs.File.{Record, record_size, records, is_marked, lowest_wrong}
use Rattle.sheetfile.specs.Computed.{record_in, records_in}

-- the whole records of a file are its pieces of six bytes
pub pieces : (q : ℕ) (file : List ℕ) → q * record_size ≤ length file → length file < (q + 1) * record_size → records file ≡ records_in (first_chunks record_size q file)
unfolding records
pieces zero [] low high = refl
pieces zero (a ∷ []) low high = refl
pieces zero (a ∷ b ∷ []) low high = refl
pieces zero (a ∷ b ∷ c ∷ []) low high = refl
pieces zero (a ∷ b ∷ c ∷ d ∷ []) low high = refl
pieces zero (a ∷ b ∷ c ∷ d ∷ e ∷ []) low high = refl
pieces zero (a ∷ b ∷ c ∷ d ∷ e ∷ f ∷ rest) low high = absurd (omega arith)
pieces (suc q) [] low high = absurd (omega arith)
pieces (suc q) (a ∷ []) low high = absurd (omega arith)
pieces (suc q) (a ∷ b ∷ []) low high = absurd (omega arith)
pieces (suc q) (a ∷ b ∷ c ∷ []) low high = absurd (omega arith)
pieces (suc q) (a ∷ b ∷ c ∷ d ∷ []) low high = absurd (omega arith)
pieces (suc q) (a ∷ b ∷ c ∷ d ∷ e ∷ []) low high = absurd (omega arith)
pieces (suc q) (a ∷ b ∷ c ∷ d ∷ e ∷ f ∷ rest) low high =
    ap (λ (rs : List Record). record { first = a; second = b; family = c; zone = d; command = e; value = f } ∷ rs) (pieces q rest (omega arith) (omega arith))

long_in : (n q : ℕ) (file : List ℕ) → length (records_in (first_chunks n q file)) ≡ q
long_in n zero file = refl
long_in n (suc q) file = ap suc (long_in n q (drop n file))

-- how many records are whole
pub records_count : (q : ℕ) (file : List ℕ) → q * record_size ≤ length file → length file < (q + 1) * record_size → length (records file) ≡ q
records_count q file low high = ap (λ (rs : List Record). length rs) (pieces q file low high) ∙ long_in record_size q file

-- one step of the loop
module _ (parts : List (List ℕ)) (i : ℕ) (d : List ℕ) (h : i < length parts) (profile : Profile) where
  here : records_in (drop i parts) ≡ record_in (get_or parts i d) ∷ records_in (drop (i + 1) parts)
  here = rw (add-one i) (ap records_in (drop-cons parts i d h))

  pub marked_on : is_marked profile (record_in (get_or parts i d)) ≡ true
      → lowest_wrong profile i (records_in (drop i parts)) ≡ lowest_wrong profile (i + 1) (records_in (drop (i + 1) parts))
  unfolding lowest_wrong
  marked_on e = ap (lowest_wrong profile i) here ∙ rw e

  pub marked_not : is_marked profile (record_in (get_or parts i d)) ≡ false → lowest_wrong profile i (records_in (drop i parts)) ≡ Err (fault WrongFile i)
  unfolding lowest_wrong
  marked_not e = ap (lowest_wrong profile i) here ∙ rw e

pub marked_end : (parts : List (List ℕ)) (i : ℕ) → length parts ≤ i → (profile : Profile) → lowest_wrong profile i (records_in (drop i parts)) ≡ Ok tt
unfolding lowest_wrong
marked_end parts i h profile = ap (λ (pieces : List (List ℕ)). lowest_wrong profile i (records_in pieces)) (drop_of_length-le parts {i = i} h)
