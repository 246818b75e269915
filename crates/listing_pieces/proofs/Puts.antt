-- Texts put one behind another are one text.
use mathlib.Core.Path.{◌≡◌, refl, ap, sym, ◌∙◌}
use mathlib.Core.List.{List, ◌∷◌, ◌++◌, [], append_assoc}
use Prim.Native.Nat.{ℕ, ◌+◌, ◌^◌, ◌≤◌, ◌<◌}
use native.Mathlib.Omega.{arith}
use lib.ListN.{length, take, drop, length-append, take-append-drop}
use Rattle.lent.specs.Placed.{placed}
use Rattle.lent.specs.Written.{write_answered, write_left, written_count}
use Rattle.lent.proofs.Placed.{placed_both}
use Rattle.lent.proofs.Writes.{write_fits}
use Rattle.listing_text.specs.Listing.{text_line}
use Rattle.listing_pieces.specs.Computed.{Put, behind}
use Rattle.std.specs.Prelude.{Result}
use Rattle.refusals.specs.declared.refusal.Refusal.{Refusal}

-- what a write answers and leaves where there is room for its text
module _ {buf after text : List ℕ} {at : ℕ} {w : (Result ℕ Refusal)} where
  pub wrote : (m end : ℕ) → at + length text ≤ length buf → length text ≤ m → w ≡ write_answered [] buf at text → after ≡ write_left [] buf at text
      → end ≡ at + written_count w → Put m buf at text after end
  wrote m end room short answers leaves e =
      let there = write_fits [] buf at text refl room in
      let count : written_count w ≡ length text = ap written_count (answers ∙ there.0) in
      record { stands = leaves ∙ there.1; ends = omega (arith, e, count); short = omega (arith, e, count, short) }

-- the place behind it is a place
module _ (buf text : List ℕ) (at : ℕ) (w : Result ℕ Refusal) where
  pub within : at + length text ≤ length buf → length buf < 2 ^ 64 → w ≡ write_answered [] buf at text → at + written_count w < 2 ^ 64
  within room small answers =
      let count : written_count w ≡ length text = ap written_count (answers ∙ (write_fits [] buf at text refl room).0) in
      omega (arith, room, small, count)

module _ {m n : ℕ} {buf mid last first second : List ℕ} {at next end : ℕ} where
  pub both : at ≤ length buf → Put m buf at first mid next → Put n mid next second last end → Put (m + n) buf at (first ++ second) last end
  both within p q = record {
    stands =
        q.stands ∙ ap (λ (xs : List ℕ). placed xs next second) p.stands
        ∙ ap (λ (k : ℕ). placed (placed buf at first) k second) p.ends
        ∙ placed_both buf at first second within;
    ends = omega (arith, p.ends, q.ends, length-append first second);
    short = omega (arith, p.short, q.short);
  }

module _ {m n : ℕ} {buf last text : List ℕ} {at end : ℕ} where
  -- a text that is shorter than it may be
  pub wider : m ≤ n → Put m buf at text last end → Put n buf at text last end
  wider h p = record { stands = p.stands; ends = p.ends; short = omega (arith, p.short, h) }

module _ {m : ℕ} {buf last text other : List ℕ} {at end : ℕ} where
  -- the same text, said otherwise
  pub said : text ≡ other → Put m buf at text last end → Put m buf at other last end
  said e p = record {
    stands = p.stands ∙ ap (λ (xs : List ℕ). placed buf at xs) e;
    ends = p.ends ∙ ap (λ (xs : List ℕ). at + length xs) e;
    short = p.short;
  }

-- a text in three parts, and one more behind them
module _ {m n : ℕ} {buf mid last rest : List ℕ} {at next end : ℕ} where
  pub both_behind : (word number tail : List ℕ) → at ≤ length buf → Put m buf at (word ++ (number ++ tail)) mid next → Put n mid next rest last end
      → Put (m + n) buf at (word ++ (number ++ (tail ++ rest))) last end
  both_behind word number tail within p q =
      said (append_assoc word (number ++ tail) rest ∙ ap (λ (xs : List ℕ). word ++ xs) (append_assoc number tail rest)) (both within p q)

pub line_behind : (word : List ℕ) (words : List (List ℕ)) → text_line word words ≡ word ++ behind words
unfolding text_line
line_behind word [] = refl
line_behind word (w ∷ ws) = refl

pub nothing : (m : ℕ) (buf : List ℕ) (at : ℕ) → Put m buf at [] buf at
nothing m buf at =
    let none : at + length {A = ℕ} [] ≡ at = omega arith in
    record { stands = sym (ap (λ (k : ℕ). take at buf ++ drop k buf) none ∙ take-append-drop at buf); ends = sym none; short = omega arith }
