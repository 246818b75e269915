-- `kind-promise`: a row's number names it. And tables that have the number of each command code: a test over all of their entries, computed at once, and what it says of each.
use mathlib.Core.Path.{◌≡◌, refl, sym, ap, ◌∙◌}
use mathlib.Core.Bool.{Bool, true, ◌&&◌}
use mathlib.Core.List.{List, [], ◌∷◌}
use Prim.Native.Nat.{ℕ, zero, suc, ◌-◌, ◌/◌, ◌%◌, ◌<◌}
use native.Mathlib.Numerals.{unary_clauses}
use native.Mathlib.Omega.{arith}
use borrow.Author.Tests.{eqb-true}
use lib.Dec.{eqb}
use lib.ListN.{length, get_or}
use Rattle.lists.specs.Each.{Each}
use Rattle.lists.proofs.Each.{each_same}
use Rattle.lists.proofs.Tests.{both, upto, upto_at}
use Rattle.row.specs.Profile.{letter_of}
use Rattle.row.specs.Table.{table, row_count, row_of}
use Rattle.row.specs.Kind.{kind_number, kind_of, kind_at, HasKinds, row_at, row_named}
use Rattle.row.specs.KindPromise.{KindPromise}
use Rattle.row.specs.Computed.{own}
use Rattle.row.specs.declared.profile.Profile.{Profile}
use Rattle.row.specs.declared.profile.Profile.TheVariants.{A, S}
use Rattle.row.specs.declared.table.Row.{Row}
use Rattle.row.proofs.Rows.{none_some, each_found}
use Rattle.std.specs.Prelude.{None, Option, Some}

-- each row stands at the place that it says: computed over the table
stands : Each (λ (r : Row). row_at table r.place ≡ Some r) table
unfolding table
stands = each_same (λ r. row_at table r.place) Some table refl

named : (p : Profile) (command : ℕ) (r : Row) → row_of p command ≡ Some r → row_at table r.place ≡ Some r
named p command r e = each_found (λ (r : Row). row_at table r.place ≡ Some r) table (letter_of p) command r stands e

names : (p : Profile) (command : ℕ) → row_named (kind_of p command) ≡ row_of p command
names p command = go (row_of p command) refl where
  go : (f : Option Row) → row_of p command ≡ f → row_named (kind_number f) ≡ f
  go (Some r) e = named p command r e
  go None e = refl

no_number : (f : Option Row) → kind_number f ≡ 0 → f ≡ None
no_number (Some r) e = absurd (omega (arith, e))
no_number None e = refl

within : (rs : List Row) (place : ℕ) (r : Row) → row_at rs place ≡ Some r → place < length rs
within [] place r e = absurd (none_some r e)
within (x ∷ rs) zero r e = omega arith
within (x ∷ rs) (suc place) r e = omega (arith, within rs place r e)

one : (n : ℕ) (r : Row) → row_named n ≡ Some r → n ≡ kind_number (Some r)
unfolding table upto
one zero r e = absurd (none_some r e)
one (suc place) r e =
    let says : kind_number (row_at table place) ≡ suc place =
    eqb-true (kind_number (row_at table place)) (suc place) (upto_at row_count (λ k. eqb (kind_number (row_at table k)) (suc k)) refl place (within table place r e)) in
    sym says ∙ ap kind_number e

pub kind_promise : KindPromise
unfolding table
kind_promise = record {
  gives = λ p kinds all command h. ap row_named (all.each command h) ∙ names p command;
  zero_none = λ p command. (no_number (row_of p command), ap kind_number);
  one = one;
  numbers = refl;
}

-- what a number other than 0 names is at the place before it, within the table
pub named_at : (p : Profile) (command : ℕ) → (kind_of p command ≡ 0 → ⊥) → (kind_of p command - 1 < row_count) × (row_at table (kind_of p command - 1) ≡ row_of p command)
unfolding table
named_at p command other = go (row_of p command) refl other where
  go : (f : Option Row) → row_of p command ≡ f → (kind_number f ≡ 0 → ⊥) → (kind_number f - 1 < row_count) × (row_at table (kind_number f - 1) ≡ f)
  go (Some r) e other = simp unary_clauses (within table r.place r (named p command r e), named p command r e)
  go None e other = absurd (other refl)

-- does a table have the number of each of the 256 command codes
abbrev pub has_kinds : Profile → List (List ℕ) → Bool
has_kinds p kinds = upto 256 (λ command. eqb (kind_at kinds command) (kind_of p command))

has_kinds_lem : (p : Profile) (kinds : List (List ℕ)) → has_kinds p kinds ≡ true → HasKinds p kinds
has_kinds_lem p kinds e = record { each = λ command h. eqb-true (kind_at kinds command) (kind_of p command) (upto_at 256 (λ c. eqb (kind_at kinds c) (kind_of p c)) e command h) }

-- two tables that pass the test, each for its profile
pub tables_have : (a s : List (List ℕ)) → has_kinds A a && has_kinds S s ≡ true → HasKinds A a × HasKinds S s
tables_have a s e = let (for-a, for-s) = both (has_kinds A a) (has_kinds S s) e in (has_kinds_lem A a for-a, has_kinds_lem S s for-s)

-- what stands at a command's place in its line is its number
pub line_at : (p : Profile) (a s : List (List ℕ)) (command : ℕ) {line kind : ℕ} → HasKinds A a × HasKinds S s → command < 256 → command / 16 ≡ line
    → kind ≡ get_or (get_or (own p a s) line []) (command % 16) 0 → kind ≡ kind_of p command
unfolding kind_at
line_at p a s command have h e there = there ∙ rw (sym e) (go p) where
  go : (p : Profile) → get_or (get_or (own p a s) (command / 16) []) (command % 16) 0 ≡ kind_of p command
  go A = have.0.each command h
  go S = have.1.each command h
