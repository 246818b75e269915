-- `table-promise`, and what is known of the row that is found.
use mathlib.Core.Path.{◌≡◌, refl, ap, sym, ◌∙◌, subst}
use mathlib.Core.Bool.{Bool, true, false, cond}
use mathlib.Core.List.{List, [], ◌∷◌}
use Prim.Native.Nat.{ℕ}
use borrow.Author.Tests.{eqb-true}
use lib.Dec.{eqb}
use Rattle.lists.specs.Each.{Each}
use Rattle.lists.proofs.Tests.{both}
use Rattle.row.specs.Profile.{letter_of}
use Rattle.row.specs.TablePromise.{TablePromise}
use Rattle.row.specs.Table.{table, is_row_of, first_row}
use Rattle.row.specs.declared.table.Row.{Row}
use Rattle.std.specs.Prelude.{None, Some}

pub none_some : (x : Row) → None ≡ Some x → ⊥
none_some x f = cc

same : (x r : Row) → Some x ≡ Some r → x ≡ r
same x r f = cc

-- what holds of every row holds of the one that is found
pub each_found : (P : Row → Type 0) (rs : List Row) (letter command : ℕ) (r : Row) → Each P rs → first_row rs letter command ≡ Some r → P r
unfolding first_row
each_found P [] letter command r all e = absurd (none_some r e)
each_found P (x ∷ rs) letter command r all e = go (is_row_of letter command x) (each_found P rs letter command r all.1) e
  where
    go : (t : Bool) → (first_row rs letter command ≡ Some r → P r) → cond t (Some x) (first_row rs letter command) ≡ Some r → P r
    go true next f = subst P (same x r f) all.0
    go false next f = next f

-- the row that is found has the letter and the command's code
own_found : (rs : List Row) (letter command : ℕ) (r : Row) → first_row rs letter command ≡ Some r → (r.profile ≡ letter) × (r.code ≡ command)
unfolding first_row
own_found [] letter command r e = absurd (none_some r e)
own_found (x ∷ rs) letter command r e = go (is_row_of letter command x) refl (own_found rs letter command r) e
  where
    go : (t : Bool) → is_row_of letter command x ≡ t → (first_row rs letter command ≡ Some r → (r.profile ≡ letter) × (r.code ≡ command))
        → cond t (Some x) (first_row rs letter command) ≡ Some r → (r.profile ≡ letter) × (r.code ≡ command)
    go true here next f =
        let (letters, codes) = both (eqb x.profile letter) (eqb x.code command) here in
        let x_is = sym (same x r f) in
        (ap (λ (y : Row). y.profile) x_is ∙ eqb-true x.profile letter letters, ap (λ (y : Row). y.code) x_is ∙ eqb-true x.code command codes)
    go false here next f = next f

pub code_found : (rs : List Row) (letter command : ℕ) (r : Row) → first_row rs letter command ≡ Some r → r.code ≡ command
code_found rs letter command r e = (own_found rs letter command r e).1

pub table_promise : TablePromise
unfolding table first_row
table_promise = record { counted = refl; placed = refl; right = λ p command r e. own_found table (letter_of p) command r e; all = refl }
