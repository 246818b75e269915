-- A cell lies within a tracker, and is of one zone and row.
use mathlib.Core.Path.{◌≡◌, refl, ap, sym, ◌∙◌}
use mathlib.Core.Bool.{Bool, true, false, not, ◌&&◌, ◌||◌}
use mathlib.Core.List.{List, map}
use mathlib.Core.Logic.{◌⊎◌, inl, inr}
use Prim.Native.Nat.{ℕ, ◌≤◌, ◌<◌}
use native.Mathlib.Omega.{arith}
use borrow.Author.Tests.{eqb-true, eqb-false, ltb-true, ltb-false}
use lib.Dec.{eqb, ltb}
use lib.ListN.{get_or}
use Rattle.row.specs.MinusZero.{is_minus_zero}
use Rattle.row.specs.Profile.{letter_of, zones_of}
use Rattle.row.specs.Table.{table, row_count, row_of}
use Rattle.row.specs.declared.profile.Profile.{Profile}
use Rattle.row.specs.declared.profile.Profile.TheVariants.{A, S}
use Rattle.row.specs.declared.table.Row.{Row}
use Rattle.row.proofs.Rows.{code_found}
use Rattle.judging.specs.Judge.{is_setting, row_judged}
use Rattle.judging.proofs.Judges.{judged_lies}
use Rattle.lists.proofs.Tests.{both}
use Rattle.message.proofs.Tidy.{every, row_passes}
use Rattle.sheet.specs.Line.{legal_in, is_legal}
use Rattle.sheet.specs.declared.line.Line.{Line}
use Rattle.tracker.specs.Cell.{cell_count, cell_of}
use Rattle.tracker.specs.CellPromise.{HasCell}
use Rattle.refusals.proofs.Ruled.{or_false}
use Rattle.std.specs.Prelude.{Err, Ok, Result, Some}
use Rattle.refusals.specs.declared.refusal.Refusal.{Refusal}

three : (profile : Profile) → zones_of profile ≤ 3
three A = omega arith
three S = omega arith

-- every row has its place in the table
all_placed : every (λ r. ltb r.place row_count) table ≡ true
unfolding table
all_placed = refl

-- and its code is that of the row in its place
abbrev codes : List ℕ
codes = map (λ (r : Row). r.code) table

all_coded : every (λ r. eqb (get_or codes r.place 0) r.code) table ≡ true
unfolding table
all_coded = refl

-- no sheet row is a row of pairs
all_single : every (λ r. not r.sheet || not r.pair) table ≡ true
unfolding table
all_single = refl

-- where zone and row are legal
pub record Stands (profile : Profile) (zone command : ℕ) (row : Row) : Type 0 where
  pub there : row_of profile command ≡ Some row
  pub low : 1 ≤ zone
  pub high : zone ≤ 3
  pub place : row.place < row_count

pub stands : (profile : Profile) (zone command : ℕ) (row : Row) → row_judged profile zone command ≡ Ok row → Stands profile zone command row
stands profile zone command row e =
    let l = judged_lies profile zone command row e in
    let zones = or_false (eqb zone 0) (ltb (zones_of profile) zone) l.within in
    let some = eqb-false zone 0 zones.0 in
    let most = ltb-false (zones_of profile) zone zones.1 in
    record {
      there = l.there;
      low = omega (arith, some);
      high = omega (arith, most, three profile);
      place = ltb-true row.place row_count (row_passes (λ r. ltb r.place row_count) all_placed profile command row l.there);
    }

-- a cell is one of the tracker's
pub within : (profile : Profile) (zone command : ℕ) (row : Row) → row_judged profile zone command ≡ Ok row → cell_of row zone < cell_count
within profile zone command row e = let l = stands profile zone command row e in omega (arith, l.low, l.high, l.place)

coded : (profile : Profile) (command : ℕ) (row : Row) → row_of profile command ≡ Some row → get_or codes row.place 0 ≡ command
coded profile command row there =
    eqb-true (get_or codes row.place 0) row.code (row_passes (λ r. eqb (get_or codes r.place 0) r.code) all_coded profile command row there)
    ∙ code_found table (letter_of profile) command row there

-- two cells in one place are of one zone and row
pub same_cell_lem : (profile : Profile) (zone command z c : ℕ) (row r : Row) → row_judged profile zone command ≡ Ok row → row_judged profile z c ≡ Ok r
    → cell_of r z ≡ cell_of row zone → (z ≡ zone) × (c ≡ command)
same_cell_lem profile zone command z c row r e f same =
    let l = stands profile zone command row e in
    let m = stands profile z c r f in
    let place : r.place ≡ row.place = omega (arith, l.low, l.high, m.low, m.high, same) in
    (omega (arith, l.low, l.high, m.low, m.high, same), sym (coded profile c r m.there) ∙ ap (λ (k : ℕ). get_or codes k 0) place ∙ coded profile command row l.there)

-- a zone and command have a cell or have none
pub cell_or_none : (profile : Profile) (zone command : ℕ) → ((row : Row) × HasCell profile zone command row) ⊎ ((row : Row) → HasCell profile zone command row → ⊥)
cell_or_none profile zone command = go (row_judged profile zone command) refl
  where
    same : (x y : Row) → ◌≡◌ {A = Result Row Refusal} (Ok x) (Ok y) → x ≡ y
    same x y e = cc

    differ : true ≡ false → ⊥
    differ w = cc

    refused : (n : Refusal) (x : Row) → Err n ≡ Ok x → ⊥
    refused n x e = cc

    half : (x : Row) (t : Bool) → x.pair ≡ t → row_judged profile zone command ≡ Ok x
        → ((row : Row) × HasCell profile zone command row) ⊎ ((row : Row) → HasCell profile zone command row → ⊥)
    half x true p e = inr (λ row h. differ (sym p ∙ ap (λ (r : Row). r.pair) (same x row (sym e ∙ h.0)) ∙ h.1))
    half x false p e = inl (x, (e, p))

    go : (j : Result Row Refusal) → row_judged profile zone command ≡ j → ((row : Row) × HasCell profile zone command row) ⊎ ((row : Row) → HasCell profile zone command row → ⊥)
    go (Ok x) e = half x x.pair refl e
    go (Err n) e = inr (λ row h. refused n row (sym e ∙ h.0))

-- a line that is legal for a sheet has a cell
pub legal_cell : (profile : Profile) (l : Line) → is_legal profile l ≡ true → (row : Row) × HasCell profile l.zone l.command row
unfolding is_legal
legal_cell profile l e = go (row_judged profile l.zone l.command) refl e
  where
    single : (s p : Bool) → not s || not p ≡ true → s ≡ true → p ≡ false
    single true true f g = sym f
    single true false f g = refl
    single false p f g = cc

    go : (j : Result Row Refusal) → row_judged profile l.zone l.command ≡ j → legal_in j l.value ≡ true → (row : Row) × HasCell profile l.zone l.command row
    go (Ok row) f legal =
        let there = (stands profile l.zone l.command row f).there in
        let test = row_passes (λ r. not r.sheet || not r.pair) all_single profile l.command row there in
        (row, (f, single row.sheet row.pair test (both row.sheet (not (is_minus_zero row l.value) && is_setting row l.value) legal).0))
    go (Err n) f legal = cc
