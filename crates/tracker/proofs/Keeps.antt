-- Which zones and rows have a cell, and what is known of what it keeps.
use mathlib.Core.Path.{◌≡◌, refl, ap, sym, ◌∙◌, subst}
use mathlib.Core.Bool.{Bool, true, false, cond, not, ◌&&◌}
use Prim.Native.Nat.{ℕ}
use borrow.Author.Tests.{eq-eqb, ne_eqb}
use lib.Dec.{eqb}
use lib.ListN.{get_or}
use Rattle.lists.proofs.Tests.{both}
use Rattle.row.specs.MinusZero.{is_minus_zero}
use Rattle.row.specs.declared.profile.Profile.{Profile}
use Rattle.row.specs.declared.table.Row.{Row}
use Rattle.judging.specs.Judge.{is_setting, row_judged}
use Rattle.sheet.specs.Line.{is_sheet_value}
use Rattle.tracker.specs.Cell.{cell_of}
use Rattle.tracker.specs.Tracker.{known_state, is_spoilt, kept_at, kept_in}
use Rattle.tracker.specs.CellPromise.{HasCell, CellPromise, KeptPromise}
use Rattle.tracker.specs.declared.tracker.Tracker.{Tracker}
use Rattle.tracker.specs.declared.tracker.Kept.TheVariants.{Value, Unknown, NoCell}
use Rattle.tracker.proofs.Cells.{within, same_cell_lem}
use Rattle.std.specs.Prelude.{Err, Ok, Result}
use Rattle.refusals.specs.declared.refusal.Refusal.{Refusal}

pub cell_promise : (profile : Profile) (zone command : ℕ) → CellPromise profile zone command
unfolding kept_in
cell_promise profile zone command = record {
  there = λ row h. within profile zone command row h.0;
  own = λ row h r z c k same. same_cell_lem profile zone command z c row r h.0 k.0 same;
  pairs = λ row e paired t own. rw (own, e, paired);
  none = λ n e t own. rw (own, e);
}

pub kept_promise : (t : Tracker) (zone command : ℕ) (row : Row) (has : HasCell t.profile zone command row) → KeptPromise t zone command row has
unfolding kept_in
kept_promise t zone command row has = record {
  unknown = λ other. rw (has.0, has.1, ne_eqb (get_or t.states (cell_of row zone) 0) known_state other);
  spoilt = λ known sheet bad.
      rw (has.0, has.1, eq-eqb (get_or t.states (cell_of row zone) 0) known_state known, sheet, set sheet bad);
  sound = λ known sheet good.
      rw (has.0, has.1, eq-eqb (get_or t.states (cell_of row zone) 0) known_state known, sheet, set sheet good) (refl, refl);
  other = λ known none. rw (has.0, has.1, eq-eqb (get_or t.states (cell_of row zone) 0) known_state known, none) (refl, refl);
}
  where
    kept : ℕ
    kept = get_or t.values (cell_of row zone) 0

    set : {x : Bool} → row.sheet ≡ true → is_sheet_value row kept ≡ x → not (is_minus_zero row kept) && is_setting row kept ≡ x
    set sheet e = sym (ap (λ (y : Bool). y && (not (is_minus_zero row kept) && is_setting row kept)) sheet) ∙ e

-- what is known in a sheet row is a sheet value
pub known_sheet_value : (t : Tracker) (zone command : ℕ) (row : Row) (b : ℕ) → row_judged t.profile zone command ≡ Ok row → row.sheet ≡ true
    → kept_in t zone command ≡ Value b → is_sheet_value row b ≡ true
unfolding kept_in
known_sheet_value t zone command row b there sheet e = go row.pair (is_known && not (is_spoilt row kept)) refl (sym (ap (kept_at t zone) there) ∙ e)
  where
    kept : ℕ
    kept = get_or t.values (cell_of row zone) 0

    is_known : Bool
    is_known = eqb (get_or t.states (cell_of row zone) 0) known_state

    twice : (x : Bool) → not (not x) ≡ true → x ≡ true
    twice true f = refl
    twice false f = f

    same : Value kept ≡ Value b → kept ≡ b
    same f = cc

    go : (p q : Bool) → is_known && not (is_spoilt row kept) ≡ q → cond p NoCell (cond q (Value kept) Unknown) ≡ Value b → is_sheet_value row b ≡ true
    go true q f g = cc
    go false true f g =
        let sound = (both is_known (not (is_spoilt row kept)) f).1 in
        subst (λ (n : ℕ). is_sheet_value row n ≡ true) (same g)
        (twice (is_sheet_value row kept) (sym (ap (λ (y : Bool). not (y && not (is_sheet_value row kept))) sheet) ∙ sound))
    go false false f g = cc

-- what has no cell is kept nowhere
pub none_kept : (t : Tracker) (zone command : ℕ) → ((row : Row) → HasCell t.profile zone command row → ⊥) → kept_in t zone command ≡ NoCell
unfolding kept_in
none_kept t zone command none = go (row_judged t.profile zone command) refl
  where
    half : (row : Row) (p : Bool) → row.pair ≡ p → row_judged t.profile zone command ≡ Ok row → kept_at t zone (Ok row) ≡ NoCell
    half row true p e = rw p
    half row false p e = absurd (none row (e, p))

    go : (j : Result Row Refusal) → row_judged t.profile zone command ≡ j → kept_at t zone j ≡ NoCell
    go (Ok row) e = half row row.pair refl e
    go (Err n) e = refl
