-- Promise: document 01, 'Tracker': "It holds one byte or unknown per row and zone, S 0F left out. In a sheet row a kept byte that is no
-- legal sheet value .. counts as unknown." Each zone and row of the profile but the row of pairs has a cell of its own, and nothing
-- else has one; what is kept in it is known by its state, and in a sheet row only where it is a legal sheet value.
use Rattle.std.specs.Prelude.{◌≡◌, true, false, ℕ, ◌<◌, get_or, Err, Ok}
use Rattle.row.specs.declared.profile.Profile.{Profile}
use Rattle.row.specs.declared.table.Row.{Row}
use Rattle.judging.specs.Judge.{row_judged}
use Rattle.sheet.specs.Line.{is_sheet_value}
use Rattle.tracker.specs.Cell.{cell_count, cell_of}
use Rattle.tracker.specs.Tracker.{known_state, kept_in}
use Rattle.tracker.specs.Numbers.{kept_state, kept_byte}
use Rattle.tracker.specs.declared.tracker.Tracker.{Tracker}
use Rattle.tracker.specs.declared.tracker.Kept.{Kept}
use Rattle.tracker.specs.declared.tracker.Kept.TheVariants.{Unknown, NoCell}
use Rattle.refusals.specs.declared.refusal.Refusal.{Refusal}

-- a zone and command have a cell: a row, that is none of pairs
abbrev pub HasCell : Profile → ℕ → ℕ → Row → Type 0
HasCell profile zone command row = (row_judged profile zone command ≡ Ok row) × (row.pair ≡ false)

pub record CellPromise (profile : Profile) (zone command : ℕ) : Type 0 where
  pub there : (row : Row) → HasCell profile zone command row → cell_of row zone < cell_count
  pub own : (row : Row) → HasCell profile zone command row → (r : Row) (z c : ℕ) → HasCell profile z c r → cell_of r z ≡ cell_of row zone
      → (z ≡ zone) × (c ≡ command)
  pub pairs : (row : Row) → row_judged profile zone command ≡ Ok row → row.pair ≡ true → (t : Tracker) → t.profile ≡ profile
      → kept_in t zone command ≡ NoCell
  pub none : (e : Refusal) → row_judged profile zone command ≡ Err e → (t : Tracker) → t.profile ≡ profile → kept_in t zone command ≡ NoCell

-- a byte is shown as known
abbrev pub Shows : Kept → ℕ → Type 0
Shows k b = (kept_state k ≡ 1) × (kept_byte k ≡ b)

-- of a zone and command that have a cell
pub record KeptPromise (t : Tracker) (zone command : ℕ) (row : Row) (has : HasCell t.profile zone command row) : Type 0 where
  pub unknown : (get_or t.states (cell_of row zone) 0 ≡ known_state → ⊥) → kept_in t zone command ≡ Unknown
  pub spoilt : get_or t.states (cell_of row zone) 0 ≡ known_state → row.sheet ≡ true → is_sheet_value row (get_or t.values (cell_of row zone) 0) ≡ false
      → kept_in t zone command ≡ Unknown
  pub sound : get_or t.states (cell_of row zone) 0 ≡ known_state → row.sheet ≡ true → is_sheet_value row (get_or t.values (cell_of row zone) 0) ≡ true
      → Shows (kept_in t zone command) (get_or t.values (cell_of row zone) 0)
  pub other : get_or t.states (cell_of row zone) 0 ≡ known_state → row.sheet ≡ false → Shows (kept_in t zone command) (get_or t.values (cell_of row zone) 0)
