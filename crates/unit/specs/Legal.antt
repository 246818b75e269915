-- Document 01, 'The unit': "one legal answer value per row and zone (S 0F: a value per input and a current input ..)"; 80, too, where it
-- is a legal answer (document 02, C-14).
use Rattle.std.specs.Prelude.{ℕ, ◌≡◌, true, false, Ok}
use Rattle.row.specs.declared.profile.Profile.{Profile}
use Rattle.row.specs.declared.table.Row.{Row}
use Rattle.judging.specs.Judge.{is_answer, is_pair, row_judged}
use Rattle.unit.specs.Unit.{Settings, value, input, current}

-- a row that a profile has in a zone
abbrev pub RowIn : Profile → ℕ → ℕ → Row → Type 0
RowIn profile zone command row = row_judged profile zone command ≡ Ok row

pub record LegalSettings (profile : Profile) (s : Settings) : Type 0 where
  pub rows : (zone command : ℕ) (row : Row) → RowIn profile zone command row → row.pair ≡ false → is_answer row (s (value zone command)) ≡ true
  pub inputs : (zone command : ℕ) (row : Row) → RowIn profile zone command row → row.pair ≡ true
      → (i : ℕ) → is_answer row i ≡ true → is_pair row i (s (input i)) ≡ true
  pub now : (zone command : ℕ) (row : Row) → RowIn profile zone command row → row.pair ≡ true → is_answer row (s current) ≡ true
