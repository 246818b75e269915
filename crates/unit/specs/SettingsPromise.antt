-- Promise: a cell that is put holds its value, and every other what it held. Document 01, 'The unit': "one legal answer value per row
-- and zone (S 0F: a value per input and a current input ..)": any of them may be held, whatever the other cells hold.
use Rattle.std.specs.Prelude.{ℕ, ◌≡◌, true}
use Rattle.row.specs.declared.profile.Profile.{Profile}
use Rattle.row.specs.declared.table.Row.{Row}
use Rattle.judging.specs.Judge.{is_answer, is_pair}
use Rattle.unit.specs.Unit.{Setting, value, input, current, Settings, put}
use Rattle.unit.specs.Legal.{LegalSettings, RowIn}

pub record PutPromise (s : Settings) (x : Setting) (v : ℕ) : Type 0 where
  pub held : put s x v x ≡ v
  pub others : (y : Setting) → (x ≡ y → ⊥) → put s x v y ≡ s y

pub record LegalPromise (profile : Profile) (s : Settings) (legal : LegalSettings profile s) (v : ℕ) : Type 0 where
  pub row_value : (zone command : ℕ) (row : Row) → RowIn profile zone command row → is_answer row v ≡ true → LegalSettings profile (put s (value zone command) v)
  pub input_value : (i : ℕ) → ((zone command : ℕ) (row : Row) → RowIn profile zone command row → row.pair ≡ true → is_pair row i v ≡ true)
      → LegalSettings profile (put s (input i) v)
  pub current_input : ((zone command : ℕ) (row : Row) → RowIn profile zone command row → row.pair ≡ true → is_answer row v ≡ true)
      → LegalSettings profile (put s current v)

-- legal settings there are, in either profile: what is promised of legal ones is promised of some
pub record SomeLegalPromise (profile : Profile) : Type 0 where
  pub settings : Settings
  pub legal : LegalSettings profile settings
