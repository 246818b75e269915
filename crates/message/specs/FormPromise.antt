-- Promise: in each row and direction every legal data have exactly one typed form, and every form of the row is that of legal data. A
-- form's data are those that it was read from, but for minus zero (document 02, C-14), and are never minus zero.
use Rattle.std.specs.Prelude.{◌≡◌, true, false, List, map, ℕ, length, Some}
use Rattle.frame.specs.declared.direction.Direction.{Direction}
use Rattle.lists.specs.Each.{Each}
use Rattle.row.specs.MinusZero.{is_minus_zero, normal}
use Rattle.row.specs.Table.{row_of}
use Rattle.row.specs.declared.profile.Profile.{Profile}
use Rattle.row.specs.declared.table.Row.{Row}
use Rattle.judging.specs.Judge.{has_data}
use Rattle.message.specs.Content.{content_of, encoded_of, encoded_data, size_of, is_form}
use Rattle.message.specs.declared.content.Content.{Content}

pub record FormPromise : Type 0 where
  -- legal data say a form of the row, and that form's data are these, 80 as 00 in the rows that have it
  pub read : (profile : Profile) (command : ℕ) (row : Row) (dir : Direction) (body : List ℕ) → row_of profile command ≡ Some row → has_data dir row body ≡ true
      → (is_form dir row (content_of dir row body) ≡ true) × (encoded_data (encoded_of row (content_of dir row body)) ≡ map (normal row) body)
  -- a form of the row has legal data, and they say it
  pub written : (profile : Profile) (command : ℕ) (row : Row) (dir : Direction) (content : Content) → row_of profile command ≡ Some row → is_form dir row content ≡ true
      → (has_data dir row (encoded_data (encoded_of row content)) ≡ true) × (length (encoded_data (encoded_of row content)) ≡ size_of content) × (content_of dir row (encoded_data (encoded_of row content)) ≡ content)
  -- "We still write 00."
  pub never : (profile : Profile) (command : ℕ) (row : Row) (dir : Direction) (content : Content) → row_of profile command ≡ Some row → is_form dir row content ≡ true
      → Each (λ (b : ℕ). is_minus_zero row b ≡ false) (encoded_data (encoded_of row content))
