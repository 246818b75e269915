-- What every row of the table keeps to: a test, computed over the whole table, and what it says of a row.
use mathlib.Core.Path.{◌≡◌, refl}
use mathlib.Core.Bool.{Bool, true, false, cond, not, ◌&&◌, ◌||◌}
use mathlib.Core.List.{List, [], ◌∷◌}
use Prim.Native.Nat.{ℕ, ◌<◌}
use native.Mathlib.Omega.{arith}
use borrow.Author.Tests.{leb-true, not-true}
use lib.Dec.{leb}
use Rattle.lists.specs.Each.{Each}
use Rattle.frame.specs.declared.direction.Direction.{Direction}
use Rattle.frame.specs.declared.direction.Direction.TheVariants.{Command, Answer}
use Rattle.row.specs.MinusZero.{normal}
use Rattle.row.specs.Profile.{letter_of}
use Rattle.row.specs.Table.{table, row_of}
use Rattle.row.specs.declared.profile.Profile.{Profile}
use Rattle.row.specs.declared.table.Codes.{Codes}
use Rattle.row.specs.declared.table.Row.{Row}
use Rattle.row.proofs.Rows.{each_found}
use Rattle.judging.specs.Judge.{within, is_word}
use Rattle.message.proofs.Fits.{value_byte, in_command}
use Rattle.lists.proofs.Tests.{both, upto, upto_at}
use Rattle.std.specs.Prelude.{Some}

pub record Tidy (dir : Direction) (row : Row) : Type 0 where
  -- a value is a byte and no word of the row, and what it is turned into is a value; a row of pairs is not signed
  pub byte : (b : ℕ) → value_byte dir row b ≡ true → b < 256
  pub no_word : (b : ℕ) → value_byte dir row b ≡ true → in_command dir (is_word row b) ≡ false
  pub turned : (b : ℕ) → value_byte dir row b ≡ true → value_byte dir row (normal row b) ≡ true
  pub pairs : row.pair ≡ true → row.signed ≡ false

-- the same as tests; codes of a table of bytes are bytes
abbrev pub are_bytes : Codes → Codes → Bool
are_bytes codes more = leb codes.high 255 && leb more.high 255

abbrev byte_codes : Direction → Row → Bool
byte_codes Command row = are_bytes row.settings row.settings2
byte_codes Answer row = are_bytes row.answers row.answers2

abbrev clean : Direction → Row → ℕ → Bool
clean dir row b = cond (value_byte dir row b) (not (in_command dir (is_word row b)) && value_byte dir row (normal row b)) true

abbrev tidy : Direction → Row → Bool
tidy dir row = upto 256 (clean dir row) && (byte_codes dir row && not (row.pair && row.signed))

within_byte : (codes : Codes) (b : ℕ) → leb codes.high 255 ≡ true → within codes b ≡ true → b < 256
within_byte codes b e f = let (low, high) = both (leb codes.low b) (leb b codes.high) f in omega (arith, leb-true)

pub code_byte : (codes more : Codes) → are_bytes codes more ≡ true → (b : ℕ) → within codes b || within more b ≡ true → b < 256
code_byte codes more e b = go (within codes b) refl
  where
    go : (t : Bool) → within codes b ≡ t → t || within more b ≡ true → b < 256
    go true f h = within_byte codes b (both (leb codes.high 255) _ e).0 f
    go false f h = within_byte more b (both (leb codes.high 255) _ e).1 h

codes_byte : (dir : Direction) (row : Row) → byte_codes dir row ≡ true → (b : ℕ) → value_byte dir row b ≡ true → b < 256
codes_byte Command row = code_byte row.settings row.settings2
codes_byte Answer row = code_byte row.answers row.answers2

tidy_says : (dir : Direction) (row : Row) → tidy dir row ≡ true → Tidy dir row
tidy_says dir row e = record { byte = byte; no_word = no_word; turned = λ b v. (cleaned b v).1; pairs = pairs }
  where
    parts : (upto 256 (clean dir row) ≡ true) × (byte_codes dir row ≡ true) × (not (row.pair && row.signed) ≡ true)
    parts =
        let (values, rest) = both (upto 256 (clean dir row)) _ e in
        let (bytes, plain) = both (byte_codes dir row) _ rest in
        (values, bytes, plain)

    byte : (b : ℕ) → value_byte dir row b ≡ true → b < 256
    byte = codes_byte dir row parts.1

    cleaned : (b : ℕ) → value_byte dir row b ≡ true → (not (in_command dir (is_word row b)) ≡ true) × (value_byte dir row (normal row b) ≡ true)
    cleaned b v = both _ _ (rw v at (upto_at 256 (clean dir row) parts.0 b (byte b v)))

    no_word : (b : ℕ) → value_byte dir row b ≡ true → in_command dir (is_word row b) ≡ false
    no_word b v = not-true _ (cleaned b v).0

    pairs : row.pair ≡ true → row.signed ≡ false
    pairs p = not-true _ (rw p at parts.2)

-- what every row of the table passes, the row that is found passes
abbrev pub every : (Row → Bool) → List Row → Bool
every test [] = true
every test (row ∷ rows) = test row && every test rows

each_of : (test : Row → Bool) (rows : List Row) → every test rows ≡ true → Each (λ r. test r ≡ true) rows
each_of test [] e = tt
each_of test (row ∷ rows) e = let (here, rest) = both (test row) (every test rows) e in (here, each_of test rows rest)

pub row_passes : (test : Row → Bool) → every test table ≡ true → (profile : Profile) (command : ℕ) (row : Row) → row_of profile command ≡ Some row → test row ≡ true
row_passes test all profile command row e = each_found (λ r. test r ≡ true) table (letter_of profile) command row (each_of test table all) e

all_tidy : (dir : Direction) → every (tidy dir) table ≡ true
unfolding table upto
all_tidy Command = refl
all_tidy Answer = refl

pub row_tidy : (profile : Profile) (command : ℕ) (row : Row) → row_of profile command ≡ Some row → (dir : Direction) → Tidy dir row
row_tidy profile command row e dir = tidy_says dir row (row_passes (tidy dir) (all_tidy dir) profile command row e)
