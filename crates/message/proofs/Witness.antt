-- Every row of both profiles has a legal command and a legal answer, computed over the whole table.
use mathlib.Core.Path.{◌≡◌, refl}
use mathlib.Core.Bool.{Bool, true, cond, ◌&&◌}
use mathlib.Core.List.{List, [], ◌∷◌, map}
use Prim.Native.Nat.{ℕ}
use lib.Dec.{eqb}
use lib.ListN.{length}
use Rattle.frame.specs.declared.direction.Direction.{Direction}
use Rattle.frame.specs.declared.direction.Direction.TheVariants.{Command, Answer}
use Rattle.row.specs.Table.{table, first_row}
use Rattle.row.specs.declared.profile.Profile.TheVariants.{A, S}
use Rattle.row.specs.declared.table.Row.{Row}
use Rattle.judging.specs.Judge.{has_length, has_value, judged_of}
use Rattle.message.proofs.Tidy.{every}
use Rattle.std.specs.Prelude.{Ok, Result}
use Rattle.refusals.specs.declared.refusal.Refusal.{Refusal}

-- the request, and the row's lowest answer code, with 00 in the pair row
abbrev pub sample : Direction → Row → List ℕ
sample Command row = 0xF0 ∷ []
sample Answer row = row.answers.low ∷ cond row.pair (0x00 ∷ []) []

abbrev pub fits : Direction → Row → Bool
fits dir row = has_length dir row (length (sample dir row)) && has_value dir row (sample dir row)

pub rows_fit : every (λ row. fits Command row && fits Answer row) table ≡ true
unfolding table
rows_fit = refl

-- in zone 1 each row's sample is judged legal, by that row
abbrev pub judged : Direction → Row → Result Row Refusal
judged dir row = judged_of (cond (eqb row.profile 0x41) A S) dir 1 row.code (sample dir row)

pub rows_judged : (dir : Direction) → map (judged dir) table ≡ map Ok table
unfolding table first_row judged_of
rows_judged Command = refl
rows_judged Answer = refl
