-- The limit's number: the promises name it and never say it, so it is computed, of sheets below it, at it and over it.
use mathlib.Core.Path.{◌≡◌, refl}
use mathlib.Core.List.{[], ◌∷◌, map}
use Prim.Native.Nat.{ℕ}
use lib.ListN.{replicate}
use Rattle.row.specs.Table.{table, first_row}
use Rattle.row.specs.declared.profile.Profile.TheVariants.{A}
use Rattle.judging.specs.Judge.{row_judged}
use Rattle.sheet.specs.Line.{is_legal}
use Rattle.sheet.specs.Check.{lowest_fault, sheet_verdict}
use Rattle.std.specs.Prelude.{Err}
use Rattle.refusals.specs.declared.refusal.Refusal.TheVariants.{IllegalLine, TooManyLines}
use Rattle.refusals.specs.Refusal.{fault}

-- document 02, C-15: "6 now from 25 lines", before 7 and with the limit as its place; up to the limit the lines are judged
pub limit_judged : map (λ (n : ℕ). sheet_verdict A (replicate n (record { zone = 9; command = 0x99; value = 0x00 }))) (13 ∷ 24 ∷ 25 ∷ 40 ∷ [])
    ≡ Err (fault IllegalLine 0) ∷ Err (fault IllegalLine 0) ∷ Err (fault TooManyLines 24) ∷ Err (fault TooManyLines 24) ∷ []
unfolding sheet_verdict lowest_fault is_legal row_judged first_row table
limit_judged = refl
