-- Document 01, 'Sheet, sheet file and run': "Checks: 6, then the lowest line at fault, 7 before 8 on that line."
use Rattle.std.specs.Prelude.{ℕ, not, List, [], ◌∷◌, ◌++◌, ltb, length, Err, Ok, Result}
use Rattle.refusals.specs.Rule as refusal
use Rattle.refusals.specs.Rule.{rule, ruled}
use Rattle.row.specs.declared.profile.Profile.{Profile}
use Rattle.sheet.specs.Line.{is_legal, is_repeated}
use Rattle.sheet.specs.Sheet.{sheet_limit}
use Rattle.sheet.specs.declared.line.Line.{Line}
use Rattle.refusals.specs.declared.refusal.Refusal.TheVariants.{IllegalLine, RepeatedLine, TooManyLines}
use Rattle.refusals.specs.declared.refusal.Fault.{Fault}
use Rattle.refusals.specs.Refusal.{number, fault}

-- a line's faults behind some lines, "7 before 8 on that line"
abbrev pub faults : Profile → List Line → Line → List refusal.Rule
faults profile earlier l = rule IllegalLine (not (is_legal profile l)) ∷ rule RepeatedLine (is_repeated earlier l) ∷ []

-- "the lowest line at fault", with its index
unfoldable pub lowest_fault : Profile → List Line → List Line → Result (Unit {0}) Fault
lowest_fault profile earlier [] = Ok tt
lowest_fault profile earlier (l ∷ ls) =
    ruled (faults profile earlier l) (λ e. Err (fault e (length earlier))) (lowest_fault profile (earlier ++ l ∷ []) ls)

-- 6: a sheet of more lines than the limit; document 02, C-15: "6 now from 25 lines"; its place is the limit
abbrev pub over_limit : List Line → Result (Unit {0}) Fault
over_limit ls = ruled (rule TooManyLines (ltb sheet_limit (length ls)) ∷ []) (λ e. Err (fault e sheet_limit)) (Ok tt)

-- "then": the first of two verdicts that refuses
abbrev pub first_refusal : Result (Unit {0}) Fault → Result (Unit {0}) Fault → Result (Unit {0}) Fault
first_refusal (Ok u) v = v
first_refusal (Err f) v = Err f

unfoldable pub sheet_verdict : Profile → List Line → Result (Unit {0}) Fault
sheet_verdict profile ls = first_refusal (over_limit ls) (lowest_fault profile [] ls)

-- the number and the place that a verdict gives; "accepted" is 0
abbrev pub verdict_number : Result (Unit {0}) Fault → ℕ
verdict_number (Ok u) = 0
verdict_number (Err f) = number f.refusal

abbrev pub verdict_place : Result (Unit {0}) Fault → ℕ
verdict_place (Ok u) = 0
verdict_place (Err f) = f.place
