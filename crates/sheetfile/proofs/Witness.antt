-- Sheets that are accepted, and sheets at fault, computed from the definitions.
use mathlib.Core.Path.{◌≡◌, refl}
use mathlib.Core.List.{List, [], ◌∷◌, ◌++◌, map}
use Prim.Native.Nat.{ℕ}
use lib.ListN.{take, drop, replicate}
use Rattle.frame.specs.Frame.{frame_of}
use Rattle.row.specs.Table.{table, first_row}
use Rattle.row.specs.declared.profile.Profile.{Profile}
use Rattle.row.specs.declared.profile.Profile.TheVariants.{A, S}
use Rattle.judging.specs.Judge.{row_judged}
use Rattle.sheet.specs.Line.{is_legal, is_repeated}
use Rattle.lists.specs.InOrder.{in_order}
use Rattle.sheet.specs.Check.{lowest_fault, sheet_verdict}
use Rattle.sheetfile.specs.File.{records, lines_in, lowest_wrong, file_of, file_verdict}
use Rattle.sheetfile.specs.Run.{run_of}
use Rattle.sheet.specs.declared.line.Line.{Line}
use Rattle.std.specs.Prelude.{Err, Ok, Result}
use Rattle.refusals.specs.declared.refusal.Refusal.TheVariants.{IllegalLine, RepeatedLine, TooManyLines, WrongFile}
use Rattle.refusals.specs.declared.refusal.Fault.{Fault}
use Rattle.refusals.specs.Refusal.{fault}

abbrev pub line : ℕ → ℕ → ℕ → Line
line zone command value = record { zone = zone; command = command; value = value }

-- document 02, C-15: "A full profile A sheet has fifteen lines": all of its sheet rows in three zones; no value is 00
abbrev pub fifteen : List Line
fifteen =
    line 1 0x38 0x02 ∷ line 2 0x38 0x01 ∷ line 3 0x38 0x02
    ∷ line 1 0x39 0xFF ∷ line 2 0x39 0x0A ∷ line 3 0x39 0x05
    ∷ line 1 0x3A 0x85 ∷ line 2 0x3A 0x0F ∷ line 3 0x3A 0x8F
    ∷ line 1 0x45 0x8A ∷ line 2 0x45 0x81 ∷ line 3 0x45 0xA8
    ∷ line 1 0x46 0x8A ∷ line 2 0x46 0x0A ∷ line 3 0x46 0x81
    ∷ []

-- eight lines of S: all of its sheet rows in both zones
abbrev eight : List Line
eight =
    line 1 0x0D 0x0D ∷ line 2 0x0D 0x63
    ∷ line 1 0x0E 0x00 ∷ line 2 0x0E 0x01
    ∷ line 1 0x5B 0x00 ∷ line 2 0x5B 0x09
    ∷ line 1 0x5C 0x63 ∷ line 2 0x5C 0x00
    ∷ []

pub fifteen_accepted : sheet_verdict A fifteen ≡ Ok tt
unfolding sheet_verdict lowest_fault is_legal is_repeated row_judged first_row table
fifteen_accepted = refl

pub eight_accepted : sheet_verdict S eight ≡ Ok tt
unfolding sheet_verdict lowest_fault is_legal is_repeated row_judged first_row table
eight_accepted = refl

pub none_accepted : sheet_verdict A [] ≡ Ok tt
unfolding sheet_verdict lowest_fault
none_accepted = refl

-- what the first 16 to 24 of some lines are: within the limit, and more than a family has zones and sheet rows for
abbrev longer : Profile → List Line → List (Result (Unit {0}) Fault)
longer profile ls =
    map (λ (n : ℕ). sheet_verdict profile (take n ls)) (16 ∷ 17 ∷ 18 ∷ 19 ∷ 20 ∷ 21 ∷ 22 ∷ 23 ∷ 24 ∷ [])

-- behind a full sheet its lines again are 8, and lines that are not legal 7, at the first line too many
pub repeats_refused : (longer A (fifteen ++ fifteen) ≡ replicate 9 (Err (fault RepeatedLine 15))) × (longer S (eight ++ eight ++ eight) ≡ replicate 9 (Err (fault RepeatedLine 8)))
unfolding sheet_verdict lowest_fault is_legal is_repeated row_judged first_row table
repeats_refused = (refl, refl)

pub illegal_refused : (longer A (fifteen ++ replicate 9 (line 4 0x38 0x02)) ≡ replicate 9 (Err (fault IllegalLine 15)))
    × (longer S (eight ++ replicate 16 (line 3 0x0D 0x0D)) ≡ replicate 9 (Err (fault IllegalLine 8)))
unfolding sheet_verdict lowest_fault is_legal is_repeated row_judged first_row table
illegal_refused = (refl, refl)

-- the lowest fault; 7 before 8 on one line
pub lowest_refused : sheet_verdict A (line 1 0x38 0x02 ∷ line 1 0x38 0x01 ∷ line 1 0x37 0x00 ∷ []) ≡ Err (fault RepeatedLine 1)
unfolding sheet_verdict lowest_fault is_legal is_repeated row_judged first_row table
lowest_refused = refl

pub seven_refused : sheet_verdict S (line 1 0x0E 0x01 ∷ line 1 0x0E 0x02 ∷ []) ≡ Err (fault IllegalLine 1)
unfolding sheet_verdict lowest_fault is_legal is_repeated row_judged first_row table
seven_refused = refl

-- values that a sheet may not hold, and Leveller off, which it may: one line each, with what its check says
abbrev judged : List (Result (Unit {0}) Fault)
judged =
    sheet_verdict S (line 1 0x0E 0x02 ∷ [])
    ∷ sheet_verdict S (line 1 0x0E 0xF0 ∷ [])
    ∷ sheet_verdict S (line 1 0x37 0x03 ∷ [])
    ∷ sheet_verdict S (line 1 0x5B 0x01 ∷ [])
    ∷ sheet_verdict A (line 1 0x3A 0x80 ∷ [])
    ∷ sheet_verdict A (line 1 0x39 0xFF ∷ [])
    ∷ []

pub values_judged : judged ≡ Err (fault IllegalLine 0) ∷ Err (fault IllegalLine 0) ∷ Err (fault IllegalLine 0) ∷ Err (fault IllegalLine 0) ∷ Err (fault IllegalLine 0) ∷ Ok tt ∷ []
unfolding sheet_verdict lowest_fault is_legal is_repeated row_judged first_row table
values_judged = refl

-- document 02, C-14: "sheets refuse 80 with 7 as before", in each of the three sheet rows that take it in commands; "A 45 runs to A8 ..
-- on sheets too"
pub minus_zeros_judged : map (λ (command : ℕ). sheet_verdict A (line 1 command 0x80 ∷ [])) (0x3A ∷ 0x45 ∷ 0x46 ∷ []) ≡ replicate 3 (Err (fault IllegalLine 0))
unfolding sheet_verdict lowest_fault is_legal is_repeated row_judged first_row table
minus_zeros_judged = refl

pub trims_judged : map (λ (v : ℕ). sheet_verdict A (line 1 0x45 v ∷ [])) (0x00 ∷ 0x81 ∷ 0x8B ∷ 0xA8 ∷ 0xA9 ∷ 0x01 ∷ [])
    ≡ Ok tt ∷ Ok tt ∷ Ok tt ∷ Ok tt ∷ Err (fault IllegalLine 0) ∷ Err (fault IllegalLine 0) ∷ []
unfolding sheet_verdict lowest_fault is_legal is_repeated row_judged first_row table
trims_judged = refl

-- the file and the run of one line; a file of the other family; a file that is not whole; the order of 10 and 6
pub file_computed : file_of A (line 2 0x3A 0x85 ∷ []) ≡ 0x53 ∷ 0x4C ∷ 0x41 ∷ 0x02 ∷ 0x3A ∷ 0x85 ∷ []
unfolding in_order
file_computed = refl

pub run_computed : drop 255 (run_of (line 2 0x3A 0x85 ∷ line 1 0x0D 0x0D ∷ [])) ≡ 0x21 ∷ 0x02 ∷ 0x3A ∷ 0x01 ∷ 0x85 ∷ 0x0D ∷ 0x21 ∷ 0x01 ∷ 0x0D ∷ 0x01 ∷ 0x0D ∷ 0x0D ∷ []
unfolding run_of in_order frame_of
run_computed = refl

pub zeros_computed : take 255 (run_of (line 2 0x3A 0x85 ∷ [])) ≡ replicate 255 0
unfolding run_of
zeros_computed = refl

abbrev files_judged : List (Result (Unit {0}) Fault)
files_judged =
    file_verdict A []
    ∷ file_verdict A (0x53 ∷ 0x4C ∷ 0x53 ∷ 0x01 ∷ 0x0D ∷ 0x0D ∷ [])
    ∷ file_verdict A (0x53 ∷ 0x4C ∷ 0x41 ∷ 0x01 ∷ 0x38 ∷ 0x02 ∷ 0x53 ∷ [])
    ∷ file_verdict A (0x53 ∷ 0x4D ∷ 0x41 ∷ 0x01 ∷ 0x38 ∷ 0x02 ∷ [])
    ∷ file_verdict A (file_of A (replicate 24 (line 1 0x38 0x02)))
    ∷ file_verdict A (file_of A (replicate 25 (line 1 0x38 0x02)))
    ∷ file_verdict A (file_of A (replicate 25 (line 1 0x38 0x02)) ++ 0x53 ∷ 0x4C ∷ 0x53 ∷ 0x01 ∷ 0x0D ∷ 0x0D ∷ [])
    ∷ file_verdict A (file_of A fifteen)
    ∷ []

pub files_judged_lem : files_judged ≡ Ok tt ∷ Err (fault WrongFile 0) ∷ Err (fault WrongFile 1) ∷ Err (fault WrongFile 0) ∷ Err (fault RepeatedLine 1) ∷ Err (fault TooManyLines 24) ∷ Err (fault WrongFile 25) ∷ Ok tt ∷ []
unfolding file_verdict lowest_wrong records lines_in in_order sheet_verdict lowest_fault is_legal is_repeated row_judged first_row table
files_judged_lem = refl
