-- Promise: document 01, 'Sheet, sheet file and run': "Checks: 6, then the lowest line at fault, 7 before 8 on that line." Where a
-- sheet is refused with 7 or 8, that line is at fault by that number and none before it is; it is accepted exactly when it has no
-- more lines than the limit and none is at fault. Lines that are brought together by value are checked as the list that they are,
-- and within the limit they are kept: each as it came, in order.
use Rattle.std.specs.Prelude.{◌≡◌, true, false, List, [], ◌∷◌, ◌++◌, ◌⊎◌, ℕ, zero, suc, ◌≤◌, ◌<◌, length, Ok, Result}
use Rattle.refusals.specs.Refusal.{number}
use Rattle.refusals.specs.declared.refusal.Refusal.{Refusal}
use Rattle.refusals.specs.declared.refusal.Refusal.TheVariants.{IllegalLine, RepeatedLine}
use Rattle.refusals.specs.declared.refusal.Fault.{Fault}
use Rattle.row.specs.declared.profile.Profile.{Profile}
use Rattle.sheet.specs.Line.{is_legal, is_repeated}
use Rattle.sheet.specs.Sheet.{sheet_limit, no_lines, with_all, lines_of}
use Rattle.sheet.specs.Check.{sheet_verdict, verdict_number, verdict_place}
use Rattle.sheet.specs.declared.line.Line.{Line}

-- a line behind some others: at fault by a refusal, 7 before 8, or sound
abbrev pub AtFault : Profile → List Line → Line → Refusal → Type 0
AtFault profile earlier l e =
    ((is_legal profile l ≡ false) × (e ≡ IllegalLine)) ⊎ ((is_legal profile l ≡ true) × (is_repeated earlier l ≡ true) × (e ≡ RepeatedLine))

abbrev pub Sound : Profile → List Line → Line → Type 0
Sound profile earlier l = (is_legal profile l ≡ true) × (is_repeated earlier l ≡ false)

-- the line at an index is at fault, and each before it is sound
abbrev pub LowestFault : Profile → List Line → List Line → ℕ → Refusal → Type 0
LowestFault profile earlier [] i e = ⊥
LowestFault profile earlier (l ∷ ls) zero e = AtFault profile earlier l e
LowestFault profile earlier (l ∷ ls) (suc i) e = Sound profile earlier l × LowestFault profile (earlier ++ l ∷ []) ls i e

abbrev pub AllSound : Profile → List Line → List Line → Type 0
AllSound profile earlier [] = Unit {0}
AllSound profile earlier (l ∷ ls) = Sound profile earlier l × AllSound profile (earlier ++ l ∷ []) ls

-- a verdict's number and place
abbrev pub Says : Result (Unit {0}) Fault → ℕ → ℕ → Type 0
Says v n i = (verdict_number v ≡ n) × (verdict_place v ≡ i)

pub record SheetPromise (profile : Profile) (ls : List Line) : Type 0 where
  pub long : sheet_limit < length ls → Says (sheet_verdict profile ls) 6 sheet_limit
  pub fault : length ls ≤ sheet_limit → (i : ℕ) (e : Refusal) → LowestFault profile [] ls i e → Says (sheet_verdict profile ls) (number e) i
  pub sound : length ls ≤ sheet_limit → AllSound profile [] ls → (sheet_verdict profile ls ≡ Ok tt) × Says (sheet_verdict profile ls) 0 0
  pub either : ((i : ℕ) × (e : Refusal) × LowestFault profile [] ls i e) ⊎ AllSound profile [] ls
  pub only : sheet_verdict profile ls ≡ Ok tt → (length ls ≤ sheet_limit) × AllSound profile [] ls
  pub together : sheet_verdict profile (lines_of (with_all no_lines ls)) ≡ sheet_verdict profile ls
  pub kept : length ls ≤ sheet_limit → lines_of (with_all no_lines ls) ≡ ls
