-- Lines brought together by value are written as the list that they are.
use mathlib.Core.Path.{◌≡◌, refl, ap, sym, ◌∙◌}
use mathlib.Core.List.{List}
use Prim.Native.Nat.{ℕ}
use Rattle.row.specs.declared.profile.Profile.{Profile}
use Rattle.sheet.specs.Sheet.{no_lines, with_all, lines_of}
use Rattle.sheet.specs.Check.{sheet_verdict}
use Rattle.sheetfile.specs.File.{file_of}
use Rattle.sheetfile.specs.Run.{run_of}
use Rattle.sheetfile.specs.Written.{sheet_answered, sheet_left, file_answered, file_left, run_answered, run_left}
use Rattle.sheet.specs.declared.line.Line.{Line}
use Rattle.sheet.proofs.Sheets.{only, all_kept, verdict_together}
use Rattle.std.specs.Prelude.{Err, Ok, Result}
use Rattle.refusals.specs.declared.refusal.Fault.{Fault}

-- what depends on the lines of an accepted sheet alone, and is the same for every refused one
pub by_verdict : {A : Type 0} (give : Result (Unit {0}) Fault → List Line → A) → ((f : Fault) (xs ys : List Line) → give (Err f) xs ≡ give (Err f) ys)
    → (profile : Profile) (ls : List Line) → give (sheet_verdict profile (lines_of (with_all no_lines ls))) (lines_of (with_all no_lines ls)) ≡ give (sheet_verdict profile ls) ls
by_verdict {A} give refused profile ls =
    ap (λ (v : Result (Unit {0}) Fault). give v (lines_of (with_all no_lines ls))) (verdict_together profile ls) ∙ go (sheet_verdict profile ls) refl
  where
    go : (v : Result (Unit {0}) Fault) → sheet_verdict profile ls ≡ v → give (sheet_verdict profile ls) (lines_of (with_all no_lines ls)) ≡ give (sheet_verdict profile ls) ls
    go (Ok u) e = ap (give (sheet_verdict profile ls)) (all_kept ls (only profile ls e).0)
    go (Err f) e =
        ap (λ (v : Result (Unit {0}) Fault). give v (lines_of (with_all no_lines ls))) e ∙ refused f (lines_of (with_all no_lines ls)) ls ∙ ap (λ (v : Result (Unit {0}) Fault). give v ls) (sym e)

module _ (profile : Profile) (ls : List Line) (buf : List ℕ) (at : ℕ) where
  pub file_answer : file_answered profile (lines_of (with_all no_lines ls)) buf at ≡ file_answered profile ls buf at
  file_answer = by_verdict (λ v xs. sheet_answered v buf at (file_of profile xs)) (λ f xs ys. refl) profile ls

  pub file_after : file_left profile (lines_of (with_all no_lines ls)) buf at ≡ file_left profile ls buf at
  file_after = by_verdict (λ v xs. sheet_left v buf at (file_of profile xs)) (λ f xs ys. refl) profile ls

  pub run_answer : run_answered profile (lines_of (with_all no_lines ls)) buf at ≡ run_answered profile ls buf at
  run_answer = by_verdict (λ v xs. sheet_answered v buf at (run_of xs)) (λ f xs ys. refl) profile ls

  pub run_after : run_left profile (lines_of (with_all no_lines ls)) buf at ≡ run_left profile ls buf at
  run_after = by_verdict (λ v xs. sheet_left v buf at (run_of xs)) (λ f xs ys. refl) profile ls
