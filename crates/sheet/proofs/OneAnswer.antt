-- The contract of each public function that these definitions are for, here or in the crate of its code, admits one answer.
use mathlib.Core.Path.{◌≡◌}
use Prim.Native.Nat.{ℕ}
use Rattle.refusals.specs.OneAnswer.{OneAnswer}
use Rattle.refusals.proofs.One.{one}
use Rattle.row.specs.declared.profile.Profile.{Profile}
use Rattle.row.specs.declared.table.Row.{Row}
use Rattle.sheet.specs.Line.{is_sheet_value, is_legal}
use Rattle.sheet.specs.Sheet.{no_lines, with_line, lines_of}
use Rattle.sheet.specs.Check.{sheet_verdict}
use Rattle.sheet.specs.declared.line.Line.{Line}
use Rattle.sheet.specs.declared.sheet.Sheet.{Sheet}

pub is_legal_one : (profile : Profile) (line : Line) → OneAnswer (λ x. x ≡ is_legal profile line)
is_legal_one profile line = one (is_legal profile line)

pub is_sheet_value_one : (row : Row) (value : ℕ) → OneAnswer (λ x. x ≡ is_sheet_value row value)
is_sheet_value_one row value = one (is_sheet_value row value)

pub no_lines_one : OneAnswer (λ x. x ≡ no_lines)
no_lines_one = one no_lines

pub with_line_one : (sheet : Sheet) (line : Line) → OneAnswer (λ x. x ≡ with_line sheet line)
with_line_one sheet line = one (with_line sheet line)

pub checked_one : (profile : Profile) (sheet : Sheet) → OneAnswer (λ x. x ≡ sheet_verdict profile (lines_of sheet))
checked_one profile sheet = one (sheet_verdict profile (lines_of sheet))
