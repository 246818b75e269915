-- Document 01, 'Commands of the two profiles': "† marks a sheet row: its legal sheet values are the setting codes, without request,
-- steps or toggle"; 'Sheet, sheet file and run': "A sheet comes as a list of lines, each a zone, a command and a value"; document 02, C-14:
-- "sheets refuse 80 with 7 as before".
use Rattle.std.specs.Prelude.{ℕ, Bool, false, not, ◌&&◌, ◌||◌, List, [], ◌∷◌, eqb, Err, Ok, Result}
use Rattle.row.specs.MinusZero.{is_minus_zero}
use Rattle.row.specs.declared.profile.Profile.{Profile}
use Rattle.row.specs.declared.table.Row.{Row}
use Rattle.judging.specs.Judge.{is_setting, row_judged}
use Rattle.sheet.specs.declared.line.Line.{Line}
use Rattle.refusals.specs.declared.refusal.Refusal.{Refusal}

abbrev pub is_sheet_value : Row → ℕ → Bool
is_sheet_value row value = row.sheet && (not (is_minus_zero row value) && is_setting row value)

-- the value is a sheet value of the row that was found for its zone
abbrev pub legal_in : Result Row Refusal → ℕ → Bool
legal_in (Ok row) value = is_sheet_value row value
legal_in (Err e) value = false

-- 7: "sheet line whose zone, row or value is not legal for a sheet"
unfoldable pub is_legal : Profile → Line → Bool
is_legal profile l = legal_in (row_judged profile l.zone l.command) l.value

-- 8: "sheet line with the zone and row of an earlier line"
abbrev pub same_cell : Line → Line → Bool
same_cell a b = eqb a.zone b.zone && eqb a.command b.command

unfoldable pub is_repeated : List Line → Line → Bool
is_repeated [] l = false
is_repeated (e ∷ es) l = same_cell e l || is_repeated es l
