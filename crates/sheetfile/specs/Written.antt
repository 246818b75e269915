-- Document 01, 'Sheet, sheet file and run': "Writing a run or a sheet file makes the sheet's checks first, then 9."
use Rattle.std.specs.Prelude.{ℕ, List, [], Err, Ok, Result}
use Rattle.lent.specs.Written.{write_answered, write_left}
use Rattle.row.specs.declared.profile.Profile.{Profile}
use Rattle.sheet.specs.Check.{sheet_verdict}
use Rattle.sheetfile.specs.File.{file_of}
use Rattle.sheetfile.specs.Run.{run_of}
use Rattle.sheet.specs.declared.line.Line.{Line}
use Rattle.refusals.specs.declared.refusal.Refusal.{Refusal}
use Rattle.refusals.specs.declared.refusal.Fault.{Fault}
use Rattle.refusals.specs.Refusal.{number, fault}

-- 9 has no place
abbrev pub as_sheet : Result ℕ Refusal → Result ℕ Fault
as_sheet (Ok count) = Ok count
as_sheet (Err e) = Err (fault e 0)

-- the answer to writing these bytes for a sheet of this verdict: its refusal, or how many were written, or 9
abbrev pub sheet_answered : Result (Unit {0}) Fault → List ℕ → ℕ → List ℕ → Result ℕ Fault
sheet_answered (Ok u) buf at bytes = as_sheet (write_answered [] buf at bytes)
sheet_answered (Err f) buf at bytes = Err f

-- the buffer after it: as it was where it is refused
abbrev pub sheet_left : Result (Unit {0}) Fault → List ℕ → ℕ → List ℕ → List ℕ
sheet_left (Ok u) buf at bytes = write_left [] buf at bytes
sheet_left (Err f) buf at bytes = buf

-- a sheet file
abbrev pub file_answered : Profile → List Line → List ℕ → ℕ → Result ℕ Fault
file_answered profile ls buf at = sheet_answered (sheet_verdict profile ls) buf at (file_of profile ls)

abbrev pub file_left : Profile → List Line → List ℕ → ℕ → List ℕ
file_left profile ls buf at = sheet_left (sheet_verdict profile ls) buf at (file_of profile ls)

-- a run
abbrev pub run_answered : Profile → List Line → List ℕ → ℕ → Result ℕ Fault
run_answered profile ls buf at = sheet_answered (sheet_verdict profile ls) buf at (run_of ls)

abbrev pub run_left : Profile → List Line → List ℕ → ℕ → List ℕ
run_left profile ls buf at = sheet_left (sheet_verdict profile ls) buf at (run_of ls)

-- the number, the place and the count of bytes; 0 stands for accepted
abbrev pub sheet_written_number : Result ℕ Fault → ℕ
sheet_written_number (Ok count) = 0
sheet_written_number (Err f) = number f.refusal

abbrev pub sheet_written_place : Result ℕ Fault → ℕ
sheet_written_place (Ok count) = 0
sheet_written_place (Err f) = f.place

abbrev pub sheet_written_count : Result ℕ Fault → ℕ
sheet_written_count (Ok count) = count
sheet_written_count (Err f) = 0
