-- Document 01, 'Sheet, sheet file and run', of a sheet that comes as the bytes of its sheet file, by the profile's letter: 12 "before all others", then the file's
-- refusals, and for writing 9.
use Rattle.std.specs.Prelude.{ℕ, List, Err, Ok, Result}
use Rattle.sheetfile.specs.File.{records, lines_in, file_verdict}
use Rattle.sheetfile.specs.Run.{run_of}
use Rattle.sheetfile.specs.Written.{sheet_answered, sheet_left}
use Rattle.refusals.specs.declared.refusal.Refusal.{Refusal}
use Rattle.refusals.specs.declared.refusal.Fault.{Fault}
use Rattle.refusals.specs.Refusal.{fault}
use Rattle.row.specs.declared.profile.Profile.{Profile}

abbrev pub file_verdict_by : Result Profile Refusal → List ℕ → Result (Unit {0}) Fault
file_verdict_by (Ok profile) file = file_verdict profile file
file_verdict_by (Err e) file = Err (fault e 0)

-- an accepted file is written as it is
abbrev pub copy_answered : Result Profile Refusal → List ℕ → List ℕ → ℕ → Result ℕ Fault
copy_answered family file buf at = sheet_answered (file_verdict_by family file) buf at file

abbrev pub copy_left : Result Profile Refusal → List ℕ → List ℕ → ℕ → List ℕ
copy_left family file buf at = sheet_left (file_verdict_by family file) buf at file

-- the run of an accepted file's lines
abbrev pub file_run_answered : Result Profile Refusal → List ℕ → List ℕ → ℕ → Result ℕ Fault
file_run_answered family file buf at = sheet_answered (file_verdict_by family file) buf at (run_of (lines_in (records file)))

abbrev pub file_run_left : Result Profile Refusal → List ℕ → List ℕ → ℕ → List ℕ
file_run_left family file buf at = sheet_left (file_verdict_by family file) buf at (run_of (lines_in (records file)))
