-- What the private functions of `sheetfile_code` compute. Nothing here need be believed: proofs/ ties each form to the definitions.
use Rattle.std.specs.Prelude.{ℕ, cond, List, map, eqb, get_or}
use Rattle.row.specs.declared.profile.Profile.{Profile}
use Rattle.sheetfile.specs.File.{Record, record_of, records, file_of, lines_in}
use Rattle.sheetfile.specs.Run.{flush, line_frame, run_of}
use Rattle.sheet.specs.declared.line.Line.{Line}
use Rattle.sheetfile.specs.declared.write.Form.{Form}
use Rattle.sheetfile.specs.declared.write.Form.TheVariants as form

-- the record that six bytes are, and the records that some pieces of six bytes are
abbrev pub record_in : List ℕ → Record
record_in bytes = record {
  first = get_or bytes 0 0;
  second = get_or bytes 1 0;
  family = get_or bytes 2 0;
  zone = get_or bytes 3 0;
  command = get_or bytes 4 0;
  value = get_or bytes 5 0;
}

abbrev pub records_in : List (List ℕ) → List Record
records_in pieces = map record_in pieces

-- a file or a run: the zeros before so many lines, and the bytes of a line
abbrev pub flush_of : ℕ → ℕ
flush_of count = cond (eqb count 0) 0 flush

abbrev pub zeros_of : Form → ℕ → ℕ
zeros_of form.File count = 0
zeros_of form.Run count = flush_of count

abbrev pub bytes_of : Form → Profile → Line → List ℕ
bytes_of form.File profile l = record_of profile l
bytes_of form.Run profile l = line_frame l

-- what a sheet is written as
abbrev pub sheet_bytes : Form → Profile → List Line → List ℕ
sheet_bytes form.File profile ls = file_of profile ls
sheet_bytes form.Run profile ls = run_of ls

-- what an accepted file is written as: itself, or the run of its lines
abbrev pub file_as : Form → List ℕ → List ℕ
file_as form.File file = file
file_as form.Run file = run_of (lines_in (records file))
