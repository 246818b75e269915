-- Promise: writing a sheet file or a run puts all of its bytes into their place and changes no other, or refuses and changes
-- nothing: "the sheet's checks first, then 9". Of a refusal every field but its number and place is zero.
use Rattle.std.specs.Prelude.{◌≡◌, List, [], ℕ, ◌+◌, ◌*◌, ◌≤◌, ◌<◌, length, take, drop, Err, Ok, Result}
use Rattle.row.specs.declared.profile.Profile.{Profile}
use Rattle.sheet.specs.Sheet.{sheet_limit, lines_of}
use Rattle.sheet.specs.Check.{sheet_verdict}
use Rattle.sheetfile.specs.File.{record_size, file_of, file_read}
use Rattle.sheetfile.specs.Run.{flush, run_of}
use Rattle.sheetfile.specs.Written.{sheet_answered, sheet_left, file_left, sheet_written_number, sheet_written_count}
use Rattle.sheet.specs.declared.line.Line.{Line}
use Rattle.sheet.specs.declared.sheet.Sheet.{Sheet}
use Rattle.refusals.specs.declared.refusal.Refusal.TheVariants.{NoRoom}
use Rattle.refusals.specs.declared.refusal.Fault.{Fault}
use Rattle.refusals.specs.Refusal.{fault}

-- of any bytes that are written for a sheet of this verdict
pub record WrittenPromise (v : Result (Unit {0}) Fault) (buf : List ℕ) (at : ℕ) (bytes : List ℕ) : Type 0 where
  pub checks : (f : Fault) → v ≡ Err f → sheet_answered v buf at bytes ≡ Err f
  pub past : v ≡ Ok tt → length buf < at → sheet_answered v buf at bytes ≡ Err (fault NoRoom 0)
  pub few : v ≡ Ok tt → at ≤ length buf → length buf < at + length bytes → sheet_answered v buf at bytes ≡ Err (fault NoRoom 0)
  pub kept : (f : Fault) → sheet_answered v buf at bytes ≡ Err f → (sheet_left v buf at bytes ≡ buf) × (sheet_written_count (sheet_answered v buf at bytes) ≡ 0)
  pub said : v ≡ Ok tt → at + length bytes ≤ length buf → sheet_answered v buf at bytes ≡ Ok (length bytes)
  pub counted : v ≡ Ok tt → at + length bytes ≤ length buf
      → (sheet_written_number (sheet_answered v buf at bytes) ≡ 0) × (sheet_written_count (sheet_answered v buf at bytes) ≡ length bytes)
  pub there : v ≡ Ok tt → at + length bytes ≤ length buf → take (length bytes) (drop at (sheet_left v buf at bytes)) ≡ bytes
  pub before : take at (sheet_left v buf at bytes) ≡ take at buf
  pub after : drop (at + length bytes) (sheet_left v buf at bytes) ≡ drop (at + length bytes) buf

-- "255 zeros for a sheet with at least one line, none for an empty sheet", and six bytes a line, so that one buffer has room for any
-- accepted sheet's run; a file has six bytes a line, and one that was written reads back from its place in the buffer
pub record SizePromise (profile : Profile) (ls : List Line) : Type 0 where
  pub run : 0 < length ls → length (run_of ls) ≡ flush + record_size * length ls
  pub empty : run_of [] ≡ []
  pub room : sheet_verdict profile ls ≡ Ok tt → length (run_of ls) ≤ flush + record_size * sheet_limit
  pub file : length (file_of profile ls) ≡ record_size * length ls
  pub back : (buf : List ℕ) (at : ℕ) → sheet_verdict profile ls ≡ Ok tt → at + record_size * length ls ≤ length buf
      → (s : Sheet) × (file_read profile (take (record_size * length ls) (drop at (file_left profile ls buf at))) ≡ Ok s) × (lines_of s ≡ ls)
