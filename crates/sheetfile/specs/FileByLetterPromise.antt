-- Promise: what the doors by letter and bytes say of a sheet's file is what the doors of lines say of its lines; and 12, "before all
-- others", for a letter that names no profile.
use Rattle.std.specs.Prelude.{◌≡◌, List, ℕ, Ok, Result}
use Rattle.row.specs.Profile.{profile_of}
use Rattle.row.specs.declared.profile.Profile.{Profile}
use Rattle.sheet.specs.Check.{sheet_verdict}
use Rattle.sheetfile.specs.File.{file_of}
use Rattle.sheetfile.specs.Written.{file_answered, file_left, run_answered, run_left, sheet_written_number, sheet_written_place}
use Rattle.sheetfile.specs.ByLetter.{file_verdict_by, copy_answered, copy_left, file_run_answered, file_run_left}
use Rattle.sheet.specs.SheetPromise.{Says}
use Rattle.sheet.specs.declared.line.Line.{Line}
use Rattle.refusals.specs.declared.refusal.Fault.{Fault}

abbrev pub Wrote : Result ℕ Fault → ℕ → ℕ → Type 0
Wrote w n i = (sheet_written_number w ≡ n) × (sheet_written_place w ≡ i)

pub record FileByLetterPromise (letter : ℕ) (profile : Profile) (named : profile_of letter ≡ Ok profile) (ls : List Line) (buf : List ℕ) (at : ℕ) : Type 0 where
  pub check : file_verdict_by (profile_of letter) (file_of profile ls) ≡ sheet_verdict profile ls
  pub copy : (copy_answered (profile_of letter) (file_of profile ls) buf at ≡ file_answered profile ls buf at)
      × (copy_left (profile_of letter) (file_of profile ls) buf at ≡ file_left profile ls buf at)
  pub run : (file_run_answered (profile_of letter) (file_of profile ls) buf at ≡ run_answered profile ls buf at)
      × (file_run_left (profile_of letter) (file_of profile ls) buf at ≡ run_left profile ls buf at)

pub record FileOtherLetter (letter : ℕ) (file buf : List ℕ) (at : ℕ) : Type 0 where
  pub check : (letter ≡ 0x41 → ⊥) → (letter ≡ 0x53 → ⊥) → Says (file_verdict_by (profile_of letter) file) 12 0
  pub copy : (letter ≡ 0x41 → ⊥) → (letter ≡ 0x53 → ⊥) → Wrote (copy_answered (profile_of letter) file buf at) 12 0 × (copy_left (profile_of letter) file buf at ≡ buf)
  pub run : (letter ≡ 0x41 → ⊥) → (letter ≡ 0x53 → ⊥) → Wrote (file_run_answered (profile_of letter) file buf at) 12 0 × (file_run_left (profile_of letter) file buf at ≡ buf)
