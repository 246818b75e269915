-- Promise: document 01, 'Sheet, sheet file and run': "Order: length not a multiple of 6 (place: the count of whole records), then the
-- lowest record with a wrong mark or profile, both 10; then the sheet's checks. An empty file is an empty sheet. Writing an accepted
-- sheet and reading it gives the same lines, and the reverse."
use Rattle.std.specs.Prelude.{◌≡◌, true, false, List, [], ◌∷◌, ◌⊎◌, ℕ, zero, suc, ◌+◌, ◌*◌, ◌<◌, length, replicate, Err, Ok}
use Rattle.refusals.specs.Refusal.{fault}
use Rattle.refusals.specs.declared.refusal.Refusal.TheVariants.{WrongLetter}
use Rattle.refusals.specs.declared.refusal.Fault.{Fault}
use Rattle.row.specs.Profile.{letter_of, profile_of}
use Rattle.row.specs.declared.profile.Profile.{Profile}
use Rattle.lists.specs.Each.{Each}
use Rattle.sheet.specs.Sheet.{sheet_limit, no_lines, lines_of}
use Rattle.sheet.specs.Check.{sheet_verdict}
use Rattle.sheetfile.specs.File.{Record, record_size, records, lines_in, is_marked, file_of, file_verdict, file_read, verdict_of, file_read_by}
use Rattle.sheet.specs.SheetPromise.{Says}
use Rattle.sheet.specs.declared.line.Line.{Line}
use Rattle.sheet.specs.declared.sheet.Sheet.{Sheet}

-- the record at an index has a wrong mark or profile, and none before it has
abbrev pub LowestWrong : Profile → List Record → ℕ → Type 0
LowestWrong profile [] i = ⊥
LowestWrong profile (r ∷ rs) zero = is_marked profile r ≡ false
LowestWrong profile (r ∷ rs) (suc i) = (is_marked profile r ≡ true) × LowestWrong profile rs i

abbrev pub AllMarked : Profile → List Record → Type 0
AllMarked profile rs = Each (λ (r : Record). is_marked profile r ≡ true) rs

pub record FilePromise (profile : Profile) (file : List ℕ) : Type 0 where
  pub uneven : (q r : ℕ) → length file ≡ q * record_size + r → 0 < r → r < record_size → Says (file_verdict profile file) 10 q
  pub wrong : (q : ℕ) → length file ≡ q * record_size → (i : ℕ) → LowestWrong profile (records file) i → Says (file_verdict profile file) 10 i
  pub checks : (q : ℕ) → length file ≡ q * record_size → AllMarked profile (records file)
      → file_verdict profile file ≡ sheet_verdict profile (lines_in (records file))
  pub either : ((i : ℕ) × LowestWrong profile (records file) i) ⊎ AllMarked profile (records file)
  -- reading says that verdict; a refused file gives no sheet
  pub said : verdict_of (file_read profile file) ≡ file_verdict profile file
  pub none : (f : Fault) → file_verdict profile file ≡ Err f → file_read profile file ≡ Err f
  -- an accepted file is written back to the same bytes
  pub again : (s : Sheet) → file_read profile file ≡ Ok s → file_of profile (lines_of s) ≡ file

pub record FileTrip (profile : Profile) (ls : List Line) : Type 0 where
  -- no lines are zeros throughout
  pub nothing : no_lines ≡ record { count = 0; lines = replicate sheet_limit (record { zone = 0; command = 0; value = 0 }) }
  -- "An empty file is an empty sheet."
  pub empty : file_read profile [] ≡ Ok no_lines
  -- an accepted sheet's file is read as the same lines, in order
  pub read : sheet_verdict profile ls ≡ Ok tt → (s : Sheet) × (file_read profile (file_of profile ls) ≡ Ok s) × (lines_of s ≡ ls)

pub record FileLetter (letter : ℕ) (file : List ℕ) : Type 0 where
  -- A and S name their profiles
  pub named : (profile : Profile) → letter ≡ letter_of profile → file_read_by (profile_of letter) file ≡ file_read profile file
  -- 12 for any other letter, whatever the file holds, and no sheet
  pub twelve : (letter ≡ 0x41 → ⊥) → (letter ≡ 0x53 → ⊥)
      → Says (verdict_of (file_read_by (profile_of letter) file)) 12 0 × (file_read_by (profile_of letter) file ≡ Err (fault WrongLetter 0))
