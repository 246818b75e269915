-- Document 01, 'Sheet, sheet file and run': "Sheet file: per line six bytes, the mark 53 4C, profile 41 or 53, zone, command, value.
-- The reader is told the profile."
use Rattle.std.specs.Prelude.{ℕ, ◌+◌, ◌*◌, Bool, not, ◌&&◌, List, [], ◌∷◌, eqb, length, Err, Ok, Result}
use Rattle.refusals.specs.Rule.{rule, ruled}
use Rattle.row.specs.Profile.{letter_of}
use Rattle.row.specs.declared.profile.Profile.{Profile}
use Rattle.sheet.specs.Sheet.{no_lines, with_all}
use Rattle.lists.specs.InOrder.{in_order}
use Rattle.sheet.specs.Check.{first_refusal, sheet_verdict}
use Rattle.sheet.specs.declared.line.Line.{Line}
use Rattle.refusals.specs.declared.refusal.Refusal.{Refusal}
use Rattle.refusals.specs.declared.refusal.Refusal.TheVariants.{WrongFile}
use Rattle.refusals.specs.declared.refusal.Fault.{Fault}
use Rattle.refusals.specs.Refusal.{fault}
use Rattle.sheet.specs.declared.sheet.Sheet.{Sheet}

-- "per line six bytes"
abbrev pub record_size : ℕ
record_size = 6

abbrev pub record_of : Profile → Line → List ℕ
record_of profile l = 0x53 ∷ 0x4C ∷ letter_of profile ∷ l.zone ∷ l.command ∷ l.value ∷ []

-- the file of some lines
abbrev pub file_of : Profile → List Line → List ℕ
file_of profile ls = in_order (record_of profile) ls

-- six bytes of a file, whatever they hold
pub record Record : Type 0 where
  pub first : ℕ
  pub second : ℕ
  pub family : ℕ
  pub zone : ℕ
  pub command : ℕ
  pub value : ℕ

-- the whole records of a file, in order; bytes behind the last of them are none
unfoldable pub records : List ℕ → List Record
records [] = []
records (a ∷ []) = []
records (a ∷ b ∷ []) = []
records (a ∷ b ∷ c ∷ []) = []
records (a ∷ b ∷ c ∷ d ∷ []) = []
records (a ∷ b ∷ c ∷ d ∷ e ∷ []) = []
records (a ∷ b ∷ c ∷ d ∷ e ∷ f ∷ rest) =
    record { first = a; second = b; family = c; zone = d; command = e; value = f } ∷ records rest

abbrev pub line_of : Record → Line
line_of r = record { zone = r.zone; command = r.command; value = r.value }

unfoldable pub lines_in : List Record → List Line
lines_in [] = []
lines_in (r ∷ rs) = line_of r ∷ lines_in rs

-- 10: "sheet file not whole records, or a record's mark or profile is wrong"
abbrev pub is_whole : List ℕ → Bool
is_whole file = eqb (length file) (record_size * length (records file))

abbrev pub uneven_length : List ℕ → Result (Unit {0}) Fault
uneven_length file = ruled (rule WrongFile (not (is_whole file)) ∷ []) (λ e. Err (fault e (length (records file)))) (Ok tt)

abbrev pub is_marked : Profile → Record → Bool
is_marked profile r = eqb r.first 0x53 && (eqb r.second 0x4C && eqb r.family (letter_of profile))

-- "the lowest record with a wrong mark or profile", the first of these at an index
unfoldable pub lowest_wrong : Profile → ℕ → List Record → Result (Unit {0}) Fault
lowest_wrong profile i [] = Ok tt
lowest_wrong profile i (r ∷ rs) = ruled (rule WrongFile (not (is_marked profile r)) ∷ []) (λ e. Err (fault e i)) (lowest_wrong profile (i + 1) rs)

-- "Order: length not a multiple of 6 (place: the count of whole records), then the lowest record with a wrong mark or profile, both
-- 10; then the sheet's checks."
unfoldable pub file_verdict : Profile → List ℕ → Result (Unit {0}) Fault
file_verdict profile file =
    first_refusal (uneven_length file) (first_refusal (lowest_wrong profile 0 (records file)) (sheet_verdict profile (lines_in (records file))))

-- what is read: the lines of an accepted file; "A refusal returns its number and zero for every other field (6, 7, 8 and 10: also
-- the line's index ..)"
abbrev pub read_by : Result (Unit {0}) Fault → List Line → Result Sheet Fault
read_by (Ok u) ls = Ok (with_all no_lines ls)
read_by (Err f) ls = Err f

abbrev pub file_read : Profile → List ℕ → Result Sheet Fault
file_read profile file = read_by (file_verdict profile file) (lines_in (records file))

-- the verdict that a reading says
abbrev pub verdict_of : Result Sheet Fault → Result (Unit {0}) Fault
verdict_of (Ok sheet) = Ok tt
verdict_of (Err f) = Err f

-- by the profile's letter: 12 "before all others", for an empty file too
abbrev pub file_read_by : Result Profile Refusal → List ℕ → Result Sheet Fault
file_read_by (Ok profile) file = file_read profile file
file_read_by (Err e) file = Err (fault e 0)
