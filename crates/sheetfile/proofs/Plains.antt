-- A sheet file that is read and written on: an accepted one holds an accepted sheet, and is the file of its lines.
use mathlib.Core.Path.{◌≡◌, refl, ap, sym, ◌∙◌}
use mathlib.Core.List.{List}
use Prim.Native.Nat.{ℕ}
use borrow.Author.Tests.{ne_eqb}
use Rattle.std.specs.Prelude.{Err, Ok, Result}
use Rattle.refusals.specs.declared.refusal.Refusal.{Refusal}
use Rattle.refusals.specs.declared.refusal.Fault.{Fault}
use Rattle.row.specs.Profile.{profile_of}
use Rattle.row.specs.declared.profile.Profile.{Profile}
use Rattle.sheet.specs.Sheet.{no_lines, with_all, lines_of}
use Rattle.sheet.specs.Check.{sheet_verdict}
use Rattle.sheet.specs.declared.line.Line.{Line}
use Rattle.sheet.specs.declared.sheet.Sheet.{Sheet}
use Rattle.sheetfile.specs.File.{records, lines_in, file_of, file_verdict, file_read, verdict_of, file_read_by}
use Rattle.sheetfile.specs.Written.{sheet_answered, sheet_left}
use Rattle.sheetfile.specs.Computed.{sheet_bytes, file_as}
use Rattle.sheetfile.specs.ByLetter.{file_verdict_by}
use Rattle.sheetfile.specs.FileByLetterPromise.{FileByLetterPromise, FileOtherLetter}
use Rattle.sheetfile.specs.declared.write.Form.{Form}
use Rattle.sheetfile.specs.declared.write.Form.TheVariants as form
use Rattle.sheetfile.proofs.Trips.{read_verdict, read_accepted, read_kept, accepted_marked, trip_back, trip_lines, trip_verdict}

pub verdict_by : (family : Result Profile Refusal) (file : List ℕ) → verdict_of (file_read_by family file) ≡ file_verdict_by family file
verdict_by (Ok profile) file = read_verdict profile (file_verdict profile file) (lines_in (records file))
verdict_by (Err e) file = refl

module _ (profile : Profile) (file : List ℕ) where
  abbrev lines : List Line
  lines = lines_in (records file)

  -- a refused reading says the file's verdict
  pub said : (f : Fault) → file_read profile file ≡ Err f → file_verdict profile file ≡ Err f
  said f e = sym (read_verdict profile (file_verdict profile file) lines) ∙ ap verdict_of e

  module _ (s : Sheet) (e : file_read profile file ≡ Ok s) where
    accepted : file_verdict profile file ≡ Ok tt
    accepted = (read_accepted profile file s e).0

    pub both : sheet_verdict profile lines ≡ file_verdict profile file
    both = (accepted_marked profile file accepted).2 ∙ sym accepted

    pub same : file_of profile lines ≡ file
    same = let w = accepted_marked profile file accepted in trip_back profile file w.0 w.1

    pub sheet_read : s ≡ with_all no_lines lines
    sheet_read = (read_accepted profile file s e).1

module _ (profile : Profile) (file : List ℕ) (buf : List ℕ) (at : ℕ) where
  -- refused: whatever was to be written
  pub refused_answer : (f : Fault) (bytes : List ℕ) → file_read profile file ≡ Err f → sheet_answered (file_verdict profile file) buf at bytes ≡ Err f
  refused_answer f bytes e = rw (said profile file f e)

  pub refused_left : (f : Fault) (bytes : List ℕ) → file_read profile file ≡ Err f → sheet_left (file_verdict profile file) buf at bytes ≡ buf
  refused_left f bytes e = rw (said profile file f e)

  -- accepted: the sheet that was read is written as the file is
  module _ (f : Form) (s : Sheet) (e : file_read profile file ≡ Ok s) where
    bytes_as : (g : Form) → sheet_bytes g profile (lines_of s) ≡ file_as g file
    bytes_as form.File = rw (read_kept profile file s e, same profile file s e)
    bytes_as form.Run = rw (read_kept profile file s e)

    verdict_as : sheet_verdict profile (lines_of s) ≡ file_verdict profile file
    verdict_as = rw (read_kept profile file s e) (both profile file s e)

    pub as_answer : sheet_answered (sheet_verdict profile (lines_of s)) buf at (sheet_bytes f profile (lines_of s)) ≡ sheet_answered (file_verdict profile file) buf at (file_as f file)
    as_answer = rw (verdict_as, bytes_as f)

    pub as_left : sheet_left (sheet_verdict profile (lines_of s)) buf at (sheet_bytes f profile (lines_of s)) ≡ sheet_left (file_verdict profile file) buf at (file_as f file)
    as_left = rw (verdict_as, bytes_as f)

-- the file of some lines
pub plain_promise : (letter : ℕ) (profile : Profile) (n : profile_of letter ≡ Ok profile) (ls : List Line) (buf : List ℕ) (at : ℕ) → FileByLetterPromise letter profile n ls buf at
plain_promise letter profile n ls buf at = record {
  check = rw n (trip_verdict profile ls);
  copy = rw (n, trip_verdict profile ls) (refl, refl);
  run = rw (n, trip_verdict profile ls, trip_lines profile ls) (refl, refl);
}

pub plain_letter : (letter : ℕ) (file buf : List ℕ) (at : ℕ) → FileOtherLetter letter file buf at
unfolding profile_of
plain_letter letter file buf at = record {
  check = λ a s. rw (ne_eqb letter 0x41 a, ne_eqb letter 0x53 s) (refl, refl);
  copy = λ a s. rw (ne_eqb letter 0x41 a, ne_eqb letter 0x53 s) ((refl, refl), refl);
  run = λ a s. rw (ne_eqb letter 0x41 a, ne_eqb letter 0x53 s) ((refl, refl), refl);
}
