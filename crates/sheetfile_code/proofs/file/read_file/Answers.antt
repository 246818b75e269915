-- The file in pieces of six bytes: it is broken, has a wrong record, is refused by its check, or is read.
use Rattle.std.proofs.Common.{◌≡◌, ◌∙◌, refl, sym, ap, ℕ, ◌/◌, ◌%◌, List, length, Ok, Err, Result, arith, rules}
use Rattle.std.specs.Simd.{first_chunks}
use Rattle.refusals.specs.Refusal.{fault}
use Rattle.refusals.specs.declared.refusal.Refusal.TheVariants.{WrongFile}
use Rattle.refusals.specs.declared.refusal.Fault.{Fault}
use Rattle.row.specs.declared.profile.Profile.{Profile}
use Rattle.sheet.specs.Sheet.{no_lines, with_all, lines_of}
use Rattle.sheet.specs.Check.{first_refusal, sheet_verdict}
use Rattle.sheet.specs.declared.sheet.Sheet.{Sheet}
use Rattle.sheet.proofs.Sheets.{verdict_together}
use Rattle.sheetfile.specs.File.{record_size, records, lines_in, lowest_wrong, read_by, file_read}
use Rattle.sheetfile.specs.Computed.{records_in}
use Rattle.sheetfile.proofs.Records.{pieces}
use Rattle.sheetfile.proofs.Files.{file_broken, file_whole}
use Rattle.sheetfile_code.proofs.file.read_file.Goals as goal

module _ (profile : Profile) (file : List ℕ) (parts : List (List ℕ)) (cut : parts ≡ first_chunks record_size (length file / record_size) file) where
  read_broken : (length file % record_size ≡ 0 → ⊥) → file_read profile file ≡ Err (fault WrongFile (length file / record_size))
  read_broken over =
      ap (λ (v : Result (Unit {0}) Fault). read_by v (lines_in (records file)))
      (file_broken profile file (length file / record_size) (omega arith) (omega arith) (λ e. over (omega arith)))

  read_whole : length file % record_size ≡ 0 → (v w : Result (Unit {0}) Fault) → lowest_wrong profile 0 (records_in parts) ≡ v
      → sheet_verdict profile (lines_of (with_all no_lines (lines_in (records_in parts)))) ≡ w → file_read profile file ≡ read_by (first_refusal v w) (lines_in (records_in parts))
  read_whole none v w marks checks =
      let same : records file ≡ records_in parts = pieces (length file / record_size) file (omega arith) (omega arith) ∙ ap records_in (sym cut) in
      ap (λ (x : Result (Unit {0}) Fault). read_by x (lines_in (records file))) (file_whole profile file (length file / record_size) (omega arith) (omega arith) (omega arith))
      ∙ rw (same, marks, ← verdict_together profile (lines_in (records_in parts)), checks)

pub returns-then-not-is_empty : goal.returns-then-not-is_empty
returns-then-not-is_empty c =
    let g = c.args in
    let over : length g.file.now % 6 ≡ 0 → ⊥ = search rules in
    rw c.as_chunks.ensures.front_len (sym (read_broken g.profile g.file.now c.as_chunks.result.0.now c.as_chunks.ensures.front over))

pub returns-in_err-lowest_wrong : goal.returns-in_err-lowest_wrong
returns-in_err-lowest_wrong c =
    let g = c.args in
    let f = c.in_err-lowest_wrong.field-0.0 in
    let none : length g.file.now % 6 ≡ 0 = search rules in
    let passed : c.from_residual.result ≡ Err f = search rules in
    passed ∙ sym (read_whole g.profile g.file.now c.as_chunks.result.0.now c.as_chunks.ensures.front none (Err f) _ (sym c.in_err-lowest_wrong.ensures) refl)

pub returns-in_err-checked : goal.returns-in_err-checked
returns-in_err-checked c =
    let g = c.args in
    let f = c.in_err-checked.field-0.0 in
    let none : length g.file.now % 6 ≡ 0 = search rules in
    let passed : c.from_residual-in_err-checked.result ≡ Err f = search rules in
    let checks = ap (λ (s : Sheet). sheet_verdict g.profile (lines_of s)) (sym c.lines_in-sheet.ensures) ∙ sym c.in_err-checked.ensures in
    passed ∙ sym (read_whole g.profile g.file.now c.as_chunks.result.0.now c.as_chunks.ensures.front none (Ok tt) (Err f) (sym c.in_ok-lowest_wrong.ensures) checks)

pub returns : goal.returns
returns c =
    let g = c.args in
    let none : length g.file.now % 6 ≡ 0 = search rules in
    let checks = ap (λ (s : Sheet). sheet_verdict g.profile (lines_of s)) (sym c.lines_in-sheet.ensures) ∙ sym c.in_ok-checked.ensures in
    ap (λ (s : Sheet). Ok s) c.lines_in-sheet.ensures
    ∙ sym (read_whole g.profile g.file.now c.as_chunks.result.0.now c.as_chunks.ensures.front none (Ok tt) (Ok tt) (sym c.in_ok-lowest_wrong.ensures) checks)
