-- The order of a file's refusals, by the count of its whole records.
use mathlib.Core.Path.{◌≡◌}
use Prim.Native.Nat.{ℕ, ◌+◌, ◌*◌, ◌≤◌, ◌<◌}
use mathlib.Core.List.{List}
use native.Mathlib.Omega.{arith}
use borrow.Author.Tests.{eq-eqb, ne_eqb}
use lib.ListN.{length}
use Rattle.row.specs.declared.profile.Profile.{Profile}
use Rattle.sheet.specs.Check.{first_refusal, sheet_verdict}
use Rattle.sheetfile.specs.File.{record_size, records, lines_in, lowest_wrong, file_verdict}
use Rattle.sheetfile.proofs.Records.{records_count}
use Rattle.std.specs.Prelude.{Err}
use Rattle.refusals.specs.declared.refusal.Refusal.TheVariants.{WrongFile}
use Rattle.refusals.specs.Refusal.{fault}

module _ (profile : Profile) (file : List ℕ) (count : ℕ) (low : count * record_size ≤ length file) (high : length file < (count + 1) * record_size) where
  many : length (records file) ≡ count
  many = records_count count file low high

  pub file_broken : (length file ≡ count * record_size → ⊥) → file_verdict profile file ≡ Err (fault WrongFile count)
  unfolding file_verdict
  file_broken h =
      rw (ne_eqb (length file) (record_size * length (records file)) (λ e. h (omega (arith, many))), many)

  pub file_whole : length file ≡ count * record_size
      → file_verdict profile file ≡ first_refusal (lowest_wrong profile 0 (records file)) (sheet_verdict profile (lines_in (records file)))
  unfolding file_verdict
  file_whole h = rw (eq-eqb (length file) (record_size * length (records file)) (omega (arith, many)))
