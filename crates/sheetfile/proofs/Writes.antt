-- What writing a sheet leaves: the bytes in their place and every other as it was, or the buffer as it was.
use mathlib.Core.Path.{◌≡◌, refl, ap, ◌∙◌}
use mathlib.Core.List.{List, []}
use Prim.Native.Nat.{ℕ, ◌+◌, ◌*◌, ◌≤◌, ◌<◌}
use native.Mathlib.Omega.{arith}
use lib.ListN.{length, take, drop}
use Rattle.lent.specs.Written.{write_answered, written_count}
use Rattle.lent.specs.WritePromise.{WritePromise}
use Rattle.lent.proofs.Writes.{write_promise}
use Rattle.row.specs.declared.profile.Profile.{Profile}
use Rattle.sheet.specs.Sheet.{sheet_limit}
use Rattle.sheet.specs.Check.{sheet_verdict}
use Rattle.sheetfile.specs.File.{record_size, file_of, file_read}
use Rattle.sheetfile.specs.Run.{flush, run_of}
use Rattle.sheetfile.specs.Written.{as_sheet, sheet_answered, sheet_left, file_left, sheet_written_number, sheet_written_count}
use Rattle.sheetfile.specs.WrittenPromise.{WrittenPromise, SizePromise}
use Rattle.sheet.specs.declared.line.Line.{Line}
use Rattle.sheetfile.specs.declared.write.Form.TheVariants as form
use Rattle.sheet.proofs.Sheets.{sheet_promise}
use Rattle.sheetfile.proofs.Filled.{flush_some, sheet_length, zeros_most}
use Rattle.sheetfile.proofs.Trips.{trip_read}
use Rattle.std.specs.Prelude.{Err, Ok, Result}
use Rattle.refusals.specs.declared.refusal.Refusal.{Refusal}
use Rattle.refusals.specs.declared.refusal.Fault.{Fault}

as_count : (w : Result ℕ Refusal) → sheet_written_count (as_sheet w) ≡ written_count w
as_count (Ok n) = refl
as_count (Err e) = refl

as_bytes : (w : Result ℕ Refusal) (n : ℕ) → as_sheet w ≡ Ok n → w ≡ Ok n
as_bytes (Ok m) n e = cc
as_bytes (Err m) n e = cc

as_refused : (w : Result ℕ Refusal) (f : Fault) → as_sheet w ≡ Err f → w ≡ Err f.refusal
as_refused (Ok m) f e = cc
as_refused (Err e) f h = ap refused_as h
  where
    refused_as : Result ℕ Fault → Result ℕ Refusal
    refused_as (Ok n) = Ok n
    refused_as (Err g) = Err g.refusal

module _ (buf : List ℕ) (at : ℕ) (bytes : List ℕ) where
  -- an accepted sheet goes by the room
  abbrev wrote_so : WritePromise [] buf at bytes
  wrote_so = write_promise [] buf at bytes

  kept : (v : Result (Unit {0}) Fault) (f : Fault) → sheet_answered v buf at bytes ≡ Err f
      → (sheet_left v buf at bytes ≡ buf) × (sheet_written_count (sheet_answered v buf at bytes) ≡ 0)
  kept (Ok u) f e =
      let w = wrote_so.kept f.refusal (as_refused (write_answered [] buf at bytes) f e) in (w.0, as_count (write_answered [] buf at bytes) ∙ w.1)
  kept (Err g) f e = (refl, refl)

  before : (v : Result (Unit {0}) Fault) → take at (sheet_left v buf at bytes) ≡ take at buf
  before (Ok u) = wrote_so.before
  before (Err f) = refl

  after : (v : Result (Unit {0}) Fault) → drop (at + length bytes) (sheet_left v buf at bytes) ≡ drop (at + length bytes) buf
  after (Ok u) = wrote_so.after
  after (Err f) = refl

  -- bytes were written: then the sheet was accepted, and they all stand at the place
  pub record Wrote (v : Result (Unit {0}) Fault) (n : ℕ) : Type 0 where
    pub accepted : v ≡ Ok tt
    pub there : take n (drop at (sheet_left v buf at bytes)) ≡ bytes

  pub wrote : (v : Result (Unit {0}) Fault) (n : ℕ) → sheet_answered v buf at bytes ≡ Ok n → Wrote v n
  wrote (Ok u) n e =
      record { accepted = refl; there = (wrote_so.there n (as_bytes (write_answered [] buf at bytes) n e)).3 }
  wrote (Err f) n e = absurd (cc)

  pub stands : at + length bytes ≤ length buf → take (length bytes) (drop at (sheet_left (Ok tt) buf at bytes)) ≡ bytes
  stands h = (wrote_so.there (length bytes) (wrote_so.fits tt h)).3

  pub written_promise : (v : Result (Unit {0}) Fault) → WrittenPromise v buf at bytes
  written_promise v = record {
    checks = λ f e. rw e;
    past = λ e h. rw e (ap as_sheet (wrote_so.past tt h));
    few = λ e h less. rw e (ap as_sheet (wrote_so.few tt h less));
    kept = kept v;
    said = λ e h. rw e (ap as_sheet (wrote_so.fits tt h));
    counted = λ e h.
        rw e (ap (λ (w : Result ℕ Refusal). sheet_written_number (as_sheet w)) (wrote_so.fits tt h), ap (λ (w : Result ℕ Refusal). sheet_written_count (as_sheet w)) (wrote_so.fits tt h));
    there = λ e h. rw e (stands h);
    before = before v;
    after = after v;
  }

run_length : (profile : Profile) (ls : List Line) → 0 < length ls → length (run_of ls) ≡ flush + record_size * length ls
run_length profile ls some = omega (arith, sheet_length form.Run profile ls, flush_some (length ls) (λ e. omega arith))

run_room : (profile : Profile) (ls : List Line) → sheet_verdict profile ls ≡ Ok tt → length (run_of ls) ≤ flush + record_size * sheet_limit
run_room profile ls e = omega (arith, sheet_length form.Run profile ls, zeros_most form.Run (length ls), ((sheet_promise profile ls).only e).0)

empty_run : run_of [] ≡ []
unfolding run_of
empty_run = refl

file_length : (profile : Profile) (ls : List Line) → length (file_of profile ls) ≡ record_size * length ls
file_length profile ls = omega (arith, sheet_length form.File profile ls)

pub size_promise : (profile : Profile) (ls : List Line) → SizePromise profile ls
size_promise profile ls = record {
  run = run_length profile ls;
  empty = empty_run;
  room = run_room profile ls;
  file = file_length profile ls;
  back = λ buf at e h.
      let w = trip_read profile ls e in (w.0, ap (file_read profile) (there buf at e h) ∙ w.1, w.2);
}
  where
    there : (buf : List ℕ) (at : ℕ) → sheet_verdict profile ls ≡ Ok tt → at + record_size * length ls ≤ length buf
        → take (record_size * length ls) (drop at (file_left profile ls buf at)) ≡ file_of profile ls
    there buf at e h =
        rw (e, ← file_length profile ls) (stands buf at (file_of profile ls) (omega (arith, file_length profile ls)))
