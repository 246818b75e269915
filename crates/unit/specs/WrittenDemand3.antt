-- Promise: demand 3 of the bytes that the library wrote. Where `write_run` has answered with a count, so many bytes from the place in the
-- lent buffer are a run of which demand 3 holds; and so where `run_of_file` has, from a sheet file's bytes to the unit.
use Rattle.std.specs.Prelude.{ℕ, ◌≡◌, List, take, drop, Ok}
use Rattle.row.specs.Profile.{profile_of}
use Rattle.row.specs.declared.profile.Profile.{Profile}
use Rattle.sheetfile.specs.File.{records, lines_in}
use Rattle.sheetfile.specs.Written.{run_answered, run_left}
use Rattle.sheetfile.specs.ByLetter.{file_run_answered, file_run_left}
use Rattle.sheet.specs.declared.line.Line.{Line}
use Rattle.unit.specs.Unit.{Settings}
use Rattle.unit.specs.Sending.{AreBytes, sendings}
use Rattle.unit.specs.Demand3.{stopped, Promised}

-- the bytes from a place
abbrev pub placed_bytes : List ℕ → ℕ → ℕ → List ℕ
placed_bytes buf at n = take n (drop at buf)

pub record WrittenDemand3 : Type 0 where
  pub run : (profile : Profile) (s : Settings) (before : List ℕ) (sheet : List Line) (cuts : List ℕ) (buf : List ℕ) (at n : ℕ)
      → AreBytes before → run_answered profile sheet buf at ≡ Ok n
      → Promised (stopped profile s before) sheet (sendings cuts (placed_bytes (run_left profile sheet buf at) at n))
  pub file : (letter : ℕ) (profile : Profile) (s : Settings) (before file : List ℕ) (cuts : List ℕ) (buf : List ℕ) (at n : ℕ)
      → profile_of letter ≡ Ok profile → AreBytes before → file_run_answered (profile_of letter) file buf at ≡ Ok n
      → Promised (stopped profile s before) (lines_in (records file)) (sendings cuts (placed_bytes (file_run_left (profile_of letter) file buf at) at n))
