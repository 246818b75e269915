-- Demand 3, in the customer's words: "Take a unit that follows document 01, at any legal settings, its reader outside any frame or
-- stopped anywhere in an old one. Send it one accepted sheet of its family any number of times, each sending cut after any byte, then
-- once in full. If the bytes sent arrive in order and unchanged and nothing else touches the unit, then at every moment each setting on
-- the sheet holds its starting value or the sheet's, every other setting is as it was, and after the full sending all those on the sheet
-- hold the sheet's values."
use Rattle.std.specs.Prelude.{ℕ, ◌≡◌, List, [], ◌⊎◌, take, Ok}
use Rattle.frame.specs.Reader.{taken_by}
use Rattle.frame.specs.declared.direction.Direction.TheVariants.{Command}
use Rattle.row.specs.declared.profile.Profile.{Profile}
use Rattle.sheet.specs.Check.{sheet_verdict}
use Rattle.sheetfile.specs.Run.{run_of}
use Rattle.sheet.specs.declared.line.Line.{Line}
use Rattle.unit.specs.Unit.{Setting, Settings, Unit, Holds, after}
use Rattle.lists.specs.Each.{Each}
use Rattle.unit.specs.Sending.{AreBytes, setting_of, NotOn, sendings}

-- "its reader outside any frame or stopped anywhere in an old one": whatever bytes came before
abbrev pub stopped : Profile → Settings → List ℕ → Unit
stopped profile s before = record { profile = profile; taken = taken_by Command [] before; settings = s }

-- "at every moment": the unit after the first so many of the bytes sent
abbrev pub moment : Unit → List ℕ → ℕ → Unit
moment u bytes n = after u (take n bytes)

-- what is promised of some lines, when these bytes are sent to a unit
pub record Promised (u : Unit) (ls : List Line) (bytes : List ℕ) : Type 0 where
  -- "at every moment each setting on the sheet holds its starting value or the sheet's"
  pub sheet : (n : ℕ)
      → Each (λ (l : Line). Holds (moment u bytes n) (setting_of l) (u.settings (setting_of l)) ⊎ Holds (moment u bytes n) (setting_of l) l.value) ls
  -- "every other setting is as it was"
  pub others : (n : ℕ) (x : Setting) → NotOn ls x → Holds (moment u bytes n) x (u.settings x)
  -- "after the full sending all those on the sheet hold the sheet's values"
  pub full : Each (λ (l : Line). Holds (after u bytes) (setting_of l) l.value) ls

-- "at any legal settings": at any settings at all
pub record Demand3 : Type 0 where
  pub holds : (profile : Profile) (s : Settings) (before : List ℕ) (sheet : List Line) (cuts : List ℕ)
      → AreBytes before → sheet_verdict profile sheet ≡ Ok tt
      → Promised (stopped profile s before) sheet (sendings cuts (run_of sheet))
