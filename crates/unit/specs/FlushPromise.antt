-- Promise: how many zeros a run needs. Document 02, C-20: "The first line's 21 may itself fall on the end place, so prove and send: 255
-- zeros for a sheet with at least one line"; "Prove too that 254 don't suffice, by a unit and a one-line sheet for which demand 3 fails."
use Rattle.std.specs.Prelude.{ℕ, ◌≤◌, ◌≡◌, List, [], ◌∷◌, ◌++◌, replicate, Ok}
use Rattle.row.specs.declared.profile.Profile.TheVariants.{A}
use Rattle.sheet.specs.Check.{sheet_verdict}
use Rattle.sheet.specs.declared.line.Line.{Line}
use Rattle.sheetfile.specs.Run.{run_of}
use Rattle.unit.specs.Unit.{Unit, Holds, after, replies}
use Rattle.unit.specs.Legal.{LegalSettings}
use Rattle.unit.specs.Sending.{AreBytes, setting_of, sending, sendings}
use Rattle.unit.specs.UnitTablePromise.{zero_settings}
use Rattle.unit.specs.Demand3.{stopped, moment, Promised}
use Rattle.unit.specs.SendingPromise.{SendingPromise}

-- "a unit": of family A, with 00 in every row, stopped after 21 01 38 FF, so that all 255 bytes of an old frame's data are to come
abbrev pub old_bytes : List ℕ
old_bytes = 0x21 ∷ 0x01 ∷ 0x38 ∷ 0xFF ∷ []

abbrev pub stuck : Unit
stuck = stopped A zero_settings old_bytes

-- "a one-line sheet": Dolby Volume, 01, in zone 1
abbrev pub one_line : Line
one_line = record { zone = 0x01; command = 0x38; value = 0x01 }

-- its full sending, with one zero too few
abbrev pub short_sending : List ℕ
short_sending = sending 254 (one_line ∷ [])

pub record TooFewPromise : Type 0 where
  -- demand 3 speaks of them: "at any legal settings", what came before is bytes, "one accepted sheet of its family"
  pub legal : LegalSettings A zero_settings
  pub bytes : AreBytes old_bytes
  pub accepted : sheet_verdict A (one_line ∷ []) ≡ Ok tt
  -- the line's 21 is taken for the last byte of the old data, its zone breaks the old frame at the end place, and nothing is ever answered
  pub taken : (moment stuck short_sending 255).taken ≡ old_bytes ++ replicate 254 0x00 ++ 0x21 ∷ []
  pub broken : (moment stuck short_sending 256).taken ≡ []
  pub unanswered : replies stuck short_sending ≡ []
  -- so the unit holds what it held: "after the full sending all those on the sheet hold the sheet's values" fails, and demand 3 with it
  pub kept : (after stuck short_sending).settings (setting_of one_line) ≡ 0x00
  pub missed : Holds (after stuck short_sending) (setting_of one_line) one_line.value → ⊥
  pub fails : Promised stuck (one_line ∷ []) (sendings [] short_sending) → ⊥

-- a run is a sending with 255 zeros; demand 3 holds of any with so many or more, and not with 254
pub record FlushPromise : Type 0 where
  pub sent : (l : Line) (ls : List Line) → run_of (l ∷ ls) ≡ sending 255 (l ∷ ls)
  pub enough : (zeros : ℕ) → 255 ≤ zeros → SendingPromise zeros
  pub few : TooFewPromise
