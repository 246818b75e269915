-- Document 01, 'Tracker': "a sheet that isn't accepted gives its refusal and no sign-off. Sign-off is yes exactly when every sheet
-- line's cell is known and equal. A sheet of no lines is signed off."
use Rattle.std.specs.Prelude.{ℕ, Bool, false, List, eqb, Err, Ok, Result}
use Rattle.std.specs.List.{list_all}
use Rattle.sheet.specs.Check.{sheet_verdict}
use Rattle.sheet.specs.declared.line.Line.{Line}
use Rattle.tracker.specs.Tracker.{kept_in}
use Rattle.tracker.specs.declared.tracker.Tracker.{Tracker}
use Rattle.tracker.specs.declared.tracker.Kept.{Kept}
use Rattle.tracker.specs.declared.tracker.Kept.TheVariants as kept
use Rattle.refusals.specs.declared.refusal.Fault.{Fault}

-- "known and equal"
abbrev pub holds_in : Kept → ℕ → Bool
holds_in (kept.Value b) value = eqb b value
holds_in kept.Unknown value = false
holds_in kept.NoCell value = false

abbrev pub holds : Tracker → Line → Bool
holds t l = holds_in (kept_in t l.zone l.command) l.value

-- "every sheet line's cell is known and equal"
unfoldable pub all_hold : Tracker → List Line → Bool
all_hold t ls = list_all (holds t) ls

-- "a sheet that isn't accepted gives its refusal and no sign-off"; yes is true, and no is false
abbrev pub signed_by : Result (Unit {0}) Fault → Bool → Result Bool Fault
signed_by (Ok u) agrees = Ok agrees
signed_by (Err f) agrees = Err f

-- "Answers and sheets are read under the tracker's profile"
abbrev pub sign_off : Tracker → List Line → Result Bool Fault
sign_off t ls = signed_by (sheet_verdict t.profile ls) (all_hold t ls)
