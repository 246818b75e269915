-- Promise: a sheet that is not accepted gives its refusal and no sign-off; an accepted one is signed off exactly when every line's
-- cell is known and equal; and that is exactly when each line's value is that of the last status answer of its zone and row, among
-- the answers fed in since the tracker was made new; an answered 80 shows 00 where it is zero (`Last`).
use Rattle.std.specs.Prelude.{◌≡◌, List, Err, Ok, false, true}
use Rattle.lists.specs.Each.{Each}
use Rattle.row.specs.declared.profile.Profile.{Profile}
use Rattle.sheet.specs.Check.{sheet_verdict}
use Rattle.sheet.specs.declared.line.Line.{Line}
use Rattle.tracker.specs.Tracker.{fresh_tracker, kept_in}
use Rattle.tracker.specs.Feed.{BroughtAnswer, answers_fed}
use Rattle.signing.specs.Sign.{sign_off}
use Rattle.tracker.specs.HistoryPromise.{Last}
use Rattle.tracker.specs.declared.tracker.Tracker.{Tracker}
use Rattle.tracker.specs.declared.tracker.Kept.TheVariants.{Value}
use Rattle.refusals.specs.declared.refusal.Fault.{Fault}

-- a line's cell is known and equal
abbrev pub IsHeld : Tracker → Line → Type 0
IsHeld t l = kept_in t l.zone l.command ≡ Value l.value

-- a line's value is that of the last status answer of its zone and row
abbrev pub IsAnswered : Profile → List BroughtAnswer → Line → Type 0
IsAnswered profile fs l = Last profile l.zone l.command fs l.value

pub record SignPromise (t : Tracker) (ls : List Line) : Type 0 where
  pub refused : (f : Fault) → sheet_verdict t.profile ls ≡ Err f → sign_off t ls ≡ Err f
  pub yes : sheet_verdict t.profile ls ≡ Ok tt → Each (IsHeld t) ls → sign_off t ls ≡ Ok true
  pub no : sheet_verdict t.profile ls ≡ Ok tt → (Each (IsHeld t) ls → ⊥) → sign_off t ls ≡ Ok false
  pub only : sign_off t ls ≡ Ok true → (sheet_verdict t.profile ls ≡ Ok tt) × Each (IsHeld t) ls

-- after any answers, under the profile that the tracker was made for
pub record SignHistoryPromise (profile : Profile) (fs : List BroughtAnswer) (ls : List Line) : Type 0 where
  pub refused : (f : Fault) → sheet_verdict profile ls ≡ Err f → sign_off (answers_fed (fresh_tracker profile) fs) ls ≡ Err f
  pub yes : sheet_verdict profile ls ≡ Ok tt → Each (IsAnswered profile fs) ls → sign_off (answers_fed (fresh_tracker profile) fs) ls ≡ Ok true
  pub no : sheet_verdict profile ls ≡ Ok tt → (Each (IsAnswered profile fs) ls → ⊥) → sign_off (answers_fed (fresh_tracker profile) fs) ls ≡ Ok false
  pub only : sign_off (answers_fed (fresh_tracker profile) fs) ls ≡ Ok true → (sheet_verdict profile ls ≡ Ok tt) × Each (IsAnswered profile fs) ls
