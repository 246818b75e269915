-- Document 02, C-14: "wherever a unit's setting is compared, 80 and 00 are the same value": a unit that holds 80 in all three rows of a
-- sheet, before a run and after it, with its answers fed and signed off. Computed.
use mathlib.Core.Path.{◌≡◌, refl}
use mathlib.Core.Bool.{true}
use mathlib.Core.List.{List, [], ◌∷◌, ◌++◌, map}
use Prim.Native.Nat.{ℕ}
use Rattle.lists.specs.Each.{Each}
use Rattle.lent.specs.Placed.{bytes_at}
use Rattle.frame.specs.Capture.{events_told, events_from}
use Rattle.fields.specs.Fields.{is_frame}
use Rattle.row.specs.Table.{table, first_row}
use Rattle.row.specs.declared.profile.Profile.TheVariants.{A}
use Rattle.row.specs.declared.table.Row.{Row}
use Rattle.judging.specs.Judge.{is_answer, row_judged}
use Rattle.sheet.specs.Check.{sheet_verdict}
use Rattle.sheet.specs.declared.line.Line.{Line}
use Rattle.sheetfile.specs.Run.{run_of}
use Rattle.sheetfile.proofs.Witness.{line}
use Rattle.tracker.specs.Tracker.{kept_in}
use Rattle.tracker.specs.Feed.{answers_fed}
use Rattle.tracker.specs.Capture.{tracked_by}
use Rattle.tracker.specs.declared.tracker.Kept.TheVariants.{Value}
use Rattle.signing.specs.Sign.{all_hold, sign_off}
use Rattle.unit.specs.Unit.{value, Settings, put, Unit, Holds, after, replies}
use Rattle.unit.specs.Legal.{LegalSettings, RowIn}
use Rattle.unit.specs.Sending.{setting_of, sendings}
use Rattle.unit.specs.UnitTablePromise.{zero_settings, says, tells}
use Rattle.unit.specs.Demand3.{stopped, moment, Promised}
use Rattle.unit.proofs.Computing.{running, checking}
use Rattle.unit.proofs.Settings.{legal_promise}
use Rattle.unit.proofs.Demand.{demand_3}
use Rattle.unit.proofs.Truth.{truth_promise}
use Rattle.unit.proofs.Witness.{zeros_legal}
use Rattle.std.specs.Prelude.{Ok}

-- what a tracker knows that was fed with a unit's answers, and what is signed off by it
unfoldable feeding : ℕ
unfolding running row_judged answers_fed kept_in events_told events_from bytes_at is_frame
feeding = 0

unfoldable signing : ℕ
unfolding feeding checking all_hold
signing = 0

-- 80 in the offset, the sub trim and the brightness of zone 1
abbrev with80 : Settings → ℕ → Settings
with80 s command = put s (value 1 command) 0x80

abbrev minus_zeros : Settings
minus_zeros = with80 (with80 (with80 zero_settings 0x3A) 0x45) 0x46

-- 80 is a legal answer of these rows, so a unit may hold it
held : (s : Settings) → LegalSettings A s → (command : ℕ) (row : Row) → RowIn A 1 command row → is_answer row 0x80 ≡ true → LegalSettings A (with80 s command)
held s legal command row there fits = (legal_promise A s legal 0x80).row_value 1 command row there fits

pub minus_zeros_legal : LegalSettings A minus_zeros
unfolding row_judged first_row table
minus_zeros_legal =
    held (with80 (with80 zero_settings 0x3A) 0x45)
    (held (with80 zero_settings 0x3A) (held zero_settings (zeros_legal A) 0x3A _ refl refl) 0x45 _ refl refl) 0x46 _ refl refl

abbrev holder : Unit
holder = stopped A minus_zeros []

-- a sheet that wants 0 in all three, and requests for them
abbrev zeros : List Line
zeros = line 1 0x3A 0x00 ∷ line 1 0x45 0x00 ∷ line 1 0x46 0x00 ∷ []

abbrev asks : List ℕ
asks = says 0x3A 0xF0 ++ says 0x45 0xF0 ++ says 0x46 0xF0

abbrev Signed : List ℕ → List Line → Type 0
Signed sent ls = sign_off (tracked_by A (replies holder sent)) ls ≡ Ok true

-- before a run: the unit is at the sheet, tells 80 in each row, is known by 00, and is signed off
pub at_sheet : Each (λ (l : Line). Holds holder (setting_of l) l.value) zeros
unfolding first_row table
at_sheet = (refl, (refl, (refl, tt)))

pub told : replies holder asks ≡ tells 0x3A 0x80 ++ tells 0x45 0x80 ++ tells 0x46 0x80
unfolding running
told = refl

pub known : map (λ (l : Line). kept_in (tracked_by A (replies holder asks)) l.zone l.command) zeros ≡ Value 0x00 ∷ Value 0x00 ∷ Value 0x00 ∷ []
unfolding feeding
known = refl

pub signed : Signed asks zeros
unfolding signing
signed = refl

-- and what the truth of known cells says of it: 80 is held, and 00 is true of it
pub true_of : Each (λ (l : Line). Holds (after holder asks) (setting_of l) l.value) zeros
true_of = (truth_promise holder asks).signed minus_zeros_legal zeros signed

-- after the run of a sheet for zone 2, the plug pulled inside its second frame: zone 1 holds 80 as before, and both sheets are signed off
abbrev beside : List Line
beside = line 2 0x3A 0x05 ∷ line 2 0x45 0xA8 ∷ line 2 0x46 0x8A ∷ []

abbrev sent : List ℕ
sent = sendings (265 ∷ []) (run_of beside)

pub still : map (λ (l : Line). (after holder sent).settings (setting_of l)) zeros ≡ 0x80 ∷ 0x80 ∷ 0x80 ∷ []
unfolding running
still = refl

pub signed_after_lem : Signed (sent ++ asks) (zeros ++ beside)
unfolding signing
signed_after_lem = refl

-- the run of the sheet itself, cut inside its second frame: demand 3 holds of it, with 80 beside 00 at the cut, and 00 at the end
abbrev run : List ℕ
run = sendings (265 ∷ []) (run_of zeros)

accepted : sheet_verdict A zeros ≡ Ok tt
unfolding checking
accepted = refl

pub applied : Promised holder zeros run
applied = demand_3.holds A minus_zeros [] zeros (265 ∷ []) tt accepted

pub pulled : map (λ (l : Line). (moment holder run 265).settings (setting_of l)) zeros ≡ 0x00 ∷ 0x80 ∷ 0x80 ∷ []
unfolding running
pulled = refl

pub reached : map (λ (l : Line). (after holder run).settings (setting_of l)) zeros ≡ 0x00 ∷ 0x00 ∷ 0x00 ∷ []
unfolding running
reached = refl

pub signed_run : Signed run zeros
unfolding signing
signed_run = refl
