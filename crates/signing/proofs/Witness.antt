-- Answers that make cells known, and answers that change nothing, computed from the definitions.
use mathlib.Core.Path.{◌≡◌, refl}
use mathlib.Core.List.{List, [], ◌∷◌, ◌++◌, map}
use Prim.Native.Nat.{ℕ}
use lib.ListN.{replicate}
use Rattle.lists.specs.InOrder.{in_order}
use Rattle.frame.specs.Reader.{answer_to, taken_after}
use Rattle.frame.specs.Capture.{events_told, events_from}
use Rattle.fields.specs.Fields.{is_frame}
use Rattle.lent.specs.Placed.{bytes_at}
use Rattle.row.specs.Signed.{number_of, code_of, plain_code_of}
use Rattle.row.specs.Table.{table, first_row}
use Rattle.row.specs.declared.profile.Profile.{Profile}
use Rattle.row.specs.declared.profile.Profile.TheVariants.{A, S}
use Rattle.judging.specs.Judge.{row_judged}
use Rattle.message.specs.Content.{content_of}
use Rattle.message.specs.Message.{read_of}
use Rattle.sheet.specs.Line.{is_legal, is_repeated}
use Rattle.sheet.specs.Check.{lowest_fault, sheet_verdict}
use Rattle.sheet.specs.declared.line.Line.{Line}
use Rattle.tracker.specs.Tracker.{fresh_tracker, kept_in}
use Rattle.tracker.specs.Feed.{answer_fed, BroughtAnswer, answers_fed}
use Rattle.signing.specs.Sign.{all_hold, sign_off}
use Rattle.signing.specs.Capture.{capture_signed}
use Rattle.tracker.specs.declared.tracker.Tracker.{Tracker}
use Rattle.tracker.specs.declared.tracker.Kept.{Kept}
use Rattle.tracker.specs.declared.tracker.Kept.TheVariants.{Value, Unknown, NoCell}
use Rattle.streams.specs.Stream.{answers_by, reader_by}
use Rattle.std.specs.Prelude.{Err, Ok, true, false}
use Rattle.refusals.specs.declared.refusal.Refusal.TheVariants.{IllegalLine}
use Rattle.refusals.specs.Refusal.{fault}

abbrev levelled : Tracker
levelled = (answer_fed (fresh_tracker A) 2 0x39 0x00 (0xFF ∷ [])).tracker

-- FF is a value like any other; the zone beside it stays unknown
pub status_known : kept_in levelled 2 0x39 ≡ Value 0xFF
unfolding kept_in read_of content_of row_judged first_row table number_of code_of plain_code_of
status_known = refl

pub beside_unknown : kept_in levelled 1 0x39 ≡ Unknown
unfolding kept_in read_of content_of row_judged first_row table number_of code_of plain_code_of
beside_unknown = refl

-- the last answer counts, a denial changes nothing, and a refused answer changes nothing
pub last_known : kept_in (answer_fed levelled 2 0x39 0x00 (0x05 ∷ [])).tracker 2 0x39 ≡ Value 0x05
unfolding kept_in read_of content_of row_judged first_row table number_of code_of plain_code_of
last_known = refl

pub denied_kept : kept_in (answer_fed levelled 2 0x39 0x85 (0x05 ∷ [])).tracker 2 0x39 ≡ Value 0xFF
unfolding kept_in read_of content_of row_judged first_row table number_of code_of plain_code_of
denied_kept = refl

pub refused_kept : kept_in (answer_fed levelled 2 0x39 0x00 (0x0B ∷ [])).tracker 2 0x39 ≡ Value 0xFF
unfolding kept_in read_of content_of row_judged first_row table number_of code_of plain_code_of
refused_kept = refl

-- S 0F has no cell
pub direct_none : kept_in (answer_fed (fresh_tracker S) 1 0x0F 0x00 (0x01 ∷ 0x01 ∷ [])).tracker 1 0x0F ≡ NoCell
unfolding kept_in read_of content_of row_judged first_row table number_of code_of plain_code_of
direct_none = refl

-- document 02, C-14: "The tracker keeps 00": an answer of 80 in each of the four rows; another 80 in a row that is not signed is refused
abbrev after80 : Profile → ℕ → Kept
after80 profile command = kept_in (answer_fed (fresh_tracker profile) 1 command 0x00 (0x80 ∷ [])).tracker 1 command

pub minus_zero_kept : map (after80 A) (0x3A ∷ 0x45 ∷ 0x46 ∷ []) ++ after80 S 0x3B ∷ [] ≡ replicate 4 (Value 0x00)
unfolding kept_in read_of content_of row_judged first_row table number_of code_of plain_code_of
minus_zero_kept = refl

pub other_80 : after80 A 0x39 ≡ Unknown
unfolding kept_in read_of content_of row_judged first_row table number_of code_of plain_code_of
other_80 = refl

-- the offset of zone 1 in a tracker that the host has spoilt: 80 is no sheet value, so it is unknown
pub spoilt_80 : kept_in (record { profile = A; states = replicate 57 1; values = replicate 57 0x80 }) 1 0x3A ≡ Unknown
unfolding kept_in row_judged first_row table
spoilt_80 = refl

-- a history whose answers show every line is signed off, and so it is after a denial; one whose last answer to one line shows
-- another value is not; a line that no answer showed is not
abbrev line : ℕ → ℕ → ℕ → Line
line zone command value = record { zone = zone; command = command; value = value }

abbrev answer : ℕ → ℕ → ℕ → ℕ → BroughtAnswer
answer zone command ac value = record { zone = zone; command = command; answer = ac; body = value ∷ [] }

abbrev two : List Line
two = line 2 0x39 0xFF ∷ line 1 0x38 0x02 ∷ []

abbrev history : List BroughtAnswer
history = answer 1 0x38 0x00 0x01 ∷ answer 2 0x39 0x00 0xFF ∷ answer 1 0x38 0x00 0x02 ∷ []

abbrev heard : List BroughtAnswer → Tracker
heard fs = answers_fed (fresh_tracker A) fs

pub signed_yes_lem : sign_off (heard history) two ≡ Ok true
unfolding answers_fed all_hold kept_in read_of content_of row_judged first_row table sheet_verdict lowest_fault is_legal is_repeated number_of code_of plain_code_of
signed_yes_lem = refl

pub denied_yes : sign_off (heard (history ++ answer 1 0x38 0x85 0x01 ∷ [])) two ≡ Ok true
unfolding answers_fed all_hold kept_in read_of content_of row_judged first_row table sheet_verdict lowest_fault is_legal is_repeated number_of code_of plain_code_of
denied_yes = refl

pub stale_no : sign_off (heard (history ++ answer 1 0x38 0x00 0x01 ∷ [])) two ≡ Ok false
unfolding answers_fed all_hold kept_in read_of content_of row_judged first_row table sheet_verdict lowest_fault is_legal is_repeated number_of code_of plain_code_of
stale_no = refl

pub unknown_no : sign_off (heard history) (two ++ line 1 0x39 0xFF ∷ []) ≡ Ok false
unfolding answers_fed all_hold kept_in read_of content_of row_judged first_row table sheet_verdict lowest_fault is_legal is_repeated number_of code_of plain_code_of
unknown_no = refl

-- an answered 80 signs a line of 00 off; a line of 80 is 7
pub zero_yes : sign_off (heard (answer 1 0x3A 0x00 0x80 ∷ [])) (line 1 0x3A 0x00 ∷ []) ≡ Ok true
unfolding answers_fed all_hold kept_in read_of content_of row_judged first_row table sheet_verdict lowest_fault is_legal is_repeated number_of code_of plain_code_of
zero_yes = refl

pub zero_refused : sign_off (heard (answer 1 0x3A 0x00 0x80 ∷ [])) (line 1 0x3A 0x80 ∷ []) ≡ Err (fault IllegalLine 0)
unfolding answers_fed all_hold kept_in read_of content_of row_judged first_row table sheet_verdict lowest_fault is_legal is_repeated number_of code_of plain_code_of
zero_refused = refl

-- the sheet's refusal; and a sheet of no lines
pub signed_refused : sign_off (heard history) (line 2 0x39 0xFF ∷ line 2 0x39 0x0B ∷ []) ≡ Err (fault IllegalLine 1)
unfolding answers_fed all_hold kept_in read_of content_of row_judged first_row table sheet_verdict lowest_fault is_legal is_repeated number_of code_of plain_code_of
signed_refused = refl

pub none_signed : (t : Tracker) → sign_off t [] ≡ Ok true
unfolding all_hold sheet_verdict lowest_fault
none_signed t = refl

-- by a capture: noise, the answers, a broken stretch and a denial that change nothing, and bytes that are pending
abbrev whole : List ℕ
whole =
    0x00
    ∷ 0x21 ∷ 0x02 ∷ 0x39 ∷ 0x00 ∷ 0x01 ∷ 0xFF ∷ 0x0D
    ∷ 0x21 ∷ 0x01 ∷ 0x38 ∷ 0x00 ∷ 0x01 ∷ 0x02 ∷ 0x0D
    ∷ 0x21 ∷ 0x01 ∷ 0x38 ∷ 0x00 ∷ 0x01 ∷ 0x01 ∷ 0x00
    ∷ 0x21 ∷ 0x01 ∷ 0x38 ∷ 0x85 ∷ 0x01 ∷ 0x01 ∷ 0x0D
    ∷ []

pub capture_yes : capture_signed A two (whole ++ 0x21 ∷ 0x01 ∷ []) ≡ Ok true
unfolding answers_fed all_hold kept_in read_of content_of row_judged first_row table sheet_verdict lowest_fault is_legal is_repeated in_order events_from events_told answers_by reader_by answer_to taken_after bytes_at is_frame number_of code_of plain_code_of
capture_yes = refl

-- one answer more that shows another value
pub capture_no : capture_signed A two (whole ++ 0x21 ∷ 0x01 ∷ 0x38 ∷ 0x00 ∷ 0x01 ∷ 0x01 ∷ 0x0D ∷ []) ≡ Ok false
unfolding answers_fed all_hold kept_in read_of content_of row_judged first_row table sheet_verdict lowest_fault is_legal is_repeated in_order events_from events_told answers_by reader_by answer_to taken_after bytes_at is_frame number_of code_of plain_code_of
capture_no = refl
