-- Promise: document 02, C-11, evaluated as one table: frames for each of its sentences, and typed forms, which are judged by the data
-- that they would write.
use Rattle.std.specs.Prelude.{◌≡◌, true, List, [], ◌∷◌, map, ℕ, pos, neg_ℤ, Err, Some}
use Rattle.refusals.specs.Refusal.{number}
use Rattle.refusals.specs.Rule.{ruled}
use Rattle.refusals.specs.declared.refusal.Refusal.{Refusal}
use Rattle.frame.specs.declared.direction.Direction.{Direction}
use Rattle.frame.specs.declared.direction.Direction.TheVariants.{Command, Answer}
use Rattle.row.specs.declared.profile.Profile.{Profile}
use Rattle.row.specs.declared.profile.Profile.TheVariants.{A, S}
use Rattle.message.specs.BenchPromise.{Bench, bench, bench_reading}
use Rattle.message.specs.Write.{said_rules}
use Rattle.message.specs.declared.content.Content.{Content}
use Rattle.message.specs.declared.content.Content.TheVariants.{Up, Down, On, Off, Toggle, LevellerOff, Number, Input}
use Rattle.refusals.specs.declared.refusal.Refusal.TheVariants.{NoRow, NoStep, WrongLength, WrongValue, WrongZone}

unfoldable pub step_frames : List Bench
step_frames =
    -- "So `21 01 37 01 F1 0D` for S becomes 13, and A 38 with F1 too."
    bench S Command (0x21 ∷ 0x01 ∷ 0x37 ∷ 0x01 ∷ 0xF1 ∷ 0x0D ∷ []) (Some (Err NoStep))
    ∷ bench A Command (0x21 ∷ 0x01 ∷ 0x38 ∷ 0x01 ∷ 0xF1 ∷ 0x0D ∷ []) (Some (Err NoStep))
    ∷ bench A Command (0x21 ∷ 0x01 ∷ 0x38 ∷ 0x01 ∷ 0xF2 ∷ 0x0D ∷ []) (Some (Err NoStep))
    -- "4 stays for a setting code outside the row's codes", for F3 too, which is no step, "and for all answers"
    ∷ bench A Command (0x21 ∷ 0x01 ∷ 0x38 ∷ 0x01 ∷ 0x03 ∷ 0x0D ∷ []) (Some (Err WrongValue))
    ∷ bench A Command (0x21 ∷ 0x01 ∷ 0x38 ∷ 0x01 ∷ 0xF3 ∷ 0x0D ∷ []) (Some (Err WrongValue))
    ∷ bench A Answer (0x21 ∷ 0x01 ∷ 0x38 ∷ 0x00 ∷ 0x01 ∷ 0xF1 ∷ 0x0D ∷ []) (Some (Err WrongValue))
    -- "S 0F with two data bytes keeps 4."; one byte F1 is a step that it lacks
    ∷ bench S Command (0x21 ∷ 0x01 ∷ 0x0F ∷ 0x02 ∷ 0xF1 ∷ 0x01 ∷ 0x0D ∷ []) (Some (Err WrongValue))
    ∷ bench S Command (0x21 ∷ 0x01 ∷ 0x0F ∷ 0x01 ∷ 0xF1 ∷ 0x0D ∷ []) (Some (Err NoStep))
    -- "at 4's place in the order": behind 1, 2 and 3
    ∷ bench A Command (0x21 ∷ 0x04 ∷ 0x38 ∷ 0x01 ∷ 0xF1 ∷ 0x0D ∷ []) (Some (Err WrongZone))
    ∷ bench A Command (0x21 ∷ 0x01 ∷ 0x0D ∷ 0x01 ∷ 0xF1 ∷ 0x0D ∷ []) (Some (Err NoRow))
    ∷ bench A Command (0x21 ∷ 0x01 ∷ 0x38 ∷ 0x02 ∷ 0xF1 ∷ 0xF1 ∷ 0x0D ∷ []) (Some (Err WrongLength))
    ∷ []

-- a typed form that is to be written in zone 1, and its refusal
pub record Typed : Type 0 where
  pub profile : Profile
  pub dir : Direction
  pub command : ℕ
  pub content : Content
  pub refused : Refusal

abbrev pub typed : Profile → Direction → ℕ → Content → Refusal → Typed
typed profile dir command content e = record { profile = profile; dir = dir; command = command; content = content; refused = e }

unfoldable pub step_forms : List Typed
step_forms =
    -- one byte F0, F1 or F2 that the row lacks
    typed A Command 0x38 Up NoStep
    ∷ typed A Command 0x38 On NoStep
    ∷ typed S Command 0x37 Down NoStep
    ∷ typed S Command 0x0F Off NoStep
    ∷ typed A Command 0x38 (Number (pos 241)) NoStep
    ∷ typed S Command 0x5C (Number (pos 242)) NoStep
    ∷ typed S Command 0x3B (Number (neg_ℤ (pos 113))) NoStep
    ∷ typed S Command 0x0E Up NoStep
    -- one that the row has and says something else by
    ∷ typed A Command 0x37 Up WrongValue
    ∷ typed A Command 0x39 On WrongValue
    ∷ typed A Command 0x38 (Number (pos 240)) WrongValue
    ∷ typed A Command 0x3A (Number (neg_ℤ (pos 113))) WrongValue
    -- another byte, no byte, two bytes, and an answer
    ∷ typed A Command 0x38 Toggle WrongValue
    ∷ typed A Command 0x38 LevellerOff WrongValue
    ∷ typed A Command 0x38 (Number (pos 243)) WrongValue
    ∷ typed A Command 0x38 (Number (pos 497)) WrongValue
    ∷ typed A Command 0x38 (Number (neg_ℤ (pos 15))) WrongValue
    ∷ typed S Command 0x0F (Input 0xF1 true) WrongValue
    ∷ typed A Answer 0x38 Up WrongValue
    ∷ []

-- the number that a typed form is refused with; 0 would be none
abbrev pub typed_number : Typed → ℕ
typed_number t = ruled (said_rules t.profile t.dir 0x01 t.command t.content) number 0

pub record StepTablePromise : Type 0 where
  pub frames : map bench_reading step_frames ≡ map (λ (b : Bench). b.means) step_frames
  pub forms : map typed_number step_forms ≡ map (λ (t : Typed). number t.refused) step_forms
