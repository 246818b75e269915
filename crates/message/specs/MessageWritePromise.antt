-- Promise: "Writing checks the same .. and then 9": a message, and fields and data that are to be a message, are written by the promise of all
-- writing: the first rule that applies gives its number, a refusal changes nothing, and what is written stands at its place alone.
use Rattle.std.specs.Prelude.{◌≡◌, cond, List, [], ◌⊎◌, ℕ, length, Some}
use Rattle.refusals.specs.declared.refusal.Refusal.{Refusal}
use Rattle.refusals.specs.declared.refusal.Refusal.TheVariants.{WrongLength, WrongValue}
use Rattle.refusals.specs.RulePromise.{FirstApplies, NoneApplies}
use Rattle.lent.specs.WritePromise.{WritePromise}
use Rattle.frame.specs.declared.direction.Direction.{Direction}
use Rattle.row.specs.Table.{row_of}
use Rattle.row.specs.declared.profile.Profile.{Profile}
use Rattle.row.specs.declared.table.Row.{Row}
use Rattle.judging.specs.Judge.{has_length, row_rules, judge_rules}
use Rattle.message.specs.Content.{size_of}
use Rattle.message.specs.Message.{read_rules}
use Rattle.message.specs.Write.{said_rules, write_rules, said_data, message_frame, fields_frame}
use Rattle.message.specs.declared.content.Content.{Content}
use Rattle.message.specs.declared.read.Message.{Message}

pub record MessageWritePromise : Type 0 where
  pub message : (profile : Profile) (buf : List ℕ) (at : ℕ) (m : Message) (body : List ℕ) → WritePromise (write_rules profile m body) buf at (message_frame profile m body)
  pub fields : (profile : Profile) (dir : Direction) (buf : List ℕ) (at zone command ac : ℕ) (body : List ℕ)
      → WritePromise (read_rules profile dir zone command ac body) buf at (fields_frame profile dir zone command ac body)

-- Promise: "Writing checks the same": what reading the data of a content is refused with, writing the content is refused with.
pub record SameChecksPromise (profile : Profile) (dir : Direction) (zone command : ℕ) (content : Content) : Type 0 where
  -- zone and row come first, whatever the data
  pub row : (e : Refusal) → FirstApplies (row_rules profile zone command (λ row. [])) e → (body : List ℕ)
      → FirstApplies (judge_rules profile dir zone command body) e × FirstApplies (said_rules profile dir zone command content) e
  -- where the content has data, their refusal is its refusal
  pub read : length (said_data profile command content) ≡ size_of content → (e : Refusal) → FirstApplies (judge_rules profile dir zone command (said_data profile command content)) e
      → FirstApplies (said_rules profile dir zone command content) e
  -- and beside these comes 4 alone: its data are legal, and say another form of the row
  pub written : length (said_data profile command content) ≡ size_of content → (e : Refusal) → FirstApplies (said_rules profile dir zone command content) e
      → FirstApplies (judge_rules profile dir zone command (said_data profile command content)) e
      ⊎ ((e ≡ WrongValue) × NoneApplies (judge_rules profile dir zone command (said_data profile command content)))
  -- a number without a code has no data: it is 3 where the row lacks the length of a number, else 4
  pub uncoded : (length (said_data profile command content) ≡ size_of content → ⊥) → (row : Row) → row_of profile command ≡ Some row
      → NoneApplies (row_rules profile zone command (λ row. [])) → FirstApplies (said_rules profile dir zone command content) (cond (has_length dir row (size_of content)) WrongValue WrongLength)
