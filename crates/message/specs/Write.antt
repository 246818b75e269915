-- Document 01, 'Refusal numbers': "Writing checks the same (a message written as denied: only 5, then 3 for data over 255) and then 9."
use Rattle.std.specs.Prelude.{ℕ, not, List, [], ◌∷◌, None, Option, Some}
use Rattle.refusals.specs.Rule.{Rule, rule}
use Rattle.frame.specs.Frame.{frame_of}
use Rattle.fields.specs.Raw.{too_long}
use Rattle.frame.specs.declared.direction.Direction.{Direction}
use Rattle.frame.specs.declared.direction.Direction.TheVariants.{Command, Answer}
use Rattle.row.specs.Table.{row_of}
use Rattle.row.specs.declared.profile.Profile.{Profile}
use Rattle.row.specs.declared.table.Row.{Row}
use Rattle.judging.specs.Judge.{wrong_length, value_rules, row_rules}
use Rattle.message.specs.Content.{encoded_of, encoded_data, size_of, is_form}
use Rattle.message.specs.Message.{is_denial, data_read}
use Rattle.message.specs.declared.content.Content.{Content}
use Rattle.message.specs.declared.read.Message.{Message}
use Rattle.message.specs.declared.read.Message.TheVariants as message
use Rattle.refusals.specs.declared.refusal.Refusal.TheVariants.{WrongAnswer}

-- what a command or a status says is judged by the data that it would write: 13 where they are a step or request that the row lacks;
-- 4 for every other form that the row lacks, also where it has the data and says something else by them, as A 37, whose F1 is `on`,
-- lacks `up`, and for a number without a code
abbrev pub form_rules : Direction → Content → Row → List Rule
form_rules dir content row = wrong_length dir row (size_of content) ∷ value_rules dir row (encoded_data (encoded_of row content)) (not (is_form dir row content))

abbrev pub said_rules : Profile → Direction → ℕ → ℕ → Content → List Rule
said_rules profile dir zone command content = row_rules profile zone command (form_rules dir content)

-- 5: "answer code not 00 or 82 to 86; 00 in a message to be written as denied"
abbrev pub not_denied : ℕ → Rule
not_denied ac = rule WrongAnswer (not (is_denial ac))

-- which way a message goes, its rules, and its frame
abbrev pub message_direction : Message → Direction
message_direction (message.Command s) = Command
message_direction (message.Status s) = Answer
message_direction (message.Denied d) = Answer

abbrev pub write_rules : Profile → Message → List ℕ → List Rule
write_rules profile (message.Command s) body = said_rules profile Command s.zone s.command s.content
write_rules profile (message.Status s) body = said_rules profile Answer s.zone s.command s.content
write_rules profile (message.Denied d) body = not_denied d.answer ∷ too_long body ∷ []

-- the data of what is said, in the row that was found; without one it has none
abbrev pub said_in : Option Row → Content → List ℕ
said_in (Some row) content = encoded_data (encoded_of row content)
said_in None content = []

abbrev pub said_data : Profile → ℕ → Content → List ℕ
said_data profile command content = said_in (row_of profile command) content

abbrev pub message_frame : Profile → Message → List ℕ → List ℕ
message_frame profile (message.Command s) body = frame_of Command s.zone s.command 0 (said_data profile s.command s.content)
message_frame profile (message.Status s) body = frame_of Answer s.zone s.command 0 (said_data profile s.command s.content)
message_frame profile (message.Denied d) body = frame_of Answer d.zone d.command d.answer body

-- the frame of the message that fields and data are
abbrev pub fields_frame : Profile → Direction → ℕ → ℕ → ℕ → List ℕ → List ℕ
fields_frame profile dir zone command ac body = frame_of dir zone command ac (data_read profile dir command ac body)
