-- Document 01, 'Refusal numbers': "A message is read from the zone, command, answer code and data that a frame brings."
use Rattle.std.specs.Prelude.{ℕ, Bool, false, cond, not, ◌&&◌, ◌||◌, List, [], ◌∷◌, map, eqb, leb, Err, None, Ok, Option, Result, Some}
use Rattle.refusals.specs.Rule.{Rule, rule, ruled}
use Rattle.fields.specs.Fields.{is_frame, fields_in, data_in}
use Rattle.fields.specs.Raw.{too_long}
use Rattle.frame.specs.declared.direction.Direction.{Direction}
use Rattle.frame.specs.declared.direction.Direction.TheVariants.{Command, Answer}
use Rattle.row.specs.MinusZero.{normal_in}
use Rattle.row.specs.Table.{row_of}
use Rattle.row.specs.declared.profile.Profile.{Profile}
use Rattle.row.specs.declared.table.Row.{Row}
use Rattle.judging.specs.Judge.{judge_rules}
use Rattle.message.specs.Content.{content_of}
use Rattle.message.specs.declared.read.Said.{Said}
use Rattle.message.specs.declared.read.Denial.{Denial}
use Rattle.message.specs.declared.read.Message.{Message}
use Rattle.message.specs.declared.read.Message.TheVariants as message
use Rattle.refusals.specs.declared.refusal.Refusal.{Refusal}
use Rattle.refusals.specs.declared.refusal.Refusal.TheVariants.{NoRow, WrongAnswer}

-- "if Ac is 82 to 86, the frame is the message denied"
abbrev pub is_denial : ℕ → Bool
is_denial ac = leb 0x82 ac && leb ac 0x86

-- 5: "answer code not 00 or 82 to 86"
abbrev pub wrong_code : ℕ → Rule
wrong_code ac = rule WrongAnswer (not (eqb ac 0x00 || is_denial ac))

-- "Answers: 5; then, if Ac is 82 to 86, the frame is the message denied with its zone, command, Ac and data as they came,
-- unchecked ..; if Ac is 00, as for commands." Denied data over 255, which no frame brings, are 3.
abbrev pub read_rules : Profile → Direction → ℕ → ℕ → ℕ → List ℕ → List Rule
read_rules profile Command zone command ac body = judge_rules profile Command zone command body
read_rules profile Answer zone command ac body =
    wrong_code ac ∷ cond (is_denial ac) (too_long body ∷ []) (judge_rules profile Answer zone command body)

-- what a command or a status says, in its row
abbrev pub said : Direction → Row → ℕ → ℕ → List ℕ → Said
said dir row zone command body = record { zone = zone; command = command; content = content_of dir row body }

abbrev pub denial : ℕ → ℕ → ℕ → Denial
denial zone command ac = record { zone = zone; command = command; answer = ac }

-- the message of the row that was found; without one it is 2 here too
abbrev pub message_in : Option Row → (Row → Message) → Result Message Refusal
message_in (Some row) means = Ok (means row)
message_in None means = Err NoRow

-- the message that they are, where none of the rules applies
abbrev pub message_of : Profile → Direction → ℕ → ℕ → ℕ → List ℕ → Result Message Refusal
message_of profile Command zone command ac body = message_in (row_of profile command) (λ row. message.Command (said Command row zone command body))
message_of profile Answer zone command ac body =
    cond (is_denial ac) (Ok (message.Denied (denial zone command ac)))
    (message_in (row_of profile command) (λ row. message.Status (said Answer row zone command body)))

unfoldable pub read_of : Profile → Direction → ℕ → ℕ → ℕ → List ℕ → Result Message Refusal
read_of profile dir zone command ac body =
    ruled (read_rules profile dir zone command ac body) Err (message_of profile dir zone command ac body)

-- does the answer code deny; a command has none
abbrev pub is_denying : Direction → ℕ → Bool
is_denying Command ac = false
is_denying Answer ac = is_denial ac

-- the data as the message has them: document 02, C-14: "80 in these rows .. is written as 00 and reads back as 00"; of a denied one
-- "as they came"
abbrev pub data_read : Profile → Direction → ℕ → ℕ → List ℕ → List ℕ
data_read profile dir command ac body = cond (is_denying dir ac) body (map (normal_in (row_of profile command)) body)

-- the data of a denied message, as they came; the other messages have theirs in their content
abbrev pub denied_data : Message → List ℕ → List ℕ
denied_data (message.Command s) body = []
denied_data (message.Status s) body = []
denied_data (message.Denied d) body = body

-- "An answer that is no message passes its number on unchanged."
abbrev pub from_reading : Result Message Refusal → Option (Result Message Refusal)
from_reading r = Some r

-- what the bytes of one whole frame read as
unfoldable pub frame_read : Profile → Direction → List ℕ → Option (Result Message Refusal)
frame_read profile dir bytes =
    cond (is_frame dir bytes)
    (from_reading (read_of profile dir (fields_in dir bytes).zone (fields_in dir bytes).command (fields_in dir bytes).answer (data_in dir bytes)))
    None

-- the data of the denied message that a frame is; nothing where it is none
abbrev pub denied_in : Option (Result Message Refusal) → List ℕ → List ℕ
denied_in (Some (Ok m)) body = denied_data m body
denied_in (Some (Err e)) body = []
denied_in None body = []
