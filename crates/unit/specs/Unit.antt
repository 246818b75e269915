-- Document 01, 'The unit': its settings, and what each byte does to it. Document 02, C-14: "the unit takes 80 as 00".
use Rattle.std.specs.Prelude.{ℕ, ◌≡◌, Bool, true, false, cond, ◌&&◌, List, [], ◌∷◌, ◌++◌, eqb, Err, None, Ok, Option, Result, Some}
use Rattle.streams.specs.Stream.{answers_by, reader_by}
use Rattle.lists.specs.InOrder.{joined}
use Rattle.frame.specs.Frame.{frame_of}
use Rattle.frame.specs.Reader.{answer_to, taken_after}
use Rattle.fields.specs.Fields.{fields_in, data_in}
use Rattle.frame.specs.declared.direction.Direction.TheVariants.{Command, Answer}
use Rattle.frame.specs.declared.reader.ByteAnswer.{ByteAnswer}
use Rattle.frame.specs.declared.reader.ByteAnswer.TheVariants.{Waiting, Noise, Frame, Broken}
use Rattle.row.specs.MinusZero.{normal_in}
use Rattle.row.specs.Table.{row_of}
use Rattle.row.specs.declared.profile.Profile.{Profile}
use Rattle.row.specs.declared.table.Row.{Row}
use Rattle.message.specs.Content.{encoded_of}
use Rattle.message.specs.Message.{read_of}
use Rattle.message.specs.declared.content.Content.{Content}
use Rattle.message.specs.declared.content.Encoded.{Encoded}
use Rattle.message.specs.declared.content.Encoded.TheVariants.{One, Two}
use Rattle.message.specs.declared.read.Said.{Said}
use Rattle.message.specs.declared.read.Message.TheVariants as message
use Rattle.unit.specs.House.{value_after}
use Rattle.refusals.specs.declared.refusal.Refusal.{Refusal}
use Rattle.refusals.specs.declared.refusal.Refusal.TheVariants.{WrongZone, NoRow, WrongLength}
use Rattle.message.specs.declared.read.Message.{Message}

-- what a unit has a value for: a zone and a row, which its command names; "S 0F: a value per input and a current input"
pub data Setting : Type 0 where
  value : ℕ → ℕ → Setting
  input : ℕ → Setting
  current : Setting

abbrev pub Settings : Type 0
Settings = Setting → ℕ

abbrev pub same_setting : Setting → Setting → Bool
same_setting (value zone command) (value z c) = eqb zone z && eqb command c
same_setting (value zone command) (input j) = false
same_setting (value zone command) current = false
same_setting (input i) (value z c) = false
same_setting (input i) (input j) = eqb i j
same_setting (input i) current = false
same_setting current (value z c) = false
same_setting current (input j) = false
same_setting current current = true

-- one cell holds this value, and every other what it held
abbrev pub put : Settings → Setting → ℕ → Settings
put s x v y = cond (same_setting x y) v (s y)

-- "A unit is a command reader plus one legal answer value per row and zone": the reader is the bytes that it has taken of a frame
pub record Unit : Type 0 where
  pub profile : Profile
  pub taken : List ℕ
  pub settings : Settings

-- what a cell's value is compared by: 80 counts as 00 in the rows where it is zero, and every other value is itself
abbrev pub compared : Profile → Setting → ℕ → ℕ
compared profile (value zone command) v = normal_in (row_of profile command) v
compared profile (input i) v = v
compared profile current v = v

-- a setting holds a value: demand 3, the truth of what is known and what a sign-off says of the unit are stated by this; what a frame does
-- to a unit is stated to the byte. Document 02, C-14: "wherever a unit's setting is compared, 80 and 00 are the same value"
abbrev pub Holds : Unit → Setting → ℕ → Type 0
Holds u x v = compared u.profile x (u.settings x) ≡ compared u.profile x v

-- the cell that a command is about: its row's value in its zone; "For S 0F a request answers for the current input, a setting for the
-- named one", and two bytes of data name one
abbrev pub named : Option Encoded → ℕ → ℕ
named (Some (One b)) now = now
named (Some (Two i on)) now = i
named None now = now

abbrev pub about : Row → Settings → ℕ → ℕ → Content → Setting
about row s zone command c = cond row.pair (input (named (encoded_of row c) (s current))) (value zone command)

-- the data that show a cell's value: the value, and for S 0F the input before it; no command is about the current input itself
abbrev pub shown : Setting → ℕ → List ℕ
shown (value zone command) v = v ∷ []
shown (input i) v = i ∷ v ∷ []
shown current v = v ∷ []

-- what is done: the settings after it, and the bytes of the answer
pub record Done : Type 0 where
  pub settings : Settings
  pub answer : List ℕ

abbrev pub nothing : Settings → Done
nothing s = record { settings = s; answer = [] }

-- "Otherwise the command acts and the answer holds the row's value after it."
abbrev pub acted : Row → Settings → Said → Done
acted row s said =
    let x = about row s said.zone said.command said.content in
    let set = put s x (value_after row said.content (s x)) in
    record { settings = set; answer = frame_of Answer said.zone said.command 0x00 (shown x (set x)) }

-- "A refused frame changes nothing and is answered with Ac 82, 83, 86, 84 for 1, 2, 3, 4, its zone and command, Dl 0."; document 02,
-- C-11: "The unit answers Ac 84 for both", 4 and 13; a command gets no other number (`ToldDenial`), so all others are 84 here
abbrev pub refusal_code : Refusal → ℕ
refusal_code WrongZone = 0x82
refusal_code NoRow = 0x83
refusal_code WrongLength = 0x86
refusal_code _ = 0x84

abbrev pub refused : Settings → ℕ → ℕ → Refusal → Done
refused s zone command e = record { settings = s; answer = frame_of Answer zone command (refusal_code e) [] }

-- in the row that was found; no command is read without one
abbrev pub acted_in : Option Row → Settings → Said → Done
acted_in (Some row) s said = acted row s said
acted_in None s said = nothing s

-- by the message that it is read as; no command is read as a status or as denied
abbrev pub done_by : Profile → Settings → ℕ → ℕ → Result Message Refusal → Done
done_by profile s zone command (Ok (message.Command said)) = acted_in (row_of profile said.command) s said
done_by profile s zone command (Ok (message.Status said)) = nothing s
done_by profile s zone command (Ok (message.Denied d)) = nothing s
done_by profile s zone command (Err e) = refused s zone command e

-- what a frame does, by its bytes and what the message reader makes of them
abbrev pub zone_in : List ℕ → ℕ
zone_in bytes = (fields_in Command bytes).zone

abbrev pub command_in : List ℕ → ℕ
command_in bytes = (fields_in Command bytes).command

abbrev pub heard : Profile → List ℕ → Result Message Refusal
heard profile bytes = read_of profile Command (zone_in bytes) (command_in bytes) 0 (data_in Command bytes)

unfoldable pub frame_done : Profile → Settings → List ℕ → Done
frame_done profile s bytes = done_by profile s (zone_in bytes) (command_in bytes) (heard profile bytes)

-- what a byte does, by the reader's answer to it; "A broken frame is ignored."
abbrev pub byte_done : Unit → ℕ → ByteAnswer → Done
byte_done u b Waiting = nothing u.settings
byte_done u b Noise = nothing u.settings
byte_done u b (Broken n) = nothing u.settings
byte_done u b (Frame n) = frame_done u.profile u.settings (u.taken ++ b ∷ [])

abbrev pub done : Unit → ℕ → Done
done u b = byte_done u b (answer_to Command u.taken b)

abbrev pub takes : Unit → ℕ → Unit
takes u b = record { profile = u.profile; taken = taken_after Command u.taken b; settings = (done u b).settings }

-- bytes sent one after another: the unit after them, and the bytes of its answers
abbrev pub after : Unit → List ℕ → Unit
after u bytes = reader_by takes u bytes

abbrev pub replies : Unit → List ℕ → List ℕ
replies u bytes = joined (answers_by takes (λ (v : Unit) (b : ℕ). (done v b).answer) u bytes)
