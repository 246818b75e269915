-- Promise, demand 2: "A message that is written reads back as itself, and a frame that reads as a message is written back to the
-- same bytes." Both directions, both profiles, denied included, through the frames. Document 02, C-14: "Demand 2's round trips get an
-- exception: 80 in these rows, read from a frame or handed to the writer, is written as 00 and reads back as 00." A command or a status
-- says a number and can't hold 80, and a denied message's data are as they came, so a message's own trip has none; the exception is
-- `ZeroPromise` and `ZeroFramePromise`.
use Rattle.std.specs.Prelude.{◌≡◌, true, false, List, [], ◌∷◌, ℕ, ◌+◌, ◌≤◌, length, pos, Ok, Some}
use Rattle.lent.specs.Placed.{placed, bytes_at}
use Rattle.lent.specs.Written.{write_answered, write_left}
use Rattle.frame.specs.Frame.{frame_of}
use Rattle.fields.specs.Fields.{fields_in, data_of}
use Rattle.frame.specs.Capture.{event, events_from, first_of}
use Rattle.frame.specs.declared.direction.Direction.{Direction}
use Rattle.frame.specs.declared.direction.Direction.TheVariants.{Command, Answer}
use Rattle.frame.specs.declared.capture.Kind.TheVariants as kind
use Rattle.row.specs.MinusZero.{is_minus_zero}
use Rattle.row.specs.Table.{row_of}
use Rattle.row.specs.declared.profile.Profile.{Profile}
use Rattle.row.specs.declared.table.Row.{Row}
use Rattle.message.specs.Message.{read_rules, message_of, read_of, is_denying, denied_data, frame_read}
use Rattle.message.specs.Write.{message_direction, write_rules, message_frame, fields_frame}
use Rattle.message.specs.declared.content.Content.TheVariants.{Number}
use Rattle.message.specs.declared.read.Said.{Said}
use Rattle.message.specs.declared.read.Denial.{Denial}
use Rattle.message.specs.declared.read.Message.{Message}
use Rattle.message.specs.declared.read.Message.TheVariants as messages

-- bytes that read as a message with these data (a denied message's; the others have none beside their content)
pub record ReadsAs (profile : Profile) (dir : Direction) (bytes : List ℕ) (m : Message) (body : List ℕ) : Type 0 where
  pub message : frame_read profile dir bytes ≡ Some (Ok m)
  pub load : denied_data m (data_of dir bytes) ≡ denied_data m body

-- so many bytes from a place on are one frame there, and it reads as a message with these data
pub record ReadsBack (profile : Profile) (dir : Direction) (buf : List ℕ) (at n : ℕ) (m : Message) (body : List ℕ) : Type 0 where
  pub found : first_of (events_from dir buf at) ≡ Some (event at n kind.Frame)
  pub back : ReadsAs profile dir (bytes_at buf at n) m body

-- "80 in these rows": the data of a command, or of an answer that does not deny; whether they are read is not asked here (S 3B's command
-- is refused)
pub record FieldsAreMinusZero (profile : Profile) (dir : Direction) (command ac : ℕ) (body : List ℕ) : Type 0 where
  pub row : Row
  pub there : row_of profile command ≡ Some row
  pub zero : is_minus_zero row 0x80 ≡ true
  pub load : body ≡ 0x80 ∷ []
  pub accepts : is_denying dir ac ≡ false

-- the same of a frame's bytes
abbrev pub BringsMinusZero : Profile → Direction → List ℕ → Type 0
BringsMinusZero profile dir bytes = FieldsAreMinusZero profile dir (fields_in dir bytes).command (fields_in dir bytes).answer (data_of dir bytes)

pub record MessagePromise : Type 0 where
  -- a message that was written reads back as itself
  pub message : (profile : Profile) (buf : List ℕ) (at : ℕ) (m : Message) (body : List ℕ) (n : ℕ)
      → write_answered (write_rules profile m body) buf at (message_frame profile m body) ≡ Ok n
      → ReadsBack profile (message_direction m) (write_left (write_rules profile m body) buf at (message_frame profile m body)) at n m body
  -- a denied message reads back under either profile
  pub denied : (profile other : Profile) (buf : List ℕ) (at : ℕ) (d : Denial) (body : List ℕ) (n : ℕ)
      → write_answered (write_rules profile (messages.Denied d) body) buf at (message_frame profile (messages.Denied d) body) ≡ Ok n
      → ReadsBack other Answer (write_left (write_rules profile (messages.Denied d) body) buf at (message_frame profile (messages.Denied d) body)) at n (messages.Denied d) body
  -- fields and data that were written are a message, and read back as it
  pub fields : (profile : Profile) (dir : Direction) (buf : List ℕ) (at zone command ac : ℕ) (body : List ℕ) (n : ℕ)
      → write_answered (read_rules profile dir zone command ac body) buf at (fields_frame profile dir zone command ac body) ≡ Ok n
      → (m : Message) × (message_of profile dir zone command ac body ≡ Ok m)
      × ReadsBack profile dir (write_left (read_rules profile dir zone command ac body) buf at (fields_frame profile dir zone command ac body)) at n m body
  -- and they are written as they are, but for minus zero
  pub unchanged : (profile : Profile) (dir : Direction) (zone command ac : ℕ) (body : List ℕ) (m : Message) → read_of profile dir zone command ac body ≡ Ok m
      → (FieldsAreMinusZero profile dir command ac body → ⊥) → fields_frame profile dir zone command ac body ≡ frame_of dir zone command ac body
  -- a frame that reads as a message goes that message's way; where there is room the message is written, in as many bytes, and as its
  -- bytes, but for minus zero
  pub way : (profile : Profile) (dir : Direction) (bytes : List ℕ) (m : Message) → frame_read profile dir bytes ≡ Some (Ok m) → message_direction m ≡ dir
  pub said : (profile : Profile) (dir : Direction) (bytes : List ℕ) (m : Message) → frame_read profile dir bytes ≡ Some (Ok m)
      → (buf : List ℕ) (at : ℕ) → at + length bytes ≤ length buf
      → write_answered (write_rules profile m (data_of dir bytes)) buf at (message_frame profile m (data_of dir bytes)) ≡ Ok (length bytes)
  pub again : (profile : Profile) (dir : Direction) (bytes : List ℕ) (m : Message) → frame_read profile dir bytes ≡ Some (Ok m)
      → (BringsMinusZero profile dir bytes → ⊥) → (buf : List ℕ) (at : ℕ) → at + length bytes ≤ length buf
      → write_left (write_rules profile m (data_of dir bytes)) buf at (message_frame profile m (data_of dir bytes)) ≡ placed buf at bytes

-- the message that says 0
abbrev pub zero_said : ℕ → ℕ → Said
zero_said zone command = record { zone = zone; command = command; content = Number (pos 0) }

abbrev pub zero_message : Direction → ℕ → ℕ → Message
zero_message Command zone command = messages.Command (zero_said zone command)
zero_message Answer zone command = messages.Status (zero_said zone command)

-- minus zero among fields that are read: what it reads as, what is written for it, and what that reads as
pub record ZeroPromise (profile : Profile) (dir : Direction) (zone command ac : ℕ) (body : List ℕ) (z : FieldsAreMinusZero profile dir command ac body) (m : Message)
    (e : read_of profile dir zone command ac body ≡ Ok m) : Type 0 where
  -- "Read 80 as zero"
  pub says : m ≡ zero_message dir zone command
  -- "handed to the writer, is written as 00 and reads back as 00"
  pub turned : fields_frame profile dir zone command ac body ≡ frame_of dir zone command ac (0x00 ∷ [])
  pub back : frame_read profile dir (frame_of dir zone command ac (0x00 ∷ [])) ≡ Some (Ok m)

-- the same frame with 00
abbrev pub frame_with00 : Direction → List ℕ → List ℕ
frame_with00 dir bytes = frame_of dir (fields_in dir bytes).zone (fields_in dir bytes).command (fields_in dir bytes).answer (0x00 ∷ [])

-- and from a frame
pub record ZeroFramePromise (profile : Profile) (dir : Direction) (bytes : List ℕ) (z : BringsMinusZero profile dir bytes) (m : Message)
    (e : frame_read profile dir bytes ≡ Some (Ok m)) : Type 0 where
  -- "Read 80 as zero"
  pub says : m ≡ zero_message dir (fields_in dir bytes).zone (fields_in dir bytes).command
  -- "read from a frame .. is written as 00 and reads back as 00"
  pub again : (buf : List ℕ) (at : ℕ) → at + length bytes ≤ length buf
      → write_left (write_rules profile m (data_of dir bytes)) buf at (message_frame profile m (data_of dir bytes)) ≡ placed buf at (frame_with00 dir bytes)
  pub back : frame_read profile dir (frame_with00 dir bytes) ≡ Some (Ok m)
