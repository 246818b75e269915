-- Promise: document 01, 'The unit': what each frame leaves true of a unit at legal settings, and how the library reads its answers.
use Rattle.std.specs.Prelude.{ℕ, ◌≡◌, Bool, true, false, cond, List, [], ◌∷◌, ◌++◌, ◌⊎◌, Err, Ok, Some}
use Rattle.frame.specs.Frame.{frame_of}
use Rattle.frame.specs.Reader.{answer_to, taken_after, taken_by}
use Rattle.frame.specs.declared.reader.ByteAnswer.TheVariants.{Waiting, Noise, Frame, Broken}
use Rattle.frame.specs.declared.direction.Direction.TheVariants.{Command, Answer}
use Rattle.row.specs.Table.{row_of}
use Rattle.row.specs.declared.profile.Profile.{Profile}
use Rattle.row.specs.declared.table.Row.{Row}
use Rattle.message.specs.Content.{content_of}
use Rattle.message.specs.Message.{from_reading, frame_read}
use Rattle.message.specs.declared.content.Content.TheVariants.{Request, Input}
use Rattle.message.specs.declared.read.Said.{Said}
use Rattle.message.specs.declared.read.Message.TheVariants as message
use Rattle.sheet.specs.Line.{is_legal}
use Rattle.sheetfile.specs.Run.{line_frame}
use Rattle.sheet.specs.declared.line.Line.{Line}
use Rattle.unit.specs.House.{value_after}
use Rattle.unit.specs.Unit.{Holds, Setting, value, input, current, Settings, put, Unit, Done, nothing, shown, refusal_code, zone_in, command_in, heard, frame_done, done, takes, after, replies}
use Rattle.unit.specs.Legal.{LegalSettings}
use Rattle.unit.specs.Sending.{AreBytes, setting_of}
use Rattle.refusals.specs.declared.refusal.Refusal.{Refusal}
use Rattle.refusals.specs.declared.refusal.Refusal.TheVariants.{WrongZone, NoRow, WrongLength, WrongValue, NoStep}

-- the answer to a command: its data show a cell as it is after the command, the row's in that zone or an input of S 0F, and the library
-- reads it as the status of that zone and command
pub record ToldStatus (profile : Profile) (c : Said) (d : Done) : Type 0 where
  pub row : Row
  pub there : row_of profile c.command ≡ Some row
  pub cell : Setting
  pub which : (cell ≡ value c.zone c.command) ⊎ ((i : ℕ) × (cell ≡ input i))
  pub shows : d.answer ≡ frame_of Answer c.zone c.command 0x00 (shown cell (d.settings cell))
  pub status : frame_read profile Answer d.answer
      ≡ Some (Ok (message.Status (record {
        zone = c.zone;
        command = c.command;
        content = content_of Answer row (shown cell (d.settings cell));
      })))

-- the answer to a refused frame: the number is one that a command can get, 1, 2, 3, 4 or 13, and the library reads the answer as denied
pub record ToldDenial (profile : Profile) (bytes : List ℕ) (e : Refusal) (d : Done) : Type 0 where
  pub number : (e ≡ WrongZone) ⊎ (e ≡ NoRow) ⊎ (e ≡ WrongLength) ⊎ (e ≡ WrongValue) ⊎ (e ≡ NoStep)
  pub answer : d.answer ≡ frame_of Answer (zone_in bytes) (command_in bytes) (refusal_code e) []
  pub denial : frame_read profile Answer d.answer
      ≡ Some (Ok (message.Denied (record { zone = zone_in bytes; command = command_in bytes; answer = refusal_code e })))

pub record DonePromise (profile : Profile) (s : Settings) (bytes : List ℕ) : Type 0 where
  -- legal settings stay legal
  pub legal : LegalSettings profile s → LegalSettings profile (frame_done profile s bytes).settings
  -- "a current input, which nothing here changes"
  pub now : (frame_done profile s bytes).settings current ≡ s current
  -- "A refused frame changes nothing"
  pub kept : (e : Refusal) → heard profile bytes ≡ Err e → (frame_done profile s bytes).settings ≡ s
  pub denied : (e : Refusal) → heard profile bytes ≡ Err e → ToldDenial profile bytes e (frame_done profile s bytes)
  -- "the answer holds the row's value after it"
  pub told : LegalSettings profile s → (c : Said) → heard profile bytes ≡ Ok (message.Command c) → ToldStatus profile c (frame_done profile s bytes)

-- "Otherwise the command acts": which cell it sets, to what its house rule says, and no other; and the bytes of its answer
pub record ActPromise (profile : Profile) (s : Settings) (bytes : List ℕ) (c : Said) (heard_so : heard profile bytes ≡ Ok (message.Command c)) (row : Row)
    (there : row_of profile c.command ≡ Some row) : Type 0 where
  pub single : row.pair ≡ false
      → ((frame_done profile s bytes).settings ≡ put s (value c.zone c.command) (value_after row c.content (s (value c.zone c.command))))
      × ((frame_done profile s bytes).answer ≡ frame_of Answer c.zone c.command 0x00 (value_after row c.content (s (value c.zone c.command)) ∷ []))
  -- "For S 0F a request answers for the current input, a setting for the named one."
  pub asked : row.pair ≡ true → c.content ≡ Request
      → ((frame_done profile s bytes).settings ≡ s) × ((frame_done profile s bytes).answer ≡ frame_of Answer c.zone c.command 0x00 (s current ∷ s (input (s current)) ∷ []))
  pub set : row.pair ≡ true → (i : ℕ) (on : Bool) → c.content ≡ Input i on
      → ((frame_done profile s bytes).settings ≡ put s (input i) (cond on 0x01 0x00))
      × ((frame_done profile s bytes).answer ≡ frame_of Answer c.zone c.command 0x00 (i ∷ cond on 0x01 0x00 ∷ []))

-- a byte: the frame that it completes is done; "A broken frame is ignored.", and so are waiting and noise
pub record BytePromise (u : Unit) (b : ℕ) : Type 0 where
  pub frame : (n : ℕ) → answer_to Command u.taken b ≡ Frame n → done u b ≡ frame_done u.profile u.settings (u.taken ++ b ∷ [])
  pub broken : (n : ℕ) → answer_to Command u.taken b ≡ Broken n → done u b ≡ nothing u.settings
  pub waiting : answer_to Command u.taken b ≡ Waiting → done u b ≡ nothing u.settings
  pub noise : answer_to Command u.taken b ≡ Noise → done u b ≡ nothing u.settings
  pub reader : (takes u b).taken ≡ taken_after Command u.taken b
  pub settings : (takes u b).settings ≡ (done u b).settings
  pub answers : (bs : List ℕ) → replies u (b ∷ bs) ≡ (done u b).answer ++ replies (takes u b) bs

-- a legal line's frame puts its value in its own cell and touches nothing else, whatever the cell held, and is answered with that value
pub record LinePromise (profile : Profile) (s : Settings) (l : Line) : Type 0 where
  pub sets : is_legal profile l ≡ true → (frame_done profile s (line_frame l)).settings ≡ put s (setting_of l) l.value
  pub answers : is_legal profile l ≡ true → (frame_done profile s (line_frame l)).answer ≡ frame_of Answer l.zone l.command 0x00 (l.value ∷ [])

-- of any bytes sent: the settings stay legal, the current input stays, and the answers are bytes
pub record UnitPromise (u : Unit) (sent : List ℕ) : Type 0 where
  pub legal : LegalSettings u.profile u.settings → LegalSettings u.profile (after u sent).settings
  pub now : Holds (after u sent) current (u.settings current)
  pub answers : LegalSettings u.profile u.settings → AreBytes u.taken → AreBytes sent → AreBytes (replies u sent)

-- a frame that a unit's reader completes is one whole frame, and the unit hears in it what the library reads in it
pub record HeardPromise (profile : Profile) (before : List ℕ) (b n : ℕ) : Type 0 where
  pub same : answer_to Command (taken_by Command [] before) b ≡ Frame n
      → frame_read profile Command (taken_by Command [] before ++ b ∷ []) ≡ from_reading (heard profile (taken_by Command [] before ++ b ∷ []))
