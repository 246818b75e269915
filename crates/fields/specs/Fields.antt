-- Document 01, 'Refusal numbers': "the zone, command, answer code and data that a frame brings".
use Rattle.std.specs.Prelude.{ℕ, ◌-◌, Bool, ◌&&◌, cond, List, [], eqb, length, get_or, take, drop, None, Option, Some}
use Rattle.frame.specs.Frame.{opens, ends, header, frame_length, dl}
use Rattle.frame.specs.declared.direction.Direction.{Direction}
use Rattle.frame.specs.declared.direction.Direction.TheVariants.{Command, Answer}
use Rattle.fields.specs.declared.fields.Fields.{Fields}

-- "Command: 21 Zn Cc Dl data 0D. Answer: 21 Zn Cc Ac Dl data 0D.": one whole frame has 21 first, as many bytes as Dl says, and 0D last
unfoldable pub is_frame : Direction → List ℕ → Bool
is_frame dir bytes =
    eqb (get_or bytes 0 0) opens && (eqb (length bytes) (frame_length dir (dl dir bytes)) && eqb (get_or bytes (length bytes - 1) 0) ends)

-- Ac; a command has none, and 0 stands for it
abbrev pub answer_in : Direction → List ℕ → ℕ
answer_in Command bytes = 0
answer_in Answer bytes = get_or bytes 3 0

-- of the answer code that a raw frame is written with, a command keeps none
abbrev pub answer_kept : Direction → ℕ → ℕ
answer_kept Command answer = 0
answer_kept Answer answer = answer

-- "zone, command, answer code"
abbrev pub fields_in : Direction → List ℕ → Fields
fields_in dir bytes = record { zone = get_or bytes 1 0; command = get_or bytes 2 0; answer = answer_in dir bytes }

-- "data": "Dl counts the data"
abbrev pub data_in : Direction → List ℕ → List ℕ
data_in dir bytes = take (dl dir bytes) (drop (header dir) bytes)

-- what a frame brings; bytes that are not one whole frame bring nothing
abbrev pub fields_of : Direction → List ℕ → Option Fields
fields_of dir bytes = cond (is_frame dir bytes) (Some (fields_in dir bytes)) None

abbrev pub data_of : Direction → List ℕ → List ℕ
data_of dir bytes = cond (is_frame dir bytes) (data_in dir bytes) []
