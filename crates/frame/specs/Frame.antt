-- Document 01, 'The frame and its reader': the frame.
use Rattle.std.specs.Prelude.{ℕ, ◌+◌, ◌-◌, List, [], ◌∷◌, ◌++◌, length, get_or}
use Rattle.frame.specs.declared.direction.Direction.{Direction}
use Rattle.frame.specs.declared.direction.Direction.TheVariants.{Command, Answer}

abbrev pub opens : ℕ
opens = 0x21

abbrev pub ends : ℕ
ends = 0x0D

-- "Dl counts the data, 0 to 255."
abbrev pub data_limit : ℕ
data_limit = 255

-- how many bytes stand before the data
abbrev pub header : Direction → ℕ
header Command = 4
header Answer = 5

-- "Command: 21 Zn Cc Dl data 0D. Answer: 21 Zn Cc Ac Dl data 0D." A command has no answer code: none is written.
abbrev pub header_of : Direction → ℕ → ℕ → ℕ → ℕ → List ℕ
header_of Command zone command answer count = opens ∷ zone ∷ command ∷ count ∷ []
header_of Answer zone command answer count = opens ∷ zone ∷ command ∷ answer ∷ count ∷ []

unfoldable pub frame_of : Direction → ℕ → ℕ → ℕ → List ℕ → List ℕ
frame_of dir zone command answer body = header_of dir zone command answer (length body) ++ (body ++ ends ∷ [])

-- "A command frame is 5 + Dl bytes long, an answer 6 + Dl."
abbrev pub frame_length : Direction → ℕ → ℕ
frame_length dir count = header dir + count + 1

-- Dl among the bytes taken of a frame; 0 while it is still to come
abbrev pub dl : Direction → List ℕ → ℕ
dl dir taken = get_or taken (header dir - 1) 0
