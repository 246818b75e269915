-- Document 01, 'Commands of the two profiles': what legal data say in a row, and the data of what is said.
use Rattle.std.specs.Prelude.{ℕ, Bool, cond, ◌&&◌, List, [], ◌∷◌, eqb, ℤ, pos, length, get_or, None, Option, Some}
use Rattle.frame.specs.declared.direction.Direction.{Direction}
use Rattle.frame.specs.declared.direction.Direction.TheVariants.{Command, Answer}
use Rattle.row.specs.Signed.{number_of, code_of, plain_code_of}
use Rattle.row.specs.declared.table.Row.{Row}
use Rattle.judging.specs.Judge.{is_word, has_data}
use Rattle.message.specs.declared.content.Content.{Content}
use Rattle.message.specs.declared.content.Content.TheVariants.{Request, Up, Down, On, Off, Toggle, LevellerOff, Number, Input}
use Rattle.message.specs.declared.content.Encoded.{Encoded}
use Rattle.message.specs.declared.content.Encoded.TheVariants.{One, Two}

-- "F0 requests, F1 steps up, F2 steps down"; S 0E: "02 toggle"; A 37: "F1 on, F2 off"
abbrev pub word_of : Row → ℕ → Content
word_of row b =
    cond (eqb b 0xF0) Request
    (cond (eqb b 0x02) Toggle
    (cond (eqb b 0xF1) (cond row.switch On Up) (cond row.switch Off Down)))

-- A 39: "FF off"
abbrev pub is_leveller_off : Row → ℕ → Bool
is_leveller_off row b = eqb b 0xFF && row.off

-- the number that a code means in a row: signed "in the rows marked signed"
abbrev pub number_in : Row → ℕ → ℤ
number_in row b = cond row.signed (number_of b) (pos b)

abbrev pub value_content : Row → ℕ → Content
value_content row b = cond (is_leveller_off row b) LevellerOff (Number (number_in row b))

-- what one byte says, and what data of one byte or two say
abbrev pub byte_content : Direction → Row → ℕ → Content
byte_content Command row b = cond (is_word row b) (word_of row b) (value_content row b)
byte_content Answer row b = value_content row b

unfoldable pub content_of : Direction → Row → List ℕ → Content
content_of dir row body =
    cond (eqb (length body) 2) (Input (get_or body 0 0) (eqb (get_or body 1 0) 1)) (byte_content dir row (get_or body 0 0))

-- the code of a number in a row, where it has one
abbrev pub encoded_code : Option ℕ → Option Encoded
encoded_code (Some c) = Some (One c)
encoded_code None = None

abbrev pub number_code : Row → ℤ → Option Encoded
number_code row z = encoded_code (cond row.signed (code_of z) (plain_code_of z))

-- the data of what is said; a number without a code has none
abbrev pub encoded_of : Row → Content → Option Encoded
encoded_of row Request = Some (One 0xF0)
encoded_of row Up = Some (One 0xF1)
encoded_of row Down = Some (One 0xF2)
encoded_of row On = Some (One 0xF1)
encoded_of row Off = Some (One 0xF2)
encoded_of row Toggle = Some (One 0x02)
encoded_of row LevellerOff = Some (One 0xFF)
encoded_of row (Number z) = number_code row z
encoded_of row (Input input on) = Some (Two input (cond on 1 0))

abbrev pub encoded_data : Option Encoded → List ℕ
encoded_data (Some (One b)) = b ∷ []
encoded_data (Some (Two b c)) = b ∷ c ∷ []
encoded_data None = []

-- how many bytes it takes; a number without a code would take one
abbrev pub size_of : Content → ℕ
size_of Request = 1
size_of Up = 1
size_of Down = 1
size_of On = 1
size_of Off = 1
size_of Toggle = 1
size_of LevellerOff = 1
size_of (Number z) = 1
size_of (Input input on) = 2

-- which form it is
abbrev pub form_number : Content → ℕ
form_number Request = 0
form_number Up = 1
form_number Down = 2
form_number On = 3
form_number Off = 4
form_number Toggle = 5
form_number LevellerOff = 6
form_number (Number z) = 7
form_number (Input input on) = 8

-- data that a row has in a direction, and that say this form there
abbrev pub is_said : Direction → Row → List ℕ → Content → Bool
is_said dir row body c = has_data dir row body && eqb (form_number (content_of dir row body)) (form_number c)

-- a form of a row in a direction, what it can say: its data say it
unfoldable pub is_form : Direction → Row → Content → Bool
is_form dir row c = is_said dir row (encoded_data (encoded_of row c)) c
