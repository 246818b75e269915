-- What the private functions compute. Nothing here need be believed: proofs/ ties each form to the definitions.
use Rattle.std.specs.Prelude.{ℕ, ◌+◌, ◌≤◌, Bool, true, false, cond, List, [], ◌∷◌, ◌++◌, ◌≡◌, length}
use Rattle.lent.specs.Placed.{placed}
use Rattle.characters.specs.Letters.{letters}
use Rattle.characters.specs.Decimal.{decimal}
use Rattle.characters.specs.Hex.{hex_byte}
use Rattle.listing_text.specs.Listing.{value_text, text_line}
use Rattle.message.specs.declared.read.Said.{Said}
use Rattle.message.specs.declared.read.Message.{Message}
use Rattle.message.specs.declared.read.Message.TheVariants as message
use Rattle.listing_pieces.specs.Pieces.{Given}
use Rattle.listing_pieces.specs.declared.event.Shown.{Shown}
use Rattle.listing_pieces.specs.declared.event.Shown.TheVariants as shown
use Rattle.listing_pieces.specs.declared.piece.Place.{Place}

-- a text of at most so many bytes was put at a place: the buffer after it, and the place behind it
pub record Put (most : ℕ) (buf : List ℕ) (at : ℕ) (text after : List ℕ) (end : ℕ) : Type 0 where
  pub stands : after ≡ placed buf at text
  pub ends : end ≡ at + length text
  pub short : end ≤ at + most

-- what stands behind the first word of a line
abbrev pub behind : List (List ℕ) → List ℕ
behind [] = letters "\n"
behind (w ∷ ws) = letters " " ++ text_line w ws

-- the answer to a command's frame is a dash, and that of a status 00
abbrev pub answer_text : Bool → List ℕ
answer_text answered = cond answered (letters " 00 ") (letters " - ")

-- what stands behind the length of a frame with a message: the answer with a space on either side, and the value
abbrev pub said_behind : List ℕ → Said → List ℕ
said_behind answer s =
    letters " frame " ++ (decimal s.zone ++ ((letters " " ++ hex_byte s.command) ++ (answer ++ (value_text s.content ++ letters "\n"))))

-- what a line shows of a message
abbrev pub shown_of : Message → Shown
shown_of (message.Command s) = shown.Said s false
shown_of (message.Status s) = shown.Said s true
shown_of (message.Denied d) = shown.Denied d

-- the first of the lines yet to come
abbrev pub first_text : List Given → List ℕ
first_text [] = []
first_text (g ∷ gs) = g.text

abbrev pub first_next : Place → List Given → Place
first_next at [] = at
first_next at (g ∷ gs) = g.next
