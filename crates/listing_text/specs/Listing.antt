-- Document 01, 'Bench frames': what the listing program prints, to the byte.
use Rattle.std.specs.Prelude.{ℕ, cond, List, [], ◌∷◌, ◌++◌, length, drop, Err, None, Ok, Option, Result, Some}
use Prim.Native.String.{String}
use Rattle.refusals.specs.Refusal.{number}
use Rattle.refusals.specs.Rule.{ruled}
use Rattle.refusals.specs.declared.refusal.Refusal.{Refusal}
use Rattle.refusals.specs.declared.refusal.Refusal.TheVariants.{WrongLetter}
use Rattle.frame.specs.Letter.{direction_of}
use Rattle.frame.specs.Capture.{long_capture, totals_of, events_from}
use Rattle.lists.specs.InOrder.{in_order}
use Rattle.lent.specs.Placed.{bytes_at}
use Rattle.characters.specs.Letters.{letters}
use Rattle.characters.specs.Decimal.{decimal, integer}
use Rattle.characters.specs.Hex.{hex_byte}
use Rattle.frame.specs.declared.direction.Direction.{Direction}
use Rattle.frame.specs.declared.capture.Kind.TheVariants as kind
use Rattle.frame.specs.declared.capture.Kind.{Kind}
use Rattle.frame.specs.declared.capture.Event.{Event}
use Rattle.frame.specs.declared.capture.Totals.{Totals}
use Rattle.row.specs.Profile.{profile_of}
use Rattle.row.specs.declared.profile.Profile.{Profile}
use Rattle.message.specs.Message.{frame_read}
use Rattle.message.specs.declared.content.Content.{Content}
use Rattle.message.specs.declared.content.Content.TheVariants.{Request, Up, Down, On, Off, Toggle, LevellerOff, Number, Input}
use Rattle.message.specs.declared.read.Message.{Message}
use Rattle.message.specs.declared.read.Message.TheVariants as message

-- "F0, F1, F2 print request, up, down (A 37: on, off for the last two), toggle toggle, Leveller FF off, S 0F 6:1"
abbrev pub value_text : Content → List ℕ
value_text Request = letters "request"
value_text Up = letters "up"
value_text Down = letters "down"
value_text On = letters "on"
value_text Off = letters "off"
value_text Toggle = letters "toggle"
value_text LevellerOff = letters "off"
value_text (Number z) = integer z
value_text (Input input on) = decimal input ++ (letters ":" ++ decimal (cond on 1 0))

-- one line: words with a space between them, and a line end
unfoldable pub text_line : List ℕ → List (List ℕ) → List ℕ
text_line word [] = word ++ letters "\n"
text_line word (w ∷ ws) = word ++ (letters " " ++ text_line w ws)

abbrev pub dash : List ℕ
dash = letters "-"

-- what stands behind the place and the length: event, zone, code, answer, value
abbrev pub without : String → List (List ℕ)
without event = letters event ∷ dash ∷ dash ∷ dash ∷ dash ∷ []

-- "In commands the answer is -"; "A refused frame is event unread, its number as value, dashes between; a denied one is denied with value -."
abbrev pub read_text : Option (Result Message Refusal) → List (List ℕ)
read_text (Some (Ok (message.Command s))) = letters "frame" ∷ decimal s.zone ∷ hex_byte s.command ∷ dash ∷ value_text s.content ∷ []
read_text (Some (Ok (message.Status s))) = letters "frame" ∷ decimal s.zone ∷ hex_byte s.command ∷ hex_byte 0x00 ∷ value_text s.content ∷ []
read_text (Some (Ok (message.Denied d))) = letters "denied" ∷ decimal d.zone ∷ hex_byte d.command ∷ hex_byte d.answer ∷ dash ∷ []
read_text (Some (Err e)) = letters "unread" ∷ dash ∷ dash ∷ dash ∷ decimal (number e) ∷ []
-- no frame event is without a frame
read_text None = without "broken"

abbrev pub event_text : Profile → Direction → List ℕ → Kind → List (List ℕ)
event_text profile dir bytes kind.Frame = read_text (frame_read profile dir bytes)
event_text profile dir bytes kind.Broken = without "broken"
event_text profile dir bytes kind.Noise = without "noise"
event_text profile dir bytes kind.Pending = without "pending"

abbrev pub event_line : Profile → Direction → List ℕ → Event → List ℕ
event_line profile dir capture e = text_line (decimal e.at) (decimal e.length ∷ event_text profile dir (bytes_at capture e.at e.length) e.kind)

abbrev pub event_lines : Profile → Direction → List ℕ → List Event → List ℕ
event_lines profile dir capture es = in_order (event_line profile dir capture) es

abbrev pub heading : List ℕ
heading = letters "at length event zone code answer value\n"

abbrev pub total_line : ℕ → Totals → List ℕ
total_line n t =
    text_line (letters "total") (decimal n
    ∷ letters "frame" ∷ decimal t.frame
    ∷ letters "broken" ∷ decimal t.broken
    ∷ letters "noise" ∷ decimal t.noise
    ∷ letters "pending" ∷ decimal t.pending
    ∷ [])

-- header, one line per event, totals
abbrev pub listing : Profile → Direction → List ℕ → List ℕ
listing profile dir capture =
    heading ++ event_lines profile dir capture (events_from dir capture 0) ++ total_line (length capture) (totals_of dir capture)

-- "Refused input prints only refused and the number"
abbrev pub refused_text : Refusal → List ℕ
refused_text e = text_line (letters "refused") (decimal (number e) ∷ [])

-- what an input asks for: "Order: 12, then 11, before all others."
abbrev pub asked_by : Result Profile Refusal → Result Direction Refusal → ℕ → Result (Profile × Direction) Refusal
asked_by (Ok p) (Ok dir) count = ruled (long_capture count ∷ []) Err (Ok (p, dir))
asked_by (Ok p) (Err e) count = Err e
asked_by (Err e) named count = Err e

-- "profile letter A or S, direction letter C or R, then the capture"; "a missing letter is 12"
abbrev pub asked : List ℕ → Result (Profile × Direction) Refusal
asked [] = Err WrongLetter
asked (p ∷ []) = Err WrongLetter
asked (p ∷ d ∷ capture) = asked_by (profile_of p) (direction_of d) (length capture)

abbrev pub listed_as : Result (Profile × Direction) Refusal → List ℕ → List ℕ
listed_as (Ok (p, dir)) capture = listing p dir capture
listed_as (Err e) capture = refused_text e

-- "The listing program reads standard input": from all of it, all that is printed
abbrev pub listed : List ℕ → List ℕ
listed input = listed_as (asked input) (drop 2 input)
