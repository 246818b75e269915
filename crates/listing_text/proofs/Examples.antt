-- Document 01's worked listing, and others, evaluated from the definition of the text.
use mathlib.Core.Path.{◌≡◌, refl}
use mathlib.Core.List.{List, [], ◌∷◌, ◌++◌}
use Prim.Native.Nat.{ℕ}
use Rattle.frame.specs.Reader.{answer_to, taken_after}
use Rattle.frame.specs.Capture.{labels, count, events_told, events_from}
use Rattle.frame.specs.Letter.{direction_of}
use Rattle.fields.specs.Fields.{is_frame}
use Rattle.lent.specs.Placed.{bytes_at}
use Rattle.row.specs.Profile.{profile_of}
use Rattle.row.specs.Signed.{number_of}
use Rattle.row.specs.Table.{table, first_row}
use Rattle.message.specs.Content.{content_of}
use Rattle.message.specs.Message.{read_of, frame_read}
use Rattle.characters.specs.Letters.{letters}
use Rattle.characters.specs.Decimal.{decimal_in}
use Rattle.listing_text.specs.Listing.{text_line, listed}
use Rattle.streams.specs.Stream.{answers_by, reader_by}
use Rattle.lists.specs.InOrder.{in_order}

-- "For A R .. and 00 21 01 3A 00 01 85 0D 21 01 38 00 01 02 21 it prints, whole:"
pub worked : listed (0x41 ∷ 0x52 ∷ 0x00 ∷ 0x21 ∷ 0x01 ∷ 0x3A ∷ 0x00 ∷ 0x01 ∷ 0x85 ∷ 0x0D ∷ 0x21 ∷ 0x01 ∷ 0x38 ∷ 0x00 ∷ 0x01 ∷ 0x02 ∷ 0x21 ∷ [])
    ≡ letters "at length event zone code answer value\n"
    ++ letters "0 1 noise - - - -\n"
    ++ letters "1 7 frame 1 3A 00 -5\n"
    ++ letters "8 6 broken - - - -\n"
    ++ letters "14 1 pending - - - -\n"
    ++ letters "total 15 frame 7 broken 6 noise 1 pending 1\n"
unfolding letters decimal_in text_line answers_by reader_by answer_to taken_after in_order labels count events_told events_from direction_of is_frame bytes_at profile_of number_of table first_row content_of read_of frame_read
worked = refl

-- an empty capture; letters that are missing or wrong
pub empty : listed (0x53 ∷ 0x43 ∷ []) ≡ letters "at length event zone code answer value\n" ++ letters "total 0 frame 0 broken 0 noise 0 pending 0\n"
unfolding letters decimal_in text_line answers_by reader_by answer_to taken_after in_order labels count events_told events_from direction_of is_frame bytes_at profile_of number_of table first_row content_of read_of frame_read
empty = refl

abbrev refused : List (List ℕ)
refused = listed [] ∷ listed (0x41 ∷ []) ∷ listed (0x42 ∷ 0x43 ∷ []) ∷ listed (0x41 ∷ 0x20 ∷ 0x43 ∷ []) ∷ []

pub letters_refused : refused ≡ letters "refused 12\n" ∷ letters "refused 12\n" ∷ letters "refused 12\n" ∷ letters "refused 12\n" ∷ []
unfolding letters decimal_in text_line answers_by reader_by answer_to taken_after in_order labels count events_told events_from direction_of is_frame bytes_at profile_of number_of table first_row content_of read_of frame_read
letters_refused = refl

-- commands of A: request, on, off, up, Leveller off, a number below zero, a refused frame
pub commands : listed (
    0x41 ∷ 0x43
    ∷ 0x21 ∷ 0x02 ∷ 0x37 ∷ 0x01 ∷ 0xF0 ∷ 0x0D
    ∷ 0x21 ∷ 0x02 ∷ 0x37 ∷ 0x01 ∷ 0xF1 ∷ 0x0D
    ∷ 0x21 ∷ 0x02 ∷ 0x37 ∷ 0x01 ∷ 0xF2 ∷ 0x0D
    ∷ 0x21 ∷ 0x03 ∷ 0x46 ∷ 0x01 ∷ 0xF1 ∷ 0x0D
    ∷ 0x21 ∷ 0x01 ∷ 0x39 ∷ 0x01 ∷ 0xFF ∷ 0x0D
    ∷ 0x21 ∷ 0x01 ∷ 0x45 ∷ 0x01 ∷ 0x8A ∷ 0x0D
    ∷ 0x21 ∷ 0x04 ∷ 0x99 ∷ 0x02 ∷ 0x00 ∷ 0x00 ∷ 0x0D ∷ []
    )
    ≡ letters "at length event zone code answer value\n"
    ++ letters "0 6 frame 2 37 - request\n"
    ++ letters "6 6 frame 2 37 - on\n"
    ++ letters "12 6 frame 2 37 - off\n"
    ++ letters "18 6 frame 3 46 - up\n"
    ++ letters "24 6 frame 1 39 - off\n"
    ++ letters "30 6 frame 1 45 - -10\n"
    ++ letters "36 7 unread - - - 1\n"
    ++ letters "total 43 frame 43 broken 0 noise 0 pending 0\n"
unfolding letters decimal_in text_line answers_by reader_by answer_to taken_after in_order labels count events_told events_from direction_of is_frame bytes_at profile_of number_of table first_row content_of read_of frame_read
commands = refl

-- answers of S: an input with its state, not calculated, a denial of what no table has, a refused answer
pub statuses : listed (
    0x53 ∷ 0x52
    ∷ 0x21 ∷ 0x01 ∷ 0x0F ∷ 0x00 ∷ 0x02 ∷ 0x06 ∷ 0x01 ∷ 0x0D
    ∷ 0x21 ∷ 0x02 ∷ 0x37 ∷ 0x00 ∷ 0x01 ∷ 0xA0 ∷ 0x0D
    ∷ 0x21 ∷ 0xFF ∷ 0xFE ∷ 0x85 ∷ 0x01 ∷ 0x21 ∷ 0x0D
    ∷ 0x21 ∷ 0x01 ∷ 0x0E ∷ 0x00 ∷ 0x01 ∷ 0x02 ∷ 0x0D ∷ []
    )
    ≡ letters "at length event zone code answer value\n"
    ++ letters "0 8 frame 1 0F 00 6:1\n"
    ++ letters "8 7 frame 2 37 00 160\n"
    ++ letters "15 7 denied 255 FE 85 -\n"
    ++ letters "22 7 unread - - - 4\n"
    ++ letters "total 29 frame 29 broken 0 noise 0 pending 0\n"
unfolding letters decimal_in text_line answers_by reader_by answer_to taken_after in_order labels count events_told events_from direction_of is_frame bytes_at profile_of number_of table first_row content_of read_of frame_read
statuses = refl

-- document 02, C-14: 80 is listed as 0, never -0, and A8 is -40 quarters; a denial shows no data, and 80 in Leveller stays refused
pub zeros : listed (
    0x41 ∷ 0x52
    ∷ 0x21 ∷ 0x01 ∷ 0x3A ∷ 0x00 ∷ 0x01 ∷ 0x80 ∷ 0x0D
    ∷ 0x21 ∷ 0x02 ∷ 0x45 ∷ 0x00 ∷ 0x01 ∷ 0xA8 ∷ 0x0D
    ∷ 0x21 ∷ 0x01 ∷ 0x3A ∷ 0x84 ∷ 0x01 ∷ 0x80 ∷ 0x0D
    ∷ 0x21 ∷ 0x01 ∷ 0x39 ∷ 0x00 ∷ 0x01 ∷ 0x80 ∷ 0x0D ∷ []
    )
    ≡ letters "at length event zone code answer value\n"
    ++ letters "0 7 frame 1 3A 00 0\n"
    ++ letters "7 7 frame 2 45 00 -40\n"
    ++ letters "14 7 denied 1 3A 84 -\n"
    ++ letters "21 7 unread - - - 4\n"
    ++ letters "total 28 frame 28 broken 0 noise 0 pending 0\n"
unfolding letters decimal_in text_line answers_by reader_by answer_to taken_after in_order labels count events_told events_from direction_of is_frame bytes_at profile_of number_of table first_row content_of read_of frame_read
zeros = refl
