-- Worked examples, computed from the definitions, and witnesses that the promises' premises can be met.
use mathlib.Core.Path.{◌≡◌, refl}
use mathlib.Core.List.{List, [], ◌∷◌}
use Prim.Native.Nat.{ℕ}
use lib.ListN.{replicate}
use Rattle.frame.specs.Frame.{frame_of}
use Rattle.frame.specs.Reader.{answer_to, taken_after}
use Rattle.frame.specs.KeptReader.{fed_at, answers_of, fresh_reader, next_reader, byte_answer}
use Rattle.streams.specs.CutPromise.{answers_in_parts}
use Rattle.frame.specs.PartPromise.{fed_in_parts}
use Rattle.frame.specs.Capture.{labels, count, event, events_told, events_from, counted_of}
use Rattle.fields.specs.Fields.{is_frame, fields_of, data_of}
use Rattle.fields.specs.Raw.{raw_rules}
use Rattle.lent.specs.Written.{lacks_room, write_answered, write_left}
use Rattle.frame.specs.declared.direction.Direction.TheVariants.{Command, Answer}
use Rattle.frame.specs.declared.reader.ByteAnswer.TheVariants as answer
use Rattle.frame.specs.declared.capture.Kind.TheVariants.{Frame, Broken, Noise, Pending}
use Rattle.streams.specs.Stream.{answers_by, reader_by}
use Rattle.lists.specs.InOrder.{in_order}
use Rattle.std.specs.Prelude.{Err, Ok, Some}
use Rattle.refusals.specs.declared.refusal.Refusal.TheVariants.{NoRoom, WrongLength}

-- the capture of document 01's listing
abbrev listed : List ℕ
listed = 0x00 ∷ 0x21 ∷ 0x01 ∷ 0x3A ∷ 0x00 ∷ 0x01 ∷ 0x85 ∷ 0x0D ∷ 0x21 ∷ 0x01 ∷ 0x38 ∷ 0x00 ∷ 0x01 ∷ 0x02 ∷ 0x21 ∷ []

pub listed_events : events_from Answer listed 0 ≡ event 0 1 Noise ∷ event 1 7 Frame ∷ event 8 6 Broken ∷ event 14 1 Pending ∷ []
unfolding events_from events_told answers_by reader_by answer_to taken_after
listed_events = refl

pub listed_totals : counted_of Answer listed ≡ Ok (record { frame = 7; broken = 6; noise = 1; pending = 1 })
unfolding labels in_order count answers_by reader_by answer_to taken_after
listed_totals = refl

-- "Ending a frame at the first 0D: a volume of 13 holds one."
pub volume_13 : events_from Command (0x21 ∷ 0x01 ∷ 0x0D ∷ 0x01 ∷ 0x0D ∷ 0x0D ∷ []) 0 ≡ event 0 6 Frame ∷ []
unfolding events_from events_told answers_by reader_by answer_to taken_after
volume_13 = refl

-- "Searching a broken stretch for 21, which finds frames in data": nothing inside it is read again
pub data_21 : events_from Command (0x21 ∷ 0x01 ∷ 0x0D ∷ 0x03 ∷ 0x21 ∷ 0x01 ∷ 0x0D ∷ 0x01 ∷ 0x05 ∷ 0x0D ∷ []) 0 ≡ event 0 8 Broken ∷ event 8 1 Noise ∷ event 9 1 Noise ∷ []
unfolding events_from events_told answers_by reader_by answer_to taken_after
data_21 = refl

-- 21 in every place: each stretch is a header and 33 data bytes, broken by the next 21
pub all_21 : events_from Command (replicate 75 0x21) 0 ≡ event 0 37 Broken ∷ event 37 37 Broken ∷ event 74 1 Pending ∷ []
unfolding events_from events_told answers_by reader_by answer_to taken_after
all_21 = refl

-- the answers, byte by byte, of the reader that the code keeps
pub fed_by_byte : answers_of (fresh_reader Command) (0x0D ∷ 0x21 ∷ 0x01 ∷ 0x0D ∷ 0x00 ∷ 0x21 ∷ 0x01 ∷ 0x0E ∷ 0x00 ∷ 0x0D ∷ [])
    ≡ answer.Noise ∷ answer.Waiting ∷ answer.Waiting ∷ answer.Waiting ∷ answer.Waiting ∷ answer.Broken 4
    ∷ answer.Waiting ∷ answer.Waiting ∷ answer.Waiting ∷ answer.Frame 5 ∷ []
unfolding answers_by fed_at
fed_by_byte = refl

-- the same bytes in three parts: the same answers, and the counts of the whole
abbrev three : List (List ℕ)
three = (0x0D ∷ 0x21 ∷ []) ∷ (0x01 ∷ 0x0D ∷ 0x00 ∷ 0x21 ∷ []) ∷ (0x01 ∷ 0x0E ∷ 0x00 ∷ 0x0D ∷ []) ∷ []

pub fed_in_three : answers_in_parts next_reader byte_answer (fresh_reader Command) three
    ≡ answer.Noise ∷ answer.Waiting ∷ answer.Waiting ∷ answer.Waiting ∷ answer.Waiting ∷ answer.Broken 4
    ∷ answer.Waiting ∷ answer.Waiting ∷ answer.Waiting ∷ answer.Frame 5 ∷ []
unfolding answers_by reader_by fed_at
fed_in_three = refl

pub counted_in_three : fed_in_parts (fresh_reader Command) three ≡ record { reader = fresh_reader Command; frame = 5; broken = 4; noise = 1 }
unfolding answers_by reader_by fed_at count in_order
counted_in_three = refl

-- a raw answer with two data bytes, at place 1 of nine bytes: written, and found there
pub raw_written : write_answered (raw_rules (0x06 ∷ 0x01 ∷ [])) (replicate 9 7) 1 (frame_of Answer 0x01 0x0F 0x00 (0x06 ∷ 0x01 ∷ [])) ≡ Ok 8
unfolding write_answered lacks_room frame_of
raw_written = refl

pub raw_bytes : write_left (raw_rules (0x06 ∷ 0x01 ∷ [])) (replicate 9 7) 1 (frame_of Answer 0x01 0x0F 0x00 (0x06 ∷ 0x01 ∷ [])) ≡ 7 ∷ 0x21 ∷ 0x01 ∷ 0x0F ∷ 0x00 ∷ 0x02 ∷ 0x06 ∷ 0x01 ∷ 0x0D ∷ []
unfolding write_left lacks_room frame_of
raw_bytes = refl

pub raw_no_room : write_answered (raw_rules (0x06 ∷ 0x01 ∷ [])) (replicate 9 7) 2 (frame_of Answer 0x01 0x0F 0x00 (0x06 ∷ 0x01 ∷ [])) ≡ Err NoRoom
unfolding write_answered lacks_room frame_of
raw_no_room = refl

pub raw_too_long : write_answered (raw_rules (replicate 256 0)) [] 1 (frame_of Answer 0x01 0x0F 0x00 (replicate 256 0)) ≡ Err WrongLength
unfolding write_answered lacks_room frame_of
raw_too_long = refl

pub fields_found : fields_of Answer (0x21 ∷ 0x01 ∷ 0x0F ∷ 0x00 ∷ 0x02 ∷ 0x06 ∷ 0x01 ∷ 0x0D ∷ []) ≡ Some (record { zone = 1; command = 0x0F; answer = 0 })
unfolding is_frame
fields_found = refl

pub data_found : data_of Answer (0x21 ∷ 0x01 ∷ 0x0F ∷ 0x00 ∷ 0x02 ∷ 0x06 ∷ 0x01 ∷ 0x0D ∷ []) ≡ 0x06 ∷ 0x01 ∷ []
unfolding is_frame
data_found = refl
