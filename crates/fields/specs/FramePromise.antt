-- Promise: a raw frame that is written reads back, from a reader that stands outside, as one frame with the same zone,
-- command, answer code and data; a frame that is read, written raw, gives the same bytes.
use Rattle.std.specs.Prelude.{◌≡◌, true, List, [], ◌∷◌, ◌++◌, ℕ, ◌+◌, ◌≤◌, length, replicate, Ok, Some}
use Rattle.frame.specs.Frame.{data_limit, dl, header, frame_length, frame_of}
use Rattle.frame.specs.Reader.{answer_to, answers, taken_by}
use Rattle.frame.specs.Capture.{event, events_from, first_of}
use Rattle.fields.specs.Fields.{is_frame, answer_kept, fields_in, data_in, fields_of, data_of}
use Rattle.lent.specs.Placed.{bytes_at, last_bytes, placed}
use Rattle.fields.specs.Raw.{raw_rules}
use Rattle.lent.specs.Written.{write_answered, write_left}
use Rattle.frame.specs.declared.direction.Direction.{Direction}
use Rattle.frame.specs.declared.reader.ByteAnswer.TheVariants as answer
use Rattle.frame.specs.declared.capture.Kind.TheVariants as kind

-- bytes that bring these fields and data as one whole frame
pub record Brings (dir : Direction) (bytes : List ℕ) (zone command ac : ℕ) (body : List ℕ) : Type 0 where
  pub head : fields_of dir bytes ≡ Some (record { zone = zone; command = command; answer = answer_kept dir ac })
  pub load : data_of dir bytes ≡ body

-- bytes that are the frame of their own fields and data; written raw anywhere, these give the same bytes
pub record Again (dir : Direction) (bytes : List ℕ) : Type 0 where
  pub whole : is_frame dir bytes ≡ true
  pub same : frame_of dir (fields_in dir bytes).zone (fields_in dir bytes).command (fields_in dir bytes).answer (data_in dir bytes) ≡ bytes
  pub written : (buf : List ℕ) (at : ℕ) → dl dir bytes ≤ data_limit → at + length bytes ≤ length buf
      → write_left (raw_rules (data_in dir bytes)) buf at (frame_of dir (fields_in dir bytes).zone (fields_in dir bytes).command (fields_in dir bytes).answer (data_in dir bytes)) ≡ placed buf at bytes

pub record FramePromise : Type 0 where
  -- the reader waits through the frame and answers frame to its last byte, and stands outside again
  pub read : (dir : Direction) (zone command ac : ℕ) (body : List ℕ)
      → answers dir [] (frame_of dir zone command ac body)
      ≡ replicate (header dir + length body) answer.Waiting ++ answer.Frame (frame_length dir (length body)) ∷ []
  pub outside : (dir : Direction) (zone command ac : ℕ) (body : List ℕ) → taken_by dir [] (frame_of dir zone command ac body) ≡ []
  pub brought : (dir : Direction) (zone command ac : ℕ) (body : List ℕ) → Brings dir (frame_of dir zone command ac body) zone command ac body
  -- so in the buffer: what was written at a place is the frame event there
  pub found : (dir : Direction) (buf : List ℕ) (at zone command ac : ℕ) (body : List ℕ) (n : ℕ)
      → write_answered (raw_rules body) buf at (frame_of dir zone command ac body) ≡ Ok n
      → first_of (events_from dir (write_left (raw_rules body) buf at (frame_of dir zone command ac body)) at) ≡ Some (event at n kind.Frame)
  pub placed : (dir : Direction) (buf : List ℕ) (at zone command ac : ℕ) (body : List ℕ) (n : ℕ)
      → write_answered (raw_rules body) buf at (frame_of dir zone command ac body) ≡ Ok n
      → Brings dir (bytes_at (write_left (raw_rules body) buf at (frame_of dir zone command ac body)) at n) zone command ac body
  -- a frame event of a capture, or of any part of one
  pub captured : (dir : Direction) (capture : List ℕ) (at n : ℕ) → first_of (events_from dir capture at) ≡ Some (event at n kind.Frame)
      → Again dir (bytes_at capture at n)
  -- a frame from a live port: the last bytes fed
  pub live : (dir : Direction) (stream : List ℕ) (b n : ℕ) → answer_to dir (taken_by dir [] stream) b ≡ answer.Frame n
      → Again dir (last_bytes (stream ++ b ∷ []) n)
