-- Promise: "A refusal returns its number and zero for every other field": each answer's number, 0 where it is accepted, and its
-- other values.
use Rattle.std.specs.Prelude.{◌≡◌, List, ℕ, Ok, Some}
use Rattle.frame.specs.declared.direction.Direction.{Direction}
use Rattle.fields.specs.Fields.{answer_kept, fields_of, data_of}
use Rattle.fields.specs.declared.fields.Fields.{Fields}
use Rattle.row.specs.Profile.{profile_of}
use Rattle.row.specs.declared.profile.Profile.{Profile}
use Rattle.message.specs.Message.{read_of, data_read, frame_read}
use Rattle.message.specs.Numbers.{profile_number, reading_number, reading_paper, frame_number, frame_paper, zero_paper}
use Rattle.message.specs.declared.read.Message.{Message}

pub record MessageRefusalPromise : Type 0 where
  -- 12 for any letter but A and S
  pub letter : (l : ℕ) → (l ≡ 0x41 → ⊥) → (l ≡ 0x53 → ⊥) → profile_number (profile_of l) ≡ 12
  pub named : (profile_number (profile_of 0x41) ≡ 0) × (profile_number (profile_of 0x53) ≡ 0)
  -- a message that is read has the number 0, and for its fields those that it was read from, 80 as 00 in the rows that have it; a command
  -- has no answer code
  pub paper : (profile : Profile) (dir : Direction) (zone command ac : ℕ) (body : List ℕ) (m : Message) → read_of profile dir zone command ac body ≡ Ok m
      → (reading_number (read_of profile dir zone command ac body) ≡ 0)
      × (reading_paper profile (read_of profile dir zone command ac body) body ≡ record { zone = zone; command = command; answer = answer_kept dir ac; body = data_read profile dir command ac body })
  pub zero : (profile : Profile) (dir : Direction) (zone command ac : ℕ) (body : List ℕ) → (reading_number (read_of profile dir zone command ac body) ≡ 0 → ⊥)
      → reading_paper profile (read_of profile dir zone command ac body) body ≡ zero_paper
  -- a frame that is read as a message has the number 0, and for its fields those that it brings, in the same way
  pub paper_of_frame : (profile : Profile) (dir : Direction) (bytes : List ℕ) (m : Message) → frame_read profile dir bytes ≡ Some (Ok m)
      → (f : Fields) × (fields_of dir bytes ≡ Some f) × (frame_number (frame_read profile dir bytes) ≡ 0)
      × (frame_paper profile (frame_read profile dir bytes) (data_of dir bytes) ≡ record { zone = f.zone; command = f.command; answer = f.answer; body = data_read profile dir f.command f.answer (data_of dir bytes) })
  pub frame_zero : (profile : Profile) (dir : Direction) (bytes body : List ℕ) → (frame_number (frame_read profile dir bytes) ≡ 0 → ⊥)
      → frame_paper profile (frame_read profile dir bytes) body ≡ zero_paper
