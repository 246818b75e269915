-- Promise: document 01, 'Bench frames': "P marks those proved as one table." From the bytes, through the frame reader and the
-- message reader.
use Rattle.std.specs.Prelude.{◌≡◌, true, List, [], ◌∷◌, map, ℕ, length, pos, neg_ℤ, Err, None, Ok, Option, Result, Some}
use Rattle.lent.specs.Placed.{bytes_at}
use Rattle.frame.specs.Capture.{events_from, first_of}
use Rattle.frame.specs.declared.direction.Direction.{Direction}
use Rattle.frame.specs.declared.direction.Direction.TheVariants.{Command, Answer}
use Rattle.frame.specs.declared.capture.Kind.{Kind}
use Rattle.frame.specs.declared.capture.Kind.TheVariants as kind
use Rattle.row.specs.declared.profile.Profile.{Profile}
use Rattle.row.specs.declared.profile.Profile.TheVariants.{A, S}
use Rattle.message.specs.Message.{frame_read}
use Rattle.message.specs.declared.content.Content.{Content}
use Rattle.message.specs.declared.content.Content.TheVariants.{LevellerOff, Number, Input}
use Rattle.message.specs.declared.read.Message.TheVariants as message
use Rattle.refusals.specs.declared.refusal.Refusal.{Refusal}
use Rattle.refusals.specs.declared.refusal.Refusal.TheVariants.{WrongAnswer, WrongLength, WrongValue, WrongZone}
use Rattle.frame.specs.declared.capture.Event.{Event}
use Rattle.message.specs.declared.read.Message.{Message}

pub record Bench : Type 0 where
  pub profile : Profile
  pub dir : Direction
  pub bytes : List ℕ
  pub means : Option (Result Message Refusal)

abbrev pub bench : Profile → Direction → List ℕ → Option (Result Message Refusal) → Bench
bench p dir bytes means = record { profile = p; dir = dir; bytes = bytes; means = means }

-- a command that sets, a status
abbrev pub sets : ℕ → ℕ → Content → Option (Result Message Refusal)
sets zone command content = Some (Ok (message.Command (record { zone = zone; command = command; content = content })))

abbrev pub reports : ℕ → ℕ → Content → Option (Result Message Refusal)
reports zone command content = Some (Ok (message.Status (record { zone = zone; command = command; content = content })))

unfoldable pub frames : List Bench
frames =
    -- set -5
    bench A Command (0x21 ∷ 0x01 ∷ 0x3A ∷ 0x01 ∷ 0x85 ∷ 0x0D ∷ []) (sets 1 0x3A (Number (neg_ℤ (pos 5))))
    -- document 02, C-14: "The P case with 80 becomes set 0, and `8B` in A 45 becomes -11 quarters."
    ∷ bench A Command (0x21 ∷ 0x01 ∷ 0x3A ∷ 0x01 ∷ 0x80 ∷ 0x0D ∷ []) (sets 1 0x3A (Number (pos 0)))
    -- off
    ∷ bench A Command (0x21 ∷ 0x01 ∷ 0x39 ∷ 0x01 ∷ 0xFF ∷ 0x0D ∷ []) (sets 1 0x39 LevellerOff)
    -- -10 quarters
    ∷ bench A Command (0x21 ∷ 0x01 ∷ 0x45 ∷ 0x01 ∷ 0x8A ∷ 0x0D ∷ []) (sets 1 0x45 (Number (neg_ℤ (pos 10))))
    ∷ bench A Command (0x21 ∷ 0x01 ∷ 0x45 ∷ 0x01 ∷ 0x8B ∷ 0x0D ∷ []) (sets 1 0x45 (Number (neg_ℤ (pos 11))))
    ∷ bench A Command (0x21 ∷ 0x04 ∷ 0x99 ∷ 0x02 ∷ 0x00 ∷ 0x00 ∷ 0x0D ∷ []) (Some (Err WrongZone))
    ∷ bench A Command (0x21 ∷ 0x02 ∷ 0x10 ∷ 0x01 ∷ 0xF0 ∷ 0x0D ∷ []) (Some (Err WrongZone))
    ∷ bench A Command (0x21 ∷ 0x01 ∷ 0x38 ∷ 0x02 ∷ 0x00 ∷ 0x00 ∷ 0x0D ∷ []) (Some (Err WrongLength))
    -- set 13
    ∷ bench S Command (0x21 ∷ 0x01 ∷ 0x0D ∷ 0x01 ∷ 0x0D ∷ 0x0D ∷ []) (sets 1 0x0D (Number (pos 13)))
    -- set 99
    ∷ bench S Command (0x21 ∷ 0x01 ∷ 0x0D ∷ 0x01 ∷ 0x63 ∷ 0x0D ∷ []) (sets 1 0x0D (Number (pos 99)))
    ∷ bench S Command (0x21 ∷ 0x01 ∷ 0x0D ∷ 0x01 ∷ 0x64 ∷ 0x0D ∷ []) (Some (Err WrongValue))
    ∷ bench S Answer (0x21 ∷ 0x01 ∷ 0x0E ∷ 0x00 ∷ 0x01 ∷ 0x02 ∷ 0x0D ∷ []) (Some (Err WrongValue))
    -- input 6 on
    ∷ bench S Answer (0x21 ∷ 0x01 ∷ 0x0F ∷ 0x00 ∷ 0x02 ∷ 0x06 ∷ 0x01 ∷ 0x0D ∷ []) (reports 1 0x0F (Input 6 true))
    -- denied
    ∷ bench A Answer (0x21 ∷ 0x07 ∷ 0x99 ∷ 0x83 ∷ 0x00 ∷ 0x0D ∷ []) (Some (Ok (message.Denied (record { zone = 7; command = 0x99; answer = 0x83 }))))
    ∷ bench A Answer (0x21 ∷ 0x01 ∷ 0x38 ∷ 0x81 ∷ 0x01 ∷ 0x02 ∷ 0x0D ∷ []) (Some (Err WrongAnswer))
    ∷ []

-- what the first event of bytes reads as, where it is a frame
abbrev pub read_as : Profile → Direction → List ℕ → ℕ → ℕ → Kind → Option (Result Message Refusal)
read_as p dir bytes at n kind.Frame = frame_read p dir (bytes_at bytes at n)
read_as p dir bytes at n kind.Broken = None
read_as p dir bytes at n kind.Noise = None
read_as p dir bytes at n kind.Pending = None

abbrev pub read_first : Profile → Direction → List ℕ → Option Event → Option (Result Message Refusal)
read_first p dir bytes (Some e) = read_as p dir bytes e.at e.length e.kind
read_first p dir bytes None = None

abbrev pub bench_reading : Bench → Option (Result Message Refusal)
bench_reading b = read_first b.profile b.dir b.bytes (first_of (events_from b.dir b.bytes 0))

pub record BenchPromise : Type 0 where
  pub all : length frames ≡ 15
  pub holds : map bench_reading frames ≡ map (λ (b : Bench). b.means) frames
