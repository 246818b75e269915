-- Promise: document 02, C-14, evaluated as one table: frames for each of its sentences on reading and writing, what is written for fields
-- that are handed over, and what was refused before and is still.
use Rattle.std.specs.Prelude.{◌≡◌, List, [], ◌∷◌, map, ℕ, pos, neg_ℤ, Err, Ok, Some}
use Rattle.refusals.specs.Refusal.{number}
use Rattle.refusals.specs.Rule.{ruled}
use Rattle.frame.specs.declared.direction.Direction.{Direction}
use Rattle.frame.specs.declared.direction.Direction.TheVariants.{Command, Answer}
use Rattle.row.specs.declared.profile.Profile.{Profile}
use Rattle.row.specs.declared.profile.Profile.TheVariants.{A, S}
use Rattle.message.specs.BenchPromise.{Bench, bench, bench_reading, sets, reports}
use Rattle.message.specs.Message.{read_rules}
use Rattle.message.specs.Write.{fields_frame}
use Rattle.message.specs.declared.content.Content.TheVariants.{Number}
use Rattle.message.specs.declared.read.Message.TheVariants as message
use Rattle.refusals.specs.declared.refusal.Refusal.TheVariants.{WrongValue}

-- a command, and a status, with one byte of data in zone 1
abbrev pub command_of : ℕ → ℕ → List ℕ
command_of command b = 0x21 ∷ 0x01 ∷ command ∷ 0x01 ∷ b ∷ 0x0D ∷ []

abbrev pub status_of : ℕ → ℕ → List ℕ
status_of command b = 0x21 ∷ 0x01 ∷ command ∷ 0x00 ∷ 0x01 ∷ b ∷ 0x0D ∷ []

unfoldable pub zero_frames : List Bench
zero_frames =
    -- "Read 80 as zero in A 3A, A 45 and A 46, in commands and answers, and in S 3B's answers"
    bench A Command (command_of 0x3A 0x80) (sets 1 0x3A (Number (pos 0)))
    ∷ bench A Command (command_of 0x45 0x80) (sets 1 0x45 (Number (pos 0)))
    ∷ bench A Command (command_of 0x46 0x80) (sets 1 0x46 (Number (pos 0)))
    ∷ bench A Answer (status_of 0x3A 0x80) (reports 1 0x3A (Number (pos 0)))
    ∷ bench A Answer (status_of 0x45 0x80) (reports 1 0x45 (Number (pos 0)))
    ∷ bench A Answer (status_of 0x46 0x80) (reports 1 0x46 (Number (pos 0)))
    ∷ bench S Answer (status_of 0x3B 0x80) (reports 1 0x3B (Number (pos 0)))
    -- S 3B has no setting codes, and Leveller and the volume are not signed
    ∷ bench S Command (command_of 0x3B 0x80) (Some (Err WrongValue))
    ∷ bench A Command (command_of 0x39 0x80) (Some (Err WrongValue))
    ∷ bench A Answer (status_of 0x39 0x80) (Some (Err WrongValue))
    ∷ bench S Command (command_of 0x0D 0x80) (Some (Err WrongValue))
    -- "A 45 runs to A8, forty quarter steps"
    ∷ bench A Command (command_of 0x45 0xA8) (sets 1 0x45 (Number (neg_ℤ (pos 40))))
    ∷ bench A Answer (status_of 0x45 0xA8) (reports 1 0x45 (Number (neg_ℤ (pos 40))))
    ∷ bench A Command (command_of 0x45 0xA9) (Some (Err WrongValue))
    ∷ bench A Answer (status_of 0x45 0xA9) (Some (Err WrongValue))
    ∷ bench A Command (command_of 0x45 0x01) (Some (Err WrongValue))
    -- the ends of the other three rows stay
    ∷ bench A Command (command_of 0x3A 0x90) (Some (Err WrongValue))
    ∷ bench A Command (command_of 0x46 0x8B) (Some (Err WrongValue))
    ∷ bench S Answer (status_of 0x3B 0x8D) (Some (Err WrongValue))
    -- a denied answer of A 3A: its data are as they came
    ∷ bench A Answer (0x21 ∷ 0x01 ∷ 0x3A ∷ 0x84 ∷ 0x01 ∷ 0x80 ∷ 0x0D ∷ []) (Some (Ok (message.Denied (record { zone = 1; command = 0x3A; answer = 0x84 }))))
    ∷ []

-- fields and data that are handed to the writer, and the frame that is written
pub record Handed : Type 0 where
  pub profile : Profile
  pub dir : Direction
  pub command : ℕ
  pub answer : ℕ
  pub load : List ℕ
  pub frame : List ℕ

abbrev pub handed : Profile → Direction → ℕ → ℕ → List ℕ → List ℕ → Handed
handed profile dir command answer load frame = record { profile = profile; dir = dir; command = command; answer = answer; load = load; frame = frame }

unfoldable pub handed_over : List Handed
handed_over =
    -- "80 in these rows, .. handed to the writer, is written as 00"
    handed A Command 0x3A 0x00 (0x80 ∷ []) (command_of 0x3A 0x00)
    ∷ handed A Command 0x45 0x00 (0x80 ∷ []) (command_of 0x45 0x00)
    ∷ handed A Command 0x46 0x00 (0x80 ∷ []) (command_of 0x46 0x00)
    ∷ handed A Answer 0x3A 0x00 (0x80 ∷ []) (status_of 0x3A 0x00)
    ∷ handed A Answer 0x45 0x00 (0x80 ∷ []) (status_of 0x45 0x00)
    ∷ handed A Answer 0x46 0x00 (0x80 ∷ []) (status_of 0x46 0x00)
    ∷ handed S Answer 0x3B 0x00 (0x80 ∷ []) (status_of 0x3B 0x00)
    -- a command's answer code is not looked at; every other code, and denied data, are written as they came
    ∷ handed A Command 0x3A 0x84 (0x80 ∷ []) (command_of 0x3A 0x00)
    ∷ handed A Command 0x3A 0x00 (0x81 ∷ []) (command_of 0x3A 0x81)
    ∷ handed A Command 0x3A 0x00 (0xF0 ∷ []) (command_of 0x3A 0xF0)
    ∷ handed A Answer 0x3A 0x84 (0x80 ∷ []) (0x21 ∷ 0x01 ∷ 0x3A ∷ 0x84 ∷ 0x01 ∷ 0x80 ∷ 0x0D ∷ [])
    ∷ handed A Answer 0x3A 0x84 (0x80 ∷ 0x80 ∷ []) (0x21 ∷ 0x01 ∷ 0x3A ∷ 0x84 ∷ 0x02 ∷ 0x80 ∷ 0x80 ∷ 0x0D ∷ [])
    ∷ []

-- the number that the rules of reading give; 0 where none applies
abbrev pub handed_number : Handed → ℕ
handed_number h = ruled (read_rules h.profile h.dir 0x01 h.command h.answer h.load) number 0

abbrev pub handed_frame : Handed → List ℕ
handed_frame h = fields_frame h.profile h.dir 0x01 h.command h.answer h.load

pub record ZeroTablePromise : Type 0 where
  pub frames : map bench_reading zero_frames ≡ map (λ (b : Bench). b.means) zero_frames
  pub taken : map handed_number handed_over ≡ map (λ (h : Handed). 0) handed_over
  pub written : map handed_frame handed_over ≡ map (λ (h : Handed). h.frame) handed_over
