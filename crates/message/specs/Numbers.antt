-- Document 01: "Where an answer is an enum, a definition gives this paper's number and values for each of its cases." The number
-- of an answer is 0 where it is accepted; a refusal's other values are zero. Bytes that are not one whole frame have no number.
use Rattle.std.specs.Prelude.{ℕ, List, [], Err, None, Ok, Option, Result, Some}
use Rattle.refusals.specs.Refusal.{number}
use Rattle.message.specs.Write.{said_data}
use Rattle.row.specs.declared.profile.Profile.{Profile}
use Rattle.message.specs.declared.read.Message.{Message}
use Rattle.message.specs.declared.read.Message.TheVariants as message
use Rattle.refusals.specs.declared.refusal.Refusal.{Refusal}

-- a profile's letter
abbrev pub profile_number : Result Profile Refusal → ℕ
profile_number (Ok profile) = 0
profile_number (Err e) = number e

abbrev pub reading_number : Result Message Refusal → ℕ
reading_number (Ok m) = 0
reading_number (Err e) = number e

-- a message as document 01's fields: zone, command, answer code, data
pub record Paper : Type 0 where
  pub zone : ℕ
  pub command : ℕ
  pub answer : ℕ
  pub body : List ℕ

abbrev pub message_paper : Profile → Message → List ℕ → Paper
message_paper profile (message.Command s) body = record { zone = s.zone; command = s.command; answer = 0; body = said_data profile s.command s.content }
message_paper profile (message.Status s) body = record { zone = s.zone; command = s.command; answer = 0; body = said_data profile s.command s.content }
message_paper profile (message.Denied d) body = record { zone = d.zone; command = d.command; answer = d.answer; body = body }

abbrev pub zero_paper : Paper
zero_paper = record { zone = 0; command = 0; answer = 0; body = [] }

abbrev pub reading_paper : Profile → Result Message Refusal → List ℕ → Paper
reading_paper profile (Ok m) body = message_paper profile m body
reading_paper profile (Err e) body = zero_paper

-- the same of a frame's bytes; where they are not one whole frame the paper has no number, and 0 stands here
abbrev pub frame_number : Option (Result Message Refusal) → ℕ
frame_number (Some (Ok m)) = 0
frame_number (Some (Err e)) = number e
frame_number None = 0

abbrev pub frame_paper : Profile → Option (Result Message Refusal) → List ℕ → Paper
frame_paper profile (Some (Ok m)) body = message_paper profile m body
frame_paper profile (Some (Err e)) body = zero_paper
frame_paper profile None body = zero_paper
