-- What the private functions of the crates of code compute: nothing here need be believed. What a command or a status says; what an
-- answer with another code than 00 reads as; and, for proofs alone, whether a message is a denial.
use Rattle.std.specs.Prelude.{ℕ, Bool, true, false, not, List, [], ◌∷◌, eqb, Err, None, Ok, Option, Result, Some}
use Rattle.refusals.specs.Rule.{rule, ruled}
use Rattle.fields.specs.Raw.{too_long}
use Rattle.frame.specs.declared.direction.Direction.{Direction}
use Rattle.frame.specs.declared.direction.Direction.TheVariants.{Command, Answer}
use Rattle.row.specs.declared.profile.Profile.{Profile}
use Rattle.judging.specs.Judge.{judged_of}
use Rattle.message.specs.Message.{is_denial, said, denial}
use Rattle.message.specs.declared.read.Said.{Said}
use Rattle.message.specs.declared.read.Message.{Message}
use Rattle.message.specs.declared.read.Message.TheVariants as message
use Rattle.refusals.specs.declared.refusal.Refusal.{Refusal}
use Rattle.refusals.specs.declared.refusal.Refusal.TheVariants.{WrongAnswer}
use Rattle.row.specs.declared.table.Row.{Row}

-- what a command or a status says, as it is judged
abbrev pub said_by : Direction → ℕ → ℕ → List ℕ → Result Row Refusal → Result Said Refusal
said_by dir zone command body (Ok row) = Ok (said dir row zone command body)
said_by dir zone command body (Err e) = Err e

abbrev pub said_read : Profile → Direction → ℕ → ℕ → List ℕ → Result Said Refusal
said_read profile dir zone command body = said_by dir zone command body (judged_of profile dir zone command body)

-- has an answer a code other than 00
abbrev pub has_other_code : Direction → ℕ → Bool
has_other_code Command ac = false
has_other_code Answer ac = not (eqb ac 0x00)

-- what an answer reads as whose code is not 00
abbrev pub denied_read : ℕ → ℕ → ℕ → List ℕ → Result Message Refusal
denied_read zone command ac body =
    ruled (rule WrongAnswer (not (is_denial ac)) ∷ too_long body ∷ []) Err (Ok (message.Denied (denial zone command ac)))

-- the message of a direction that says something
abbrev pub message_saying : Direction → Said → Message
message_saying Command s = message.Command s
message_saying Answer s = message.Status s

abbrev pub is_denial_message : Message → Bool
is_denial_message (message.Command s) = false
is_denial_message (message.Status s) = false
is_denial_message (message.Denied d) = true

abbrev pub is_denied : Option (Result Message Refusal) → Bool
is_denied (Some (Ok m)) = is_denial_message m
is_denied (Some (Err e)) = false
is_denied None = false
