-- Document 01: "Where an answer is an enum, a definition gives this paper's number and values for each of its cases."
use Rattle.std.specs.Prelude.{ℕ, Err, Ok, Result}
use Rattle.refusals.specs.Refusal.{number}
use Rattle.refusals.specs.declared.refusal.Refusal.{Refusal}
use Rattle.frame.specs.declared.direction.Direction.{Direction}
use Rattle.row.specs.declared.profile.Profile.{Profile}

-- 0 for an input that is listed
abbrev pub asked_number : Result (Profile × Direction) Refusal → ℕ
asked_number (Ok (p, dir)) = 0
asked_number (Err e) = number e
