-- Document 01, 'Which language form to use': "Where an answer is an enum, a definition gives this paper's number and values for
-- each of its cases." 'Refusal numbers': "A refusal returns its number and zero for every other field (6, 7, 8 and 10: also the
-- line's index from 0 ..)". The number of an answer that is no refusal is 0.
use Rattle.std.specs.Prelude.{ℕ, Bool, Err, Ok, Result, false, true}
use Rattle.refusals.specs.Refusal.{number}
use Rattle.refusals.specs.declared.refusal.Fault.{Fault}

-- a sign-off: its number, the line's index, and 1 for yes and 0 for no
abbrev pub signed_number : Result Bool Fault → ℕ
signed_number (Ok agrees) = 0
signed_number (Err f) = number f.refusal

abbrev pub signed_place : Result Bool Fault → ℕ
signed_place (Ok agrees) = 0
signed_place (Err f) = f.place

abbrev pub signed_yes : Result Bool Fault → ℕ
signed_yes (Ok true) = 1
signed_yes (Ok false) = 0
signed_yes (Err f) = 0
