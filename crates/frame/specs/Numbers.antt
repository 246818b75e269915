-- Document 01, 'Which language form to use': "Where an answer is an enum, a definition gives this paper's number and values for
-- each of its cases." 'Refusal numbers': "A refusal returns its number and zero for every other field". 0 stands for accepted.
use Rattle.std.specs.Prelude.{ℕ, Err, Ok, Result}
use Rattle.refusals.specs.Refusal.{number}
use Rattle.refusals.specs.declared.refusal.Refusal.{Refusal}
use Rattle.frame.specs.declared.direction.Direction.{Direction}
use Rattle.frame.specs.declared.capture.Totals.{Totals}

-- a letter
abbrev pub letter_number : Result Direction Refusal → ℕ
letter_number (Ok dir) = 0
letter_number (Err e) = number e

-- a capture: its number, and its totals
abbrev pub counted_number : Result Totals Refusal → ℕ
counted_number (Ok t) = 0
counted_number (Err e) = number e

abbrev pub no_totals : Totals
no_totals = record { frame = 0; broken = 0; noise = 0; pending = 0 }

abbrev pub counted_totals : Result Totals Refusal → Totals
counted_totals (Ok t) = t
counted_totals (Err e) = no_totals
