-- Document 01, 'Which language form to use': "Where an answer is an enum, a definition gives this paper's number and values for
-- each of its cases." 'Refusal numbers': "A refusal returns its number and zero for every other field". The number of an
-- answer that is no refusal is 0.
use Rattle.std.specs.Prelude.{ℕ, List, Err, Ok, Result}
use Rattle.message.specs.Numbers.{reading_number, Paper, reading_paper}
use Rattle.tracker.specs.declared.tracker.Kept.{Kept}
use Rattle.tracker.specs.declared.tracker.Kept.TheVariants as kept
use Rattle.tracker.specs.declared.feed.AnswerFed.{AnswerFed}
use Rattle.refusals.specs.declared.refusal.Refusal.{Refusal}
use Rattle.refusals.specs.Refusal.{number}

-- what is kept: no refusal; 1 stands for a byte, 0 for unknown and 2 for no cell, for which the paper has no numbers; its byte
abbrev pub kept_state : Kept → ℕ
kept_state (kept.Value b) = 1
kept_state kept.Unknown = 0
kept_state kept.NoCell = 2

abbrev pub kept_byte : Kept → ℕ
kept_byte (kept.Value b) = b
kept_byte kept.Unknown = 0
kept_byte kept.NoCell = 0

-- an answer that was fed: the number and the fields of what it read as; 1 to 5 have no place
abbrev pub fed_number : AnswerFed → ℕ
fed_number f = reading_number f.reading

abbrev pub fed_paper : AnswerFed → List ℕ → Paper
fed_paper f body = reading_paper f.tracker.profile f.reading body

-- a capture that was fed: its number; it has no place
abbrev pub capture_number : Result (Unit {0}) Refusal → ℕ
capture_number (Ok u) = 0
capture_number (Err e) = number e
