-- Document 01, 'Refusal numbers': "No. | When", and document 02, C-11: 13. "Where an answer is an enum, a definition gives this paper's
-- number and values for each of its cases."
use Rattle.std.specs.Prelude.{ℕ}
use Rattle.refusals.specs.declared.refusal.Refusal.{Refusal}
use Rattle.refusals.specs.declared.refusal.Refusal.TheVariants.{WrongZone, NoRow, WrongLength, WrongValue, WrongAnswer, TooManyLines, IllegalLine, RepeatedLine, NoRoom, WrongFile, TooLong, WrongLetter, NoStep}
use Rattle.refusals.specs.declared.refusal.Fault.{Fault}

-- "A refusal returns its number"
abbrev pub number : Refusal → ℕ
number WrongZone = 1
number NoRow = 2
number WrongLength = 3
number WrongValue = 4
number WrongAnswer = 5
number TooManyLines = 6
number IllegalLine = 7
number RepeatedLine = 8
number NoRoom = 9
number WrongFile = 10
number TooLong = 11
number WrongLetter = 12
number NoStep = 13

-- "6, 7, 8 and 10: also the line's index from 0": a refusal with its place
abbrev pub fault : Refusal → ℕ → Fault
fault refusal place = record { refusal = refusal; place = place }
