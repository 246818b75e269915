-- A refusal's number tells which it is.
use mathlib.Core.Path.{◌≡◌, refl, sym, ap, ◌∙◌}
use Rattle.std.specs.Prelude.{ℕ, cond, eqb}
use Rattle.refusals.specs.declared.refusal.Refusal.{Refusal}
use Rattle.refusals.specs.declared.refusal.Refusal.TheVariants.{WrongZone, NoRow, WrongLength, WrongValue, WrongAnswer, TooManyLines, IllegalLine, RepeatedLine, NoRoom, WrongFile, TooLong, WrongLetter, NoStep}
use Rattle.refusals.specs.Refusal.{number}
use Rattle.refusals.specs.NumberPromise.{NumberPromise}

-- the refusal of a number; any for a number that none has
abbrev named : ℕ → Refusal
named n =
    cond (eqb n 1) WrongZone
    (cond (eqb n 2) NoRow
    (cond (eqb n 3) WrongLength
    (cond (eqb n 4) WrongValue
    (cond (eqb n 5) WrongAnswer
    (cond (eqb n 6) TooManyLines
    (cond (eqb n 7) IllegalLine
    (cond (eqb n 8) RepeatedLine
    (cond (eqb n 9) NoRoom
    (cond (eqb n 10) WrongFile
    (cond (eqb n 11) TooLong
    (cond (eqb n 12) WrongLetter NoStep)))))))))))

back : (e : Refusal) → named (number e) ≡ e
back WrongZone = refl
back NoRow = refl
back WrongLength = refl
back WrongValue = refl
back WrongAnswer = refl
back TooManyLines = refl
back IllegalLine = refl
back RepeatedLine = refl
back NoRoom = refl
back WrongFile = refl
back TooLong = refl
back WrongLetter = refl
back NoStep = refl

some : (e : Refusal) → number e ≡ 0 → ⊥
some WrongZone p = cc
some NoRow p = cc
some WrongLength p = cc
some WrongValue p = cc
some WrongAnswer p = cc
some TooManyLines p = cc
some IllegalLine p = cc
some RepeatedLine p = cc
some NoRoom p = cc
some WrongFile p = cc
some TooLong p = cc
some WrongLetter p = cc
some NoStep p = cc

pub number_promise : NumberPromise
number_promise = record { some = some; own = λ e f p. sym (back e) ∙ (ap named p ∙ back f) }
