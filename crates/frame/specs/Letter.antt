-- Document 01, 'Bench frames': "direction letter C or R"; refusal 12, "profile or direction letter other than those named".
use Rattle.std.specs.Prelude.{ℕ, eqb, cond, Err, Ok, Result}
use Rattle.frame.specs.declared.direction.Direction.TheVariants.{Command, Answer}
use Rattle.refusals.specs.declared.refusal.Refusal.{Refusal}
use Rattle.refusals.specs.declared.refusal.Refusal.TheVariants.{WrongLetter}
use Rattle.frame.specs.declared.direction.Direction.{Direction}

-- 43 hex is the letter C, 52 hex the letter R
unfoldable pub direction_of : ℕ → Result Direction Refusal
direction_of letter = cond (eqb letter 0x43) (Ok Command) (cond (eqb letter 0x52) (Ok Answer) (Err WrongLetter))
