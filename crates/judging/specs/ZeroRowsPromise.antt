-- Promise: document 02, C-14: "80 .. in A 3A, A 45 and A 46, in commands and answers, and in S 3B's answers", and nowhere else: what 80 gives,
-- row by row in document 01's order.
use Rattle.std.specs.Prelude.{◌≡◌, [], ◌∷◌}
use Rattle.frame.specs.declared.direction.Direction.TheVariants.{Command, Answer}
use Rattle.judging.specs.StepPromise.{in_rows}

pub record ZeroRowsPromise : Type 0 where
  -- of A's 0F, 10, 11, 37, 38, 39, 3A, 44, 45, 46 the rows 3A, 45 and 46
  pub commands : in_rows Command 0x80
      ≡ 4 ∷ 4 ∷ 4 ∷ 4 ∷ 4 ∷ 4 ∷ 0 ∷ 4 ∷ 0 ∷ 0
      ∷ 4 ∷ 4 ∷ 4 ∷ 4 ∷ 4 ∷ 4 ∷ 4 ∷ 4 ∷ 4 ∷ []
  -- and of S's 0D, 0E, 0F, 37, 3B, 44, 5A, 5B, 5C the row 3B; an answer of S 0F has two bytes
  pub answers : in_rows Answer 0x80
      ≡ 4 ∷ 4 ∷ 4 ∷ 4 ∷ 4 ∷ 4 ∷ 0 ∷ 4 ∷ 0 ∷ 0
      ∷ 4 ∷ 4 ∷ 3 ∷ 4 ∷ 0 ∷ 4 ∷ 4 ∷ 4 ∷ 4 ∷ []
