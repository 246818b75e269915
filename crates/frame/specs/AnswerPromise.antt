-- Promise: the answer to a byte is the one whose meaning holds, and no other's does.
use Rattle.std.specs.Prelude.{◌≡◌, List, ℕ}
use Rattle.frame.specs.Reader.{answer_to}
use Rattle.frame.specs.Meaning.{Means}
use Rattle.frame.specs.declared.direction.Direction.{Direction}
use Rattle.frame.specs.declared.reader.ByteAnswer.{ByteAnswer}

pub record AnswerPromise : Type 0 where
  pub given : (dir : Direction) (taken : List ℕ) (b : ℕ) → Means dir taken b (answer_to dir taken b)
  pub alone : (dir : Direction) (taken : List ℕ) (b : ℕ) (a : ByteAnswer) → Means dir taken b a → a ≡ answer_to dir taken b
