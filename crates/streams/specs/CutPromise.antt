-- Promise: "how a stream is cut into calls changes nothing", of any reader. Parts fed one after another, each to the reader that the last
-- one left, bring the answers of the whole, and leave the reader that the whole leaves.
use Rattle.std.specs.Prelude.{◌≡◌, List, [], ◌∷◌, ◌++◌, ℕ}
use Rattle.lists.specs.InOrder.{joined}
use Rattle.streams.specs.Stream.{answers_by, reader_by}

abbrev pub answers_in_parts : {R A : Type 0} → (R → ℕ → R) → (R → ℕ → A) → R → List (List ℕ) → List A
answers_in_parts next answer r [] = []
answers_in_parts next answer r (p ∷ ps) = answers_by next answer r p ++ answers_in_parts next answer (reader_by next r p) ps

abbrev pub reader_in_parts : {R : Type 0} → (R → ℕ → R) → R → List (List ℕ) → R
reader_in_parts next r [] = r
reader_in_parts next r (p ∷ ps) = reader_in_parts next (reader_by next r p) ps

pub record CutPromise {R A : Type 0} (next : R → ℕ → R) (answer : R → ℕ → A) : Type 0 where
  pub answers : (r : R) (parts : List (List ℕ)) → answers_in_parts next answer r parts ≡ answers_by next answer r (joined parts)
  pub reader : (r : R) (parts : List (List ℕ)) → reader_in_parts next r parts ≡ reader_by next r (joined parts)
