-- A reader of a stream takes one byte at a time: what it is after a byte, and what it answers to it.
use Rattle.std.specs.Prelude.{ℕ, List, [], ◌∷◌}

-- the answers to the bytes of a stream, one by one
unfoldable pub answers_by : {R A : Type 0} → (R → ℕ → R) → (R → ℕ → A) → R → List ℕ → List A
answers_by next answer r [] = []
answers_by next answer r (b ∷ bs) = answer r b ∷ answers_by next answer (next r b) bs

-- the reader after them
unfoldable pub reader_by : {R : Type 0} → (R → ℕ → R) → R → List ℕ → R
reader_by next r [] = r
reader_by next r (b ∷ bs) = reader_by next (next r b) bs
