-- Document 01, 'Refusal numbers': "A frame is written into the rest of a lent buffer from a given place; no byte outside it changes."
use Rattle.std.specs.Prelude.{ℕ, ◌+◌, ◌-◌, cond, List, [], ◌++◌, leb, length, take, drop}

-- "no byte outside it changes": the buffer with these bytes at a place, and every other byte as it was
abbrev pub placed : List ℕ → ℕ → List ℕ → List ℕ
placed buf at bytes = take at buf ++ (bytes ++ drop (at + length bytes) buf)

-- so many bytes from a place on; none where they are not all there
unfoldable pub bytes_at : List ℕ → ℕ → ℕ → List ℕ
bytes_at bytes at n = cond (leb (at + n) (length bytes)) (take n (drop at bytes)) []

-- the last bytes of those kept; none where fewer are kept
unfoldable pub last_bytes : List ℕ → ℕ → List ℕ
last_bytes kept n = cond (leb n (length kept)) (drop (length kept - n) kept) []
