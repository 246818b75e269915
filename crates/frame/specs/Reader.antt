-- Document 01, 'The frame and its reader': the house rule, byte by byte.
-- The definition's reader is the list of the bytes that it has taken of a frame; it is empty outside.
use Rattle.std.specs.Prelude.{ℕ, ◌+◌, Bool, ◌||◌, cond, List, [], ◌∷◌, ◌++◌, eqb, leb, length}
use Rattle.streams.specs.Stream.{answers_by, reader_by}
use Rattle.frame.specs.Frame.{header, opens, ends, dl}
use Rattle.frame.specs.declared.direction.Direction.{Direction}
use Rattle.frame.specs.declared.reader.ByteAnswer.{ByteAnswer}
use Rattle.frame.specs.declared.reader.ByteAnswer.TheVariants.{Waiting, Noise, Frame, Broken}

-- "A fresh reader stands outside any frame."
abbrev pub outside : List ℕ → Bool
outside taken = eqb (length taken) 0

-- "at the end place": all the places before it are filled
abbrev pub at_end : Direction → List ℕ → Bool
at_end dir taken = leb (header dir + dl dir taken) (length taken)

-- "The answer to each byte is one of: waiting, noise, frame, broken with its length."
unfoldable pub answer_to : Direction → List ℕ → ℕ → ByteAnswer
answer_to dir taken b =
    cond (outside taken)
    (cond (eqb b opens) Waiting Noise)
    (cond (at_end dir taken)
    (cond (eqb b ends)
    (Frame (length taken + 1))
    (cond (eqb b opens) (Broken (length taken)) (Broken (length taken + 1))))
    Waiting)

-- "outside, 21 opens a frame"; "inside, bytes fill the places in order"; at the end place 21 "opens the next frame" and after
-- any other byte the reader stands outside: "Nothing inside a broken stretch is read again."
unfoldable pub taken_after : Direction → List ℕ → ℕ → List ℕ
taken_after dir taken b =
    cond (outside taken || at_end dir taken) (cond (eqb b opens) (b ∷ []) []) (taken ++ b ∷ [])

-- "It takes one byte at a time": the answers to the bytes of a stream, and the reader after them
abbrev pub answers : Direction → List ℕ → List ℕ → List ByteAnswer
answers dir taken bytes = answers_by (taken_after dir) (answer_to dir) taken bytes

abbrev pub taken_by : Direction → List ℕ → List ℕ → List ℕ
taken_by dir taken bytes = reader_by (taken_after dir) taken bytes
