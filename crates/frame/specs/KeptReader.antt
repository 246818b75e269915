-- The reader that the code keeps: the definition's reader without the bytes. Wherever a stream can lead it, it answers by
-- the same rule (ReaderPromise). The host may have spoilt its fields: it answers for each value of them, and a place past
-- the end place, where no stream leads, counts as the end place.
use Rattle.std.specs.Prelude.{ℕ, ◌+◌, List, eqb, ltb, length, cond}
use Rattle.streams.specs.Stream.{answers_by, reader_by}
use Rattle.frame.specs.Frame.{header, opens, ends, dl}
use Rattle.frame.specs.declared.direction.Direction.{Direction}
use Rattle.frame.specs.declared.reader.ByteAnswer.{ByteAnswer}
use Rattle.frame.specs.declared.reader.ByteAnswer.TheVariants.{Waiting, Noise, Frame, Broken}
use Rattle.frame.specs.declared.reader.Reader.{Reader}
use Rattle.frame.specs.declared.reader.Fed.{Fed}

-- what is kept of the bytes taken: how many they are, and Dl
abbrev pub reader_of : Direction → List ℕ → Reader
reader_of dir taken = record { direction = dir; place = length taken; dl = dl dir taken }

abbrev pub fresh_reader : Direction → Reader
fresh_reader dir = record { direction = dir; place = 0; dl = 0 }

abbrev pub stood : Direction → ℕ → ℕ → ByteAnswer → Fed
stood dir place n answer = record { reader = record { direction = dir; place = place; dl = n }; answer = answer }

-- one byte, over the header's length
unfoldable pub fed_at : Direction → ℕ → ℕ → ℕ → ℕ → Fed
fed_at dir head place n b =
    cond (eqb place 0)
    (cond (eqb b opens) (stood dir 1 0 Waiting) (stood dir 0 0 Noise))
    (cond (ltb place head)
    (cond (eqb (place + 1) head) (stood dir (place + 1) b Waiting) (stood dir (place + 1) 0 Waiting))
    (cond (ltb place (head + n))
    (stood dir (place + 1) n Waiting)
    (cond (eqb b ends)
    (stood dir 0 0 (Frame (head + n + 1)))
    (cond (eqb b opens) (stood dir 1 0 (Broken (head + n))) (stood dir 0 0 (Broken (head + n + 1)))))))

abbrev pub fed_of : Reader → ℕ → Fed
fed_of r b = fed_at r.direction (header r.direction) r.place r.dl b

abbrev pub next_reader : Reader → ℕ → Reader
next_reader r b = (fed_of r b).reader

abbrev pub byte_answer : Reader → ℕ → ByteAnswer
byte_answer r b = (fed_of r b).answer

-- a part of a stream, from a given reader: the answers, and the reader after them
abbrev pub answers_of : Reader → List ℕ → List ByteAnswer
answers_of r bytes = answers_by next_reader byte_answer r bytes

abbrev pub reader_after : Reader → List ℕ → Reader
reader_after r bytes = reader_by next_reader r bytes
