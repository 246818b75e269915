-- Document 01, 'The frame and its reader': what each answer to a byte says, in the rule's own cases.
use Rattle.std.specs.Prelude.{◌≡◌, List, ◌⊎◌, ℕ, ◌+◌, ◌≤◌, ◌<◌, length}
use Rattle.frame.specs.Frame.{header, opens, ends, dl}
use Rattle.frame.specs.declared.direction.Direction.{Direction}
use Rattle.frame.specs.declared.reader.ByteAnswer.{ByteAnswer}
use Rattle.frame.specs.declared.reader.ByteAnswer.TheVariants.{Waiting, Noise, Frame, Broken}

-- where a reader stands, by the bytes that it has taken
abbrev pub Outside : List ℕ → Type 0
Outside taken = length taken ≡ 0

abbrev pub Inside : Direction → List ℕ → Type 0
Inside dir taken = (0 < length taken) × (length taken < header dir + dl dir taken)

abbrev pub AtEndPlace : Direction → List ℕ → Type 0
AtEndPlace dir taken = (0 < length taken) × (header dir + dl dir taken ≤ length taken)

abbrev pub Means : Direction → List ℕ → ℕ → ByteAnswer → Type 0
-- "outside, 21 opens a frame"; "inside, bytes fill the places in order"
Means dir taken b Waiting = (Outside taken × (b ≡ opens)) ⊎ Inside dir taken
-- "every other byte is noise"
Means dir taken b Noise = Outside taken × (b ≡ opens → ⊥)
-- "at the end place, 0D completes the frame"
Means dir taken b (Frame n) = AtEndPlace dir taken × (b ≡ ends) × (n ≡ length taken + 1)
-- "at the end place, any other byte makes it broken. If that byte is 21 it .. is not part of the broken one; otherwise
-- the broken stretch includes it."
Means dir taken b (Broken n) =
    AtEndPlace dir taken × (b ≡ ends → ⊥) × (((b ≡ opens) × (n ≡ length taken)) ⊎ ((b ≡ opens → ⊥) × (n ≡ length taken + 1)))
