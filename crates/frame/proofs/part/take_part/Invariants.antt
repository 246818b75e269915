use mathlib.Core.Path.{◌≡◌}
use Prim.Native.Nat.{◌+◌, ◌≤◌}
use lib.ListN.{drop}
use Rattle.frame.proofs.Parts.{part_from, held}
use Rattle.frame.proofs.part.take_part.Given as goal

abbrev pub invariant-loop-byte : goal.invariant-loop-byte
invariant-loop-byte l =
    (held l.part ≤ l.byte-index + 65535) × (part_from l.initial.part l.bytes ≡ part_from l.part (drop l.byte-index l.bytes))
