use mathlib.Core.Path.{◌≡◌}
use mathlib.Core.List.{List, ◌++◌}
use Prim.Native.Nat.{ℕ, ◌+◌, ◌≤◌}
use lib.ListN.{length, take, drop}
use Rattle.characters.specs.Computed.{last_digits}
use Rattle.decimal.proofs.decimal.put_digits.Given as goal

abbrev pub invariant-loop-i : goal.invariant-loop-i
invariant-loop-i l =
    (later : List ℕ) × (l.i ≤ l.count) × (length l.buf ≡ length l.initial.buf) × (last_digits l.count l.number ≡ last_digits l.i l.rest ++ later)
    × (l.buf ≡ take (l.at + l.i) l.initial.buf ++ (later ++ drop (l.at + l.count) l.initial.buf))
