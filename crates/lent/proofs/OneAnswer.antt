-- Each public function's contract admits one answer: its result, and the lent bytes after it where it has any.
use mathlib.Core.Path.{◌≡◌}
use mathlib.Core.List.{List, []}
use Prim.Native.Nat.{ℕ}
use Rattle.refusals.specs.OneAnswer.{OneAnswer}
use Rattle.refusals.proofs.One.{one, one_lent}
use Rattle.lent.specs.Placed.{bytes_at, last_bytes}
use Rattle.lent.specs.Written.{lacks_room, write_answered, write_left}
use Rattle.std.specs.Prelude.{Result}
use Rattle.refusals.specs.declared.refusal.Refusal.{Refusal}

pub write_bytes_one : (buf : List ℕ) (at : ℕ) (bytes : List ℕ)
    → OneAnswer (λ (x : Result ℕ Refusal × List ℕ). (x.0 ≡ write_answered [] buf at bytes) × (x.1 ≡ write_left [] buf at bytes))
write_bytes_one buf at bytes = one_lent (write_answered [] buf at bytes) (write_left [] buf at bytes)

pub lacks_room_one : (length at count : ℕ) → OneAnswer (λ x. x ≡ lacks_room length at count)
lacks_room_one length at count = one (lacks_room length at count)

pub bytes_at_one : (bytes : List ℕ) (at length : ℕ) → OneAnswer (λ x. x ≡ bytes_at bytes at length)
bytes_at_one bytes at length = one (bytes_at bytes at length)

pub last_bytes_one : (kept : List ℕ) (count : ℕ) → OneAnswer (λ x. x ≡ last_bytes kept count)
last_bytes_one kept count = one (last_bytes kept count)
