-- Each public function's contract admits one answer: its result, and the lent bytes after it where it has any.
use mathlib.Core.Path.{◌≡◌}
use mathlib.Core.List.{List}
use Prim.Native.Nat.{ℕ}
use Rattle.refusals.specs.OneAnswer.{OneAnswer}
use Rattle.refusals.proofs.One.{one, one_lent}
use Rattle.lent.specs.Written.{write_answered, write_left}
use Rattle.frame.specs.Frame.{frame_of}
use Rattle.fields.specs.Fields.{fields_of, data_of}
use Rattle.fields.specs.Raw.{raw_rules}
use Rattle.frame.specs.declared.direction.Direction.{Direction}
use Rattle.std.specs.Prelude.{Result}
use Rattle.refusals.specs.declared.refusal.Refusal.{Refusal}
use Rattle.fields.specs.declared.fields.Fields.{Fields}

pub frame_fields_one : (direction : Direction) (bytes : List ℕ) → OneAnswer (λ x. x ≡ fields_of direction bytes)
frame_fields_one direction bytes = one (fields_of direction bytes)

pub frame_data_one : (direction : Direction) (bytes : List ℕ) → OneAnswer (λ x. x ≡ data_of direction bytes)
frame_data_one direction bytes = one (data_of direction bytes)

pub write_raw_one : (direction : Direction) (fields : Fields) (body buf : List ℕ) (at : ℕ)
    → OneAnswer (λ (x : Result ℕ Refusal × List ℕ). (x.0 ≡ write_answered (raw_rules body) buf at (frame_of direction fields.zone fields.command fields.answer body))
    × (x.1 ≡ write_left (raw_rules body) buf at (frame_of direction fields.zone fields.command fields.answer body)))
write_raw_one direction fields body buf at =
    one_lent (write_answered (raw_rules body) buf at (frame_of direction fields.zone fields.command fields.answer body))
    (write_left (raw_rules body) buf at (frame_of direction fields.zone fields.command fields.answer body))
