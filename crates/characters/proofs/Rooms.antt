-- What writing a text answers and leaves, by the room for as many bytes as it has.
use mathlib.Core.Path.{◌≡◌, ap, sym, ◌∙◌}
use mathlib.Core.Bool.{true, false}
use mathlib.Core.List.{List, []}
use Prim.Native.Nat.{ℕ}
use lib.ListN.{length}
use Rattle.lent.specs.Placed.{placed}
use Rattle.lent.specs.Written.{lacks_room, write_answered, write_left}
use Rattle.lent.proofs.Writes.{write_nine, write_there}
use Rattle.std.specs.Prelude.{Err, Ok}
use Rattle.refusals.specs.declared.refusal.Refusal.TheVariants.{NoRoom}

module _ (buf : List ℕ) (at : ℕ) (text : List ℕ) (n : ℕ) (long : n ≡ length text) where
  pub refused : lacks_room (length buf) at n ≡ true → (Err NoRoom ≡ write_answered [] buf at text) × (buf ≡ write_left [] buf at text)
  refused e =
      let w = write_nine [] buf at text tt (sym (ap (λ (k : ℕ). lacks_room (length buf) at k) long) ∙ e) in
      (sym w.0, sym w.1)

  pub written : lacks_room (length buf) at n ≡ false → (after : List ℕ) → after ≡ placed buf at text
      → (Ok n ≡ write_answered [] buf at text) × (after ≡ write_left [] buf at text)
  written e after stands =
      let w = write_there [] buf at text tt (sym (ap (λ (k : ℕ). lacks_room (length buf) at k) long) ∙ e) in
      (ap Ok long ∙ sym w.0, stands ∙ sym w.1)
