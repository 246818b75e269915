-- What is promised of bytes written into what is lent is so of each kind of text.
use mathlib.Core.List.{List, []}
use Prim.Native.Nat.{ℕ}
use lib.IntN.{ℤ}
use Rattle.lent.specs.WritePromise.{WritePromise}
use Rattle.lent.proofs.Writes.{write_promise}
use Rattle.characters.specs.Decimal.{decimal, integer}
use Rattle.characters.specs.Hex.{hex_byte}

module _ (buf : List ℕ) (at : ℕ) where
  pub decimal_written : (n : ℕ) → WritePromise [] buf at (decimal n)
  decimal_written n = write_promise [] buf at (decimal n)

  pub integer_written : (z : ℤ) → WritePromise [] buf at (integer z)
  integer_written z = write_promise [] buf at (integer z)

  pub hex_written : (b : ℕ) → WritePromise [] buf at (hex_byte b)
  hex_written b = write_promise [] buf at (hex_byte b)
