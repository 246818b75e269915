-- The totals of a capture that is not too long: they are counted, and none is over its length.
use mathlib.Core.Path.{◌≡◌}
use mathlib.Core.List.{List}
use Prim.Native.Nat.{ℕ, ◌≤◌}
use native.Mathlib.Omega.{arith}
use borrow.Author.Tests.{le-ltb}
use lib.ListN.{length}
use Rattle.frame.specs.Capture.{capture_limit, totals_of, counted_of}
use Rattle.frame.specs.declared.direction.Direction.{Direction}
use Rattle.frame.specs.declared.capture.Totals.{Totals}
use Rattle.frame.proofs.Tiled.{capture_promise}
use Rattle.std.specs.Prelude.{Ok}

module _ (dir : Direction) (capture : List ℕ) (small : length capture ≤ capture_limit) where
  pub counts : counted_of dir capture ≡ Ok (totals_of dir capture)
  counts = rw (le-ltb capture_limit (length capture) small)

pub record Small (t : Totals) (n : ℕ) : Type 0 where
  pub frames : t.frame ≤ n
  pub brokens : t.broken ≤ n
  pub noises : t.noise ≤ n
  pub pendings : t.pending ≤ n

pub totals_small : (dir : Direction) (capture : List ℕ) → Small (totals_of dir capture) (length capture)
totals_small dir capture =
    let all = capture_promise.total dir capture in
    record { frames = omega arith; brokens = omega arith; noises = omega arith; pendings = omega arith }
