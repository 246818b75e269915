-- 9, by the place and the room that there is.
use mathlib.Core.Path.{◌≡◌}
use mathlib.Core.Bool.{true, false}
use Prim.Native.Nat.{ℕ, ◌+◌, ◌-◌, ◌≤◌, ◌<◌}
use native.Mathlib.Omega.{arith}
use borrow.Author.Tests.{lt-ltb, le-ltb, ltb-false}
use lib.Dec.{ltb}
use Rattle.refusals.proofs.Ruled.{or_false}
use Rattle.lent.specs.Written.{lacks_room}

module _ (long at n : ℕ) where
  pub past_end : long < at → lacks_room long at n ≡ true
  unfolding lacks_room
  past_end h = rw (lt-ltb long at h)

  pub too_few : at ≤ long → long - at < n → lacks_room long at n ≡ true
  unfolding lacks_room
  too_few within h = rw (le-ltb long at within, lt-ltb (long - at) n h)

  pub enough : at ≤ long → n ≤ long - at → lacks_room long at n ≡ false
  unfolding lacks_room
  enough within h = rw (le-ltb long at within, le-ltb (long - at) n h)

  pub fits : at + n ≤ long → lacks_room long at n ≡ false
  fits h = enough (omega arith) (omega arith)

  -- and back: where there is room, the place and the bytes lie within the buffer
  pub room_place : lacks_room long at n ≡ false → at ≤ long
  unfolding lacks_room
  room_place e = ltb-false long at (or_false (ltb long at) (ltb (long - at) n) e).0

  pub room_within : lacks_room long at n ≡ false → at + n ≤ long
  unfolding lacks_room
  room_within e =
      let parts = or_false (ltb long at) (ltb (long - at) n) e in
      let within : at ≤ long = ltb-false long at parts.0 in
      let rest : n ≤ long - at = ltb-false (long - at) n parts.1 in
      omega arith
