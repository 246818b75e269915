-- What it takes to be one whole frame.
use mathlib.Core.Path.{◌≡◌, refl}
use mathlib.Core.Bool.{Bool, true, false, ◌&&◌}
use mathlib.Core.List.{List}
use Prim.Native.Nat.{ℕ, ◌-◌, ◌<◌}
use native.Mathlib.Omega.{arith}
use borrow.Author.Tests.{eq-eqb, ne_eqb, eqb-true}
use lib.ListN.{length, get_or}
use Rattle.lists.proofs.Tests.{both}
use Rattle.frame.specs.Frame.{opens, ends, header, frame_length, dl}
use Rattle.fields.specs.Fields.{is_frame}
use Rattle.frame.specs.declared.direction.Direction.{Direction}

and_false : (s : Bool) → s && false ≡ false
and_false true = refl
and_false false = refl

-- the three facts of a whole frame
pub record Whole (dir : Direction) (bytes : List ℕ) : Type 0 where
  pub first : get_or bytes 0 0 ≡ opens
  pub long : length bytes ≡ frame_length dir (dl dir bytes)
  pub last : get_or bytes (length bytes - 1) 0 ≡ ends

module _ (dir : Direction) (bytes : List ℕ) where
  pub is_whole : is_frame dir bytes ≡ true → Whole dir bytes
  unfolding is_frame
  is_whole e =
      let p = both _ _ e in
      let q = both _ _ p.1 in
      record { first = eqb-true _ _ p.0; long = eqb-true _ _ q.0; last = eqb-true _ _ q.1 }

  pub whole_is : Whole dir bytes → is_frame dir bytes ≡ true
  unfolding is_frame
  whole_is w = rw (eq-eqb _ _ w.first, eq-eqb _ _ w.long, eq-eqb _ _ w.last)

  pub wrong_length_lem : (length bytes ≡ frame_length dir (dl dir bytes) → ⊥) → is_frame dir bytes ≡ false
  unfolding is_frame
  wrong_length_lem h = rw (ne_eqb _ _ h, and_false)

  -- it is longer than its header, so that its fields lie within it
  pub whole_long : is_frame dir bytes ≡ true → header dir < length bytes
  whole_long e = let w = is_whole e in omega arith
