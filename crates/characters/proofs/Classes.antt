-- A class of characters by its bounds.
use mathlib.Core.Path.{◌≡◌, refl}
use mathlib.Core.Bool.{Bool, true, false, ◌&&◌}
use Prim.Native.Nat.{ℕ, ◌≤◌, ◌<◌}
use borrow.Author.Tests.{le-leb, lt-leb}
use lib.Dec.{leb, leb→le, T}
use mir.Facts.{and_yes}
use Rattle.characters.specs.Class.{is_from}

module _ (first last b : ℕ) where
  pub within : first ≤ b → b ≤ last → is_from first last b ≡ true
  unfolding is_from
  within low high = rw (le-leb first b low, le-leb b last high)

  pub below : b < first → is_from first last b ≡ false
  unfolding is_from
  below h = rw (lt-leb first b h)

  pub above : last < b → is_from first last b ≡ false
  unfolding is_from
  above h = go (leb first b)
    where
      go : (t : Bool) → t && leb b last ≡ false
      go true = lt-leb b last h
      go false = refl

  -- and back
  pub bounds : is_from first last b ≡ true → (first ≤ b) × (b ≤ last)
  unfolding is_from
  bounds e = let both : T (leb first b && leb b last) = rw e tt in let parts = and_yes (leb first b) (leb b last) both in (leb→le _ _ parts.0, leb→le _ _ parts.1)
