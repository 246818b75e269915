-- At every moment: what holds of a unit before and after each byte that is sent to it.
use mathlib.Core.Path.{◌≡◌}
use mathlib.Core.List.{List, [], ◌∷◌, ◌++◌}
use Prim.Native.Nat.{ℕ, zero, suc}
use lib.ListN.{take}
use Rattle.unit.specs.Unit.{Unit, takes, after}
use Rattle.streams.specs.Stream.{reader_by}
use Rattle.streams.proofs.Cut.{reader_append}

unfoldable pub Always : (Unit → Type 0) → Unit → List ℕ → Type 0
Always P u [] = P u
Always P u (b ∷ bs) = P u × Always P (takes u b) bs

module _ (P : Unit → Type 0) where
  pub always_first : (u : Unit) (bs : List ℕ) → Always P u bs → P u
  unfolding Always
  always_first u [] a = a
  always_first u (b ∷ bs) a = a.0

  pub always_last : (u : Unit) (bs : List ℕ) → Always P u bs → P (after u bs)
  unfolding Always reader_by
  always_last u [] a = a
  always_last u (b ∷ bs) a = always_last (takes u b) bs a.1

  pub always_append : (u : Unit) (bs cs : List ℕ) → Always P u bs → Always P (after u bs) cs → Always P u (bs ++ cs)
  unfolding Always reader_by
  always_append u [] cs a c = c
  always_append u (b ∷ bs) cs a c = (a.0, always_append (takes u b) bs cs a.1 c)

  pub always_take : (n : ℕ) (u : Unit) (bs : List ℕ) → Always P u bs → Always P u (take n bs)
  unfolding Always
  always_take zero u bs a = always_first u bs a
  always_take (suc n) u [] a = a
  always_take (suc n) u (b ∷ bs) a = (a.0, always_take n (takes u b) bs a.1)

pub after_append : (u : Unit) (bs cs : List ℕ) → after u (bs ++ cs) ≡ after (after u bs) cs
after_append u bs cs = reader_append takes u bs cs
