-- A header, a copy of the data and the end byte: together a frame, whatever the header.
use mathlib.Core.Path.{◌≡◌, sym}
use mathlib.Core.List.{List, ◌∷◌, [], ◌++◌, append_assoc}
use Prim.Native.Nat.{ℕ, ◌+◌, ◌≤◌, ◌<◌}
use native.Mathlib.Numerals.{add-one}
use native.Mathlib.Omega.{arith}
use lib.ListN.{length, drop, set, length-append}
use lib.Seq.{take_at, drop_at, drop-drop, drop-cons, set_at}
use Rattle.frame.specs.Frame.{ends}
use Rattle.lent.specs.Placed.{placed}

module _ (H body tail : List ℕ) (n : ℕ) (long : length H ≡ n) (room : n + length body + 1 ≤ length tail) where
  put_there : placed (H ++ drop n tail) n body ≡ (H ++ body) ++ drop (n + length body) tail
  put_there = rw (take_at H (drop n tail) n long, ← drop-drop (length body) n (H ++ drop n tail), drop_at H (drop n tail) n long, drop-drop) (sym (append_assoc H body (drop (n + length body) tail)))

  pub frame_done_lem : set (placed (H ++ drop n tail) n body) (n + length body) ends ≡ (H ++ (body ++ ends ∷ [])) ++ drop (n + length body + 1) tail
  frame_done_lem =
      let before : length (H ++ body) ≡ n + length body = simp length-append (omega arith) in
      let inside : n + length body < length tail = omega arith in
      rw (put_there, drop-cons tail (n + length body) 0 inside, set_at (H ++ body) _ _ ends (n + length body) before, add-one)
      (simp append_assoc)
