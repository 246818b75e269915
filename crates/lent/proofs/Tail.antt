-- A part of a buffer, lent for writing: what comes back is the buffer with the bytes in their place.
use mathlib.Core.Path.{◌≡◌, refl, ◌∙◌}
use mathlib.Core.List.{List, [], ◌++◌, append_assoc, append-nil}
use Prim.Native.Nat.{ℕ, ◌+◌, ◌-◌}
use native.Mathlib.Omega.{arith}
use lib.ListN.{length, take, drop, length-drop, drop_of_length-le}
use lib.Seq.{take_all, take-length, drop-drop}
use borrow.Rule.Slice.PartMut.{put_mid}
use Rattle.std.proofs.lemmas.Slice.{put_mid-paste}
use Rattle.lent.specs.Placed.{placed}

module _ (buf : List ℕ) (at : ℕ) where
  tail_whole : take (length buf - at) (drop at buf) ≡ drop at buf
  tail_whole = take_all (length buf - at) (drop at buf) (simp length-drop (omega arith))

  tail_over : drop (length buf - at) (drop at buf) ≡ []
  tail_over = drop_of_length-le (drop at buf) {i = length buf - at} (simp length-drop (omega arith))

  pub tail_placed : (bytes left : List ℕ) (n : ℕ) → length bytes ≡ n → left ≡ bytes ++ drop n (take (length buf - at) (drop at buf))
      → take at buf ++ (left ++ drop (length buf - at) (drop at buf)) ≡ placed buf at bytes
  tail_placed bytes left n long e = rw (e, tail_whole, tail_over, append-nil, drop-drop, long)

  -- the same of a part of so many bytes, all of which are written
  pub mid_placed : (bytes left : List ℕ) (k : ℕ) → left ≡ bytes → length bytes ≡ k → put_mid at k buf left ≡ placed buf at bytes
  mid_placed bytes left k same long =
      put_mid-paste at k buf left bytes (length bytes) same long refl
      ∙ rw (take-length bytes) (append_assoc (take at buf) bytes (drop (at + length bytes) buf))
