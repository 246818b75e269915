-- A raw write, where its data are not too long.
use mathlib.Core.Path.{◌≡◌}
use mathlib.Core.List.{List, []}
use Prim.Native.Nat.{ℕ, ◌+◌, ◌≤◌}
use borrow.Author.Tests.{le-ltb}
use lib.ListN.{length}
use Rattle.frame.specs.Frame.{data_limit, frame_length, frame_of}
use Rattle.lent.specs.Placed.{placed}
use Rattle.lent.specs.Written.{write_answered, write_left}
use Rattle.fields.specs.Raw.{raw_rules}
use Rattle.frame.specs.declared.direction.Direction.{Direction}
use Rattle.frame.proofs.Header.{frame_length_lem}
use Rattle.lent.proofs.Room.{fits}
use Rattle.lent.proofs.Writes.{write_there}

-- only the room is left to ask for
pub raw_short : (buf : List ℕ) (at : ℕ) (body bytes : List ℕ) → length body ≤ data_limit
    → (write_answered (raw_rules body) buf at bytes ≡ write_answered [] buf at bytes) × (write_left (raw_rules body) buf at bytes ≡ write_left [] buf at bytes)
unfolding write_answered write_left
raw_short buf at body bytes small = (rw (le-ltb data_limit (length body) small), rw (le-ltb data_limit (length body) small))

pub raw_left : (dir : Direction) (buf : List ℕ) (at zone command answer : ℕ) (body : List ℕ) → length body ≤ data_limit
    → at + frame_length dir (length body) ≤ length buf
    → write_left (raw_rules body) buf at (frame_of dir zone command answer body) ≡ placed buf at (frame_of dir zone command answer body)
raw_left dir buf at zone command answer body small room =
    let frame = frame_of dir zone command answer body in
    (write_there (raw_rules body) buf at frame (le-ltb _ _ small, tt)
    (fits (length buf) at (length frame) (rw (frame_length_lem dir zone command answer body) room))).1
