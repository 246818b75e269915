-- What both directions share: a header of four or five bytes.
use mathlib.Core.Path.{◌≡◌, refl}
use mathlib.Core.List.{List}
use Prim.Native.Nat.{ℕ, ◌≤◌}
use native.Mathlib.Omega.{arith}
use lib.Dec.{lit≤}
use lib.ListN.{length, length-append}
use Rattle.frame.specs.Frame.{header, header_of, frame_length, frame_of}
use Rattle.frame.specs.declared.direction.Direction.{Direction}
use Rattle.frame.specs.declared.direction.Direction.TheVariants.{Command, Answer}

pub header_most : (dir : Direction) → header dir ≤ 5
header_most Command = lit≤ tt
header_most Answer = lit≤ tt

pub header_least : (dir : Direction) → 4 ≤ header dir
header_least Command = lit≤ tt
header_least Answer = lit≤ tt

pub header_length : (dir : Direction) (zone command answer count : ℕ) → length (header_of dir zone command answer count) ≡ header dir
header_length Command zone command answer count = refl
header_length Answer zone command answer count = refl

pub frame_length_lem : (dir : Direction) (zone command answer : ℕ) (body : List ℕ) → length (frame_of dir zone command answer body) ≡ frame_length dir (length body)
unfolding frame_of
frame_length_lem dir zone command answer body = simp (length-append, header_length) (omega arith)
