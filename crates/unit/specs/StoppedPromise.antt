-- Promise: "stopped anywhere in an old one" is among what may have come before. After any beginning of any command's frame, up to its
-- end place, the reader of a unit that stood outside has taken just that beginning; and it is bytes, as demand 3 asks of what came before.
use Rattle.std.specs.Prelude.{ℕ, ◌≤◌, ◌<◌, ◌+◌, ◌≡◌, List, length, take}
use Rattle.frame.specs.Frame.{data_limit, header, frame_of}
use Rattle.frame.specs.declared.direction.Direction.TheVariants.{Command}
use Rattle.row.specs.declared.profile.Profile.{Profile}
use Rattle.unit.specs.Unit.{Settings}
use Rattle.unit.specs.Sending.{AreBytes}
use Rattle.unit.specs.Demand3.{stopped}

pub record StoppedPromise : Type 0 where
  pub anywhere : (profile : Profile) (s : Settings) (zone command : ℕ) (body : List ℕ) (n : ℕ) → n ≤ header Command + length body
      → (stopped profile s (take n (frame_of Command zone command 0 body))).taken ≡ take n (frame_of Command zone command 0 body)
  pub bytes : (zone command : ℕ) (body : List ℕ) (n : ℕ) → zone < 256 → command < 256 → AreBytes body → length body ≤ data_limit
      → AreBytes (take n (frame_of Command zone command 0 body))
