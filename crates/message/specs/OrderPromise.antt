-- Promise: the number given is the first, in the document's order, whose rule applies, and a message comes exactly when none applies.
use Rattle.std.specs.Prelude.{◌≡◌, List, ℕ, Err, Ok}
use Rattle.refusals.specs.RulePromise.{FirstApplies, NoneApplies}
use Rattle.frame.specs.declared.direction.Direction.{Direction}
use Rattle.row.specs.declared.profile.Profile.{Profile}
use Rattle.message.specs.Message.{read_rules, message_of, read_of}
use Rattle.message.specs.declared.read.Message.{Message}
use Rattle.refusals.specs.declared.refusal.Refusal.{Refusal}

pub record OrderPromise (profile : Profile) (dir : Direction) (zone command ac : ℕ) (body : List ℕ) : Type 0 where
  pub refused : (e : Refusal) → FirstApplies (read_rules profile dir zone command ac body) e → read_of profile dir zone command ac body ≡ Err e
  pub applies : (e : Refusal) → read_of profile dir zone command ac body ≡ Err e → FirstApplies (read_rules profile dir zone command ac body) e
  pub read : NoneApplies (read_rules profile dir zone command ac body)
      → (m : Message) × (read_of profile dir zone command ac body ≡ Ok m) × (message_of profile dir zone command ac body ≡ Ok m)
  pub none : (m : Message) → read_of profile dir zone command ac body ≡ Ok m → NoneApplies (read_rules profile dir zone command ac body)
