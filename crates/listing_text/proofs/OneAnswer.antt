-- Each public function's contract admits one answer.
use mathlib.Core.Path.{◌≡◌}
use mathlib.Core.List.{List}
use Prim.Native.Nat.{ℕ}
use Rattle.refusals.specs.OneAnswer.{OneAnswer}
use Rattle.refusals.proofs.One.{one}
use Rattle.listing_text.specs.Listing.{asked}
use Rattle.std.specs.Prelude.{Result}
use Rattle.refusals.specs.declared.refusal.Refusal.{Refusal}
use Rattle.frame.specs.declared.direction.Direction.{Direction}
use Rattle.row.specs.declared.profile.Profile.{Profile}

pub what_is_asked_one : (input : List ℕ) → OneAnswer (λ (x : Result (Profile × Direction) Refusal). x ≡ asked input)
what_is_asked_one input = one (asked input)
