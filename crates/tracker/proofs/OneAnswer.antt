-- The contract of each public function that these definitions are for, here or in the crate of its code, admits one answer.
use mathlib.Core.Path.{◌≡◌}
use mathlib.Core.List.{List}
use Prim.Native.Nat.{ℕ}
use Rattle.refusals.specs.OneAnswer.{OneAnswer}
use Rattle.refusals.proofs.One.{one}
use Rattle.row.specs.declared.profile.Profile.{Profile}
use Rattle.tracker.specs.Tracker.{fresh_tracker, kept_in}
use Rattle.tracker.specs.Feed.{answer_fed}
use Rattle.tracker.specs.Capture.{capture_fed}
use Rattle.tracker.specs.declared.tracker.Tracker.{Tracker}
use Rattle.fields.specs.declared.fields.Fields.{Fields}

pub new_tracker_one : (profile : Profile) → OneAnswer (λ x. x ≡ fresh_tracker profile)
new_tracker_one profile = one (fresh_tracker profile)

pub kept_in_one : (tracker : Tracker) (zone command : ℕ) → OneAnswer (λ x. x ≡ kept_in tracker zone command)
kept_in_one tracker zone command = one (kept_in tracker zone command)

pub after_answer_one : (tracker : Tracker) (fields : Fields) (body : List ℕ) → OneAnswer (λ x. x ≡ answer_fed tracker fields.zone fields.command fields.answer body)
after_answer_one tracker fields body = one (answer_fed tracker fields.zone fields.command fields.answer body)

pub after_capture_one : (tracker : Tracker) (capture : List ℕ) → OneAnswer (λ x. x ≡ capture_fed tracker capture)
after_capture_one tracker capture = one (capture_fed tracker capture)
