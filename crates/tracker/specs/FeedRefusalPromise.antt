-- Promise: a refused answer leaves the tracker as it was, returns its number, 1 to 5, as the message reader gives it ("An answer that
-- is no message passes its number on unchanged"), and zero for every other field.
use Rattle.std.specs.Prelude.{◌≡◌, List, ℕ, ◌≤◌, Err}
use Rattle.message.specs.Numbers.{reading_number, zero_paper}
use Rattle.tracker.specs.Feed.{answer_fed}
use Rattle.tracker.specs.FeedPromise.{answer_read}
use Rattle.tracker.specs.Numbers.{fed_number, fed_paper}
use Rattle.tracker.specs.declared.tracker.Tracker.{Tracker}
use Rattle.refusals.specs.declared.refusal.Refusal.{Refusal}
use Rattle.refusals.specs.Refusal.{number}

pub record FeedRefusalPromise (t : Tracker) (zone command ac : ℕ) (body : List ℕ) : Type 0 where
  pub passed : fed_number (answer_fed t zone command ac body) ≡ reading_number (answer_read t zone command ac body)
  pub numbered : (e : Refusal) → answer_read t zone command ac body ≡ Err e → (1 ≤ number e) × (number e ≤ 5)
  pub kept : (fed_number (answer_fed t zone command ac body) ≡ 0 → ⊥)
      → ((answer_fed t zone command ac body).tracker ≡ t) × (fed_paper (answer_fed t zone command ac body) body ≡ zero_paper)
