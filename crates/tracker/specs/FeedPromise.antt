-- Promise: document 01, 'Tracker': "A status answer, one accepted with Ac 00, makes its one cell known; a denied message, S 0F and
-- a refused frame change nothing." A status is known by its one byte, 80 as 00 in the rows of document 02's C-14; every other row and
-- zone is known as before, and the profile is the one that the tracker was made for.
use Rattle.std.specs.Prelude.{◌≡◌, List, [], ◌∷◌, ℕ, length, Err, Ok, Result}
use Rattle.frame.specs.declared.direction.Direction.TheVariants as direction
use Rattle.row.specs.declared.table.Row.{Row}
use Rattle.message.specs.Message.{read_of, data_read}
use Rattle.message.specs.declared.read.Said.{Said}
use Rattle.message.specs.declared.read.Denial.{Denial}
use Rattle.message.specs.declared.read.Message.TheVariants as message
use Rattle.tracker.specs.Cell.{cell_count}
use Rattle.tracker.specs.CellPromise.{HasCell}
use Rattle.tracker.specs.Tracker.{kept_in}
use Rattle.tracker.specs.Feed.{answer_fed, BroughtAnswer, answers_fed}
use Rattle.tracker.specs.declared.tracker.Tracker.{Tracker}
use Rattle.tracker.specs.declared.tracker.Kept.TheVariants.{Value}
use Rattle.refusals.specs.declared.refusal.Refusal.{Refusal}
use Rattle.message.specs.declared.read.Message.{Message}

-- a tracker with all of its cells, as every tracker of the code is
abbrev pub Whole : Tracker → Type 0
Whole t = (length t.states ≡ cell_count) × (length t.values ≡ cell_count)

abbrev pub answer_read : Tracker → ℕ → ℕ → ℕ → List ℕ → Result Message Refusal
answer_read t zone command ac body = read_of t.profile direction.Answer zone command ac body

pub record FeedPromise (t : Tracker) (zone command ac : ℕ) (body : List ℕ) : Type 0 where
  pub refused : (e : Refusal) → answer_read t zone command ac body ≡ Err e → (answer_fed t zone command ac body).tracker ≡ t
  pub denied : (d : Denial) → answer_read t zone command ac body ≡ Ok (message.Denied d) → (answer_fed t zone command ac body).tracker ≡ t
  pub left_out : ((row : Row) → HasCell t.profile zone command row → ⊥) → (answer_fed t zone command ac body).tracker ≡ t
  pub known : Whole t → (s : Said) → answer_read t zone command ac body ≡ Ok (message.Status s)
      → (row : Row) → HasCell t.profile zone command row
      → (b : ℕ) × (data_read t.profile direction.Answer command ac body ≡ b ∷ []) × (kept_in (answer_fed t zone command ac body).tracker zone command ≡ Value b)
  pub others : (z c : ℕ) → ((z ≡ zone) × (c ≡ command) → ⊥) → kept_in (answer_fed t zone command ac body).tracker z c ≡ kept_in t z c
  pub profile : (answer_fed t zone command ac body).tracker.profile ≡ t.profile

-- any answers
pub record FeedsPromise (t : Tracker) (fs : List BroughtAnswer) : Type 0 where
  pub profile : (answers_fed t fs).profile ≡ t.profile
