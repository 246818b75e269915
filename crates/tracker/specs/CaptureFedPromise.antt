-- Promise: a capture brings each of its answer frames, in order, with its own fields and data; noise, broken stretches and an unfinished
-- frame bring nothing. A capture within the limit feeds what it brings; one over it is 11 and changes nothing. The profile stays.
use Rattle.std.specs.Prelude.{◌≡◌, List, [], ◌∷◌, ◌++◌, ℕ, ◌≤◌, ◌<◌, length, take, Err, Ok, Some}
use Rattle.lent.specs.Placed.{bytes_at}
use Rattle.frame.specs.Frame.{opens, ends, header_of, frame_of}
use Rattle.frame.specs.Capture.{capture_limit, event, events_from, first_of}
use Rattle.frame.specs.declared.direction.Direction.TheVariants.{Answer}
use Rattle.frame.specs.declared.capture.Kind.TheVariants as kind
use Rattle.tracker.specs.Feed.{BroughtAnswer, answers_fed}
use Rattle.tracker.specs.Capture.{brought_at, brought_by, capture_fed}
use Rattle.tracker.specs.Numbers.{capture_number}
use Rattle.tracker.specs.declared.tracker.Tracker.{Tracker}
use Rattle.refusals.specs.declared.refusal.Refusal.TheVariants.{TooLong}

-- an answer frame up to its end place
abbrev pub unended : ℕ → ℕ → ℕ → List ℕ → List ℕ
unended zone command ac body = header_of Answer zone command ac (length body) ++ body

-- what stands at the head of a capture, and what is behind it
pub record BroughtPromise : Type 0 where
  pub none : brought_by [] ≡ []
  pub frame : (zone command ac : ℕ) (body rest : List ℕ)
      → brought_by (frame_of Answer zone command ac body ++ rest) ≡ record { zone = zone; command = command; answer = ac; body = body } ∷ brought_by rest
  pub noise : (b : ℕ) (rest : List ℕ) → (b ≡ opens → ⊥) → brought_by (b ∷ rest) ≡ brought_by rest
  -- a broken stretch: at the end place 21 "opens the next frame", and any other byte is the stretch's last
  pub opened : (zone command ac : ℕ) (body rest : List ℕ) → brought_by (unended zone command ac body ++ opens ∷ rest) ≡ brought_by (opens ∷ rest)
  pub broken : (zone command ac : ℕ) (body : List ℕ) (b : ℕ) (rest : List ℕ) → (b ≡ ends → ⊥) → (b ≡ opens → ⊥)
      → brought_by (unended zone command ac body ++ b ∷ rest) ≡ brought_by rest
  pub pending : (zone command ac : ℕ) (body : List ℕ) (n : ℕ) → n < length (frame_of Answer zone command ac body)
      → brought_by (take n (frame_of Answer zone command ac body)) ≡ []
  -- and anywhere in a capture a frame brings its own
  pub events : (capture : List ℕ) (at n : ℕ) → first_of (events_from Answer capture at) ≡ Some (event at n kind.Frame)
      → (a : BroughtAnswer) × (brought_at capture (event at n kind.Frame) ≡ a ∷ []) × (frame_of Answer a.zone a.command a.answer a.body ≡ bytes_at capture at n)

pub record CaptureFedPromise (t : Tracker) (capture : List ℕ) : Type 0 where
  pub fed : length capture ≤ capture_limit
      → ((capture_fed t capture).tracker ≡ answers_fed t (brought_by capture)) × ((capture_fed t capture).answer ≡ Ok tt) × (capture_number (capture_fed t capture).answer ≡ 0)
  pub long : capture_limit < length capture
      → ((capture_fed t capture).tracker ≡ t) × ((capture_fed t capture).answer ≡ Err TooLong) × (capture_number (capture_fed t capture).answer ≡ 11)
  pub profile : (capture_fed t capture).tracker.profile ≡ t.profile
