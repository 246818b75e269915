-- Promise: "every byte belongs to exactly one of frame, broken, noise, pending". A capture has one label a byte; its
-- events tile it and spread to those labels; the totals add up to its length; and going from event to event by the
-- first event of what is left meets each of them.
use Rattle.std.specs.Prelude.{◌≡◌, List, [], ◌∷◌, ℕ, ◌+◌, ◌<◌, length, None, Some}
use Rattle.frame.specs.Capture.{labels, totals_of, events_from, first_of, spread}
use Rattle.frame.specs.declared.direction.Direction.{Direction}
use Rattle.frame.specs.declared.capture.Event.{Event}

-- each starts where the last ended, none is empty, and the last ends at the end
abbrev pub Tiles : ℕ → List Event → ℕ → Type 0
Tiles at [] end = at ≡ end
Tiles at (e ∷ es) end = (e.at ≡ at) × (0 < e.length) × Tiles (at + e.length) es end

-- what `next_event` gives, called at a place and then at each event's end
abbrev pub Walk : Direction → List ℕ → ℕ → List Event → Type 0
Walk dir capture at [] = first_of (events_from dir capture at) ≡ None
Walk dir capture at (e ∷ es) = (first_of (events_from dir capture at) ≡ Some e) × Walk dir capture (at + e.length) es

pub record CapturePromise : Type 0 where
  pub labelled : (dir : Direction) (capture : List ℕ) → length (labels dir capture) ≡ length capture
  pub total : (dir : Direction) (capture : List ℕ)
      → (totals_of dir capture).frame + (totals_of dir capture).broken + (totals_of dir capture).noise + (totals_of dir capture).pending ≡ length capture
  pub tiled : (dir : Direction) (capture : List ℕ) → Tiles 0 (events_from dir capture 0) (length capture)
  pub spreads : (dir : Direction) (capture : List ℕ) → spread (events_from dir capture 0) ≡ labels dir capture
  pub walked : (dir : Direction) (capture : List ℕ) → Walk dir capture 0 (events_from dir capture 0)
