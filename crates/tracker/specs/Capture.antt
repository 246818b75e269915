-- A capture fed to a tracker: what its answer frames bring, in order (ours: document 01's tracker takes one answer at a time). A
-- capture is read whole, by a fresh reader. 'Refusal numbers', 11: "capture over 60,000 bytes"; "Order: 12, then 11, before all others."
use Rattle.std.specs.Prelude.{ℕ, List, [], ◌∷◌, length, Err, None, Ok, Option, Some}
use Rattle.lists.specs.InOrder.{in_order}
use Rattle.refusals.specs.Rule.{ruled}
use Rattle.lent.specs.Placed.{bytes_at}
use Rattle.frame.specs.Capture.{long_capture, events_from}
use Rattle.frame.specs.declared.direction.Direction.TheVariants.{Answer}
use Rattle.frame.specs.declared.capture.Kind.{Kind}
use Rattle.frame.specs.declared.capture.Kind.TheVariants as kind
use Rattle.frame.specs.declared.capture.Event.{Event}
use Rattle.row.specs.declared.profile.Profile.{Profile}
use Rattle.fields.specs.Fields.{fields_of, data_of}
use Rattle.tracker.specs.Tracker.{fresh_tracker}
use Rattle.tracker.specs.Feed.{BroughtAnswer, answers_fed}
use Rattle.tracker.specs.declared.tracker.Tracker.{Tracker}
use Rattle.tracker.specs.declared.capture.CaptureFed.{CaptureFed}
use Rattle.fields.specs.declared.fields.Fields.{Fields}

-- "the zone, command, answer code and data that a frame brings"
abbrev pub brought_with : Option Fields → List ℕ → List BroughtAnswer
brought_with (Some f) body = record { zone = f.zone; command = f.command; answer = f.answer; body = body } ∷ []
brought_with None body = []

abbrev pub brought_in : List ℕ → List BroughtAnswer
brought_in bytes = brought_with (fields_of Answer bytes) (data_of Answer bytes)

-- of the four kinds of stretch only a frame brings anything
abbrev pub brought_as : Kind → List ℕ → List BroughtAnswer
brought_as kind.Frame bytes = brought_in bytes
brought_as kind.Broken bytes = []
brought_as kind.Noise bytes = []
brought_as kind.Pending bytes = []

abbrev pub brought_at : List ℕ → Event → List BroughtAnswer
brought_at capture e = brought_as e.kind (bytes_at capture e.at e.length)

-- what the answer frames of a capture bring, in order
abbrev pub brought_by : List ℕ → List BroughtAnswer
brought_by capture = in_order (brought_at capture) (events_from Answer capture 0)

-- "Made new for one profile", and fed a capture alone
abbrev pub tracked_by : Profile → List ℕ → Tracker
tracked_by profile capture = answers_fed (fresh_tracker profile) (brought_by capture)

abbrev pub capture_fed : Tracker → List ℕ → CaptureFed
capture_fed t capture =
    ruled (long_capture (length capture) ∷ []) (λ e. record { tracker = t; answer = Err e })
    (record { tracker = answers_fed t (brought_by capture); answer = Ok tt })
