-- A sheet signed off by a capture alone. "Order: 12, then 11, before all others."
use Rattle.std.specs.Prelude.{ℕ, List, [], ◌∷◌, length, Bool, Err, Result}
use Rattle.refusals.specs.Rule.{ruled}
use Rattle.frame.specs.Capture.{long_capture}
use Rattle.row.specs.declared.profile.Profile.{Profile}
use Rattle.sheet.specs.declared.line.Line.{Line}
use Rattle.tracker.specs.Capture.{tracked_by}
use Rattle.signing.specs.Sign.{sign_off}
use Rattle.refusals.specs.declared.refusal.Fault.{Fault}
use Rattle.refusals.specs.Refusal.{fault}

-- 11 has no place, and comes before the sheet's refusal
abbrev pub capture_signed : Profile → List Line → List ℕ → Result Bool Fault
capture_signed profile ls capture =
    ruled (long_capture (length capture) ∷ []) (λ e. Err (fault e 0)) (sign_off (tracked_by profile capture) ls)
