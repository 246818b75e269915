-- Lines brought together by value are signed off as the list that they are.
use mathlib.Core.Path.{◌≡◌, refl, ap}
use mathlib.Core.List.{List, [], ◌∷◌}
use Prim.Native.Nat.{ℕ}
use lib.ListN.{length}
use Rattle.refusals.specs.Rule.{ruled}
use Rattle.frame.specs.Capture.{long_capture}
use Rattle.row.specs.declared.profile.Profile.{Profile}
use Rattle.sheet.specs.Sheet.{no_lines, with_all, lines_of}
use Rattle.sheet.specs.declared.line.Line.{Line}
use Rattle.sheetfile.proofs.Together.{by_verdict}
use Rattle.signing.specs.Sign.{all_hold, signed_by, sign_off}
use Rattle.tracker.specs.Capture.{tracked_by}
use Rattle.signing.specs.Capture.{capture_signed}
use Rattle.tracker.specs.declared.tracker.Tracker.{Tracker}
use Rattle.std.specs.Prelude.{Bool, Err, Result}
use Rattle.refusals.specs.declared.refusal.Fault.{Fault}
use Rattle.refusals.specs.Refusal.{fault}

pub sign_together : (t : Tracker) (ls : List Line) → sign_off t (lines_of (with_all no_lines ls)) ≡ sign_off t ls
sign_together t ls = by_verdict (λ v xs. signed_by v (all_hold t xs)) (λ f xs ys. refl) t.profile ls

pub capture_together : (profile : Profile) (ls : List Line) (capture : List ℕ) → capture_signed profile (lines_of (with_all no_lines ls)) capture ≡ capture_signed profile ls capture
capture_together profile ls capture =
    ap (λ (s : Result Bool Fault). ruled (long_capture (length capture) ∷ []) (λ e. Err (fault e 0)) s) (sign_together (tracked_by profile capture) ls)
