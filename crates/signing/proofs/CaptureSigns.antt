-- A capture signs a sheet off by the last status answers among its frames.
use mathlib.Core.Path.{◌≡◌, refl, ap, sym, ◌∙◌}
use mathlib.Core.Bool.{Bool, true, false}
use mathlib.Core.List.{List}
use Prim.Native.Nat.{ℕ, ◌≤◌, ◌<◌}
use borrow.Author.Tests.{lt-ltb, le-ltb, ltb-true, ltb-false}
use lib.Dec.{ltb}
use lib.ListN.{length}
use Rattle.lists.specs.Each.{Each}
use Rattle.frame.specs.Capture.{capture_limit}
use Rattle.row.specs.declared.profile.Profile.{Profile}
use Rattle.sheet.specs.Check.{sheet_verdict}
use Rattle.sheet.specs.declared.line.Line.{Line}
use Rattle.tracker.specs.Tracker.{fresh_tracker}
use Rattle.tracker.specs.Capture.{brought_by, tracked_by, capture_fed}
use Rattle.tracker.specs.declared.capture.CaptureFed.{CaptureFed}
use Rattle.tracker.proofs.Captures.{fed_short, fed_within, fed_over}
use Rattle.signing.specs.Sign.{sign_off}
use Rattle.signing.specs.SignPromise.{IsAnswered}
use Rattle.signing.specs.Capture.{capture_signed}
use Rattle.signing.specs.CaptureSignPromise.{CaptureSignPromise}
use Rattle.signing.proofs.Signs.{sign_history_promise}
use Rattle.std.specs.Prelude.{Err, Ok}
use Rattle.refusals.specs.declared.refusal.Refusal.{Refusal}
use Rattle.refusals.specs.declared.refusal.Refusal.TheVariants.{TooLong}
use Rattle.refusals.specs.declared.refusal.Fault.{Fault}
use Rattle.refusals.specs.Refusal.{fault}

refused_not : (f : Fault) → Err f ≡ Ok true → ⊥
refused_not f e = cc

module _ (profile : Profile) (ls : List Line) (capture : List ℕ) where
  pub long : capture_limit < length capture → capture_signed profile ls capture ≡ Err (fault TooLong 0)
  long h = rw (lt-ltb capture_limit (length capture) h)

  pub short : length capture ≤ capture_limit → capture_signed profile ls capture ≡ sign_off (tracked_by profile capture) ls
  short h = rw (le-ltb capture_limit (length capture) h)

  -- a sign-off goes on from feeding
  module _ (f : CaptureFed) (e : f ≡ capture_fed (fresh_tracker profile) capture) where
    pub signs_fed : f.answer ≡ Ok tt → capture_signed profile ls capture ≡ sign_off f.tracker ls
    signs_fed fed =
        let within = fed_within (fresh_tracker profile) capture f e fed in
        short within ∙ ap (λ (x : CaptureFed). sign_off x.tracker ls) (sym (e ∙ fed_short (fresh_tracker profile) capture within))

    pub signs_refused : (n : Refusal) → f.answer ≡ Err n → capture_signed profile ls capture ≡ Err (fault n 0)
    signs_refused n refused = let over = fed_over (fresh_tracker profile) capture f e n refused in rw over.1 (long over.0)

  only : capture_signed profile ls capture ≡ Ok true
      → (length capture ≤ capture_limit) × (sheet_verdict profile ls ≡ Ok tt) × Each (IsAnswered profile (brought_by capture)) ls
  only e = go (ltb capture_limit (length capture)) refl
    where
      go : (t : Bool) → ltb capture_limit (length capture) ≡ t
          → (length capture ≤ capture_limit) × (sheet_verdict profile ls ≡ Ok tt) × Each (IsAnswered profile (brought_by capture)) ls
      go true f = absurd (refused_not (fault TooLong 0) (sym (long (ltb-true _ _ f)) ∙ e))
      go false f =
          let within = ltb-false capture_limit (length capture) f in
          let w = (sign_history_promise profile (brought_by capture) ls).only (sym (short within) ∙ e) in
          (within, w.0, w.1)

  pub capture_promise : CaptureSignPromise profile ls capture
  capture_promise = record {
    long = long;
    refused = λ h f e. short h ∙ (sign_history_promise profile (brought_by capture) ls).refused f e;
    yes = λ h a w. short h ∙ (sign_history_promise profile (brought_by capture) ls).yes a w;
    no = λ h a w. short h ∙ (sign_history_promise profile (brought_by capture) ls).no a w;
    only = only;
  }
