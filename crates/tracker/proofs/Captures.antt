-- The frames of a capture, fed event by event.
use mathlib.Core.Path.{◌≡◌, refl, ap, sym, ◌∙◌}
use mathlib.Core.Bool.{Bool, true, false}
use mathlib.Core.List.{List}
use Prim.Native.Nat.{ℕ, ◌+◌, ◌≤◌, ◌<◌}
use native.Mathlib.Omega.{arith}
use borrow.Author.Tests.{lt-ltb, le-ltb, ltb-true, ltb-false}
use lib.Dec.{ltb}
use lib.ListN.{length}
use Rattle.lists.specs.InOrder.{in_order}
use Rattle.frame.specs.Capture.{capture_limit, events_from, first_of}
use Rattle.frame.specs.declared.direction.Direction.TheVariants.{Answer}
use Rattle.frame.specs.declared.capture.Event.{Event}
use Rattle.frame.proofs.Leads.{leads, none_first}
use Rattle.row.specs.declared.profile.Profile.{Profile}
use Rattle.tracker.specs.Feed.{answers_fed}
use Rattle.tracker.specs.Capture.{brought_at, brought_by, capture_fed}
use Rattle.tracker.specs.Computed.{told_at, with_told}
use Rattle.tracker.specs.Numbers.{capture_number}
use Rattle.tracker.specs.CaptureFedPromise.{CaptureFedPromise}
use Rattle.tracker.specs.declared.tracker.Tracker.{Tracker}
use Rattle.tracker.specs.declared.capture.CaptureFed.{CaptureFed}
use Rattle.tracker.proofs.History.{fed_append, feeds_promise}
use Rattle.tracker.proofs.Tells.{tells_at}
use Rattle.std.specs.Prelude.{Err, None, Ok, Option, Result, Some}
use Rattle.refusals.specs.declared.refusal.Refusal.{Refusal}
use Rattle.refusals.specs.declared.refusal.Refusal.TheVariants.{TooLong}

-- an event lies within its capture
module _ (capture : List ℕ) (at : ℕ) (e : Event) where
  pub event_some : Some e ≡ first_of (events_from Answer capture at) → 0 < e.length
  event_some f = let w = (leads Answer capture at e f).within in omega arith

  pub event_inside : Some e ≡ first_of (events_from Answer capture at) → at + e.length ≤ length capture
  event_inside f = let w = (leads Answer capture at e f).within in omega arith

module _ (capture : List ℕ) (at : ℕ) (t : Tracker) where
  abbrev fed_from : Tracker → ℕ → Tracker
  fed_from x k = answers_fed x (in_order (brought_at capture) (events_from Answer capture k))

  -- one turn of the walk, and its end
  pub feeds_on : (e : Event) → Some e ≡ first_of (events_from Answer capture at) → fed_from t at ≡ fed_from (answers_fed t (brought_at capture e)) (at + e.length)
  unfolding in_order
  feeds_on e f =
      ap (λ (es : List Event). answers_fed t (in_order (brought_at capture) es)) (leads Answer capture at e f).behind
      ∙ fed_append t (brought_at capture e) (in_order (brought_at capture) (events_from Answer capture (at + e.length)))

  pub feeds_told : (profile : Profile) → t.profile ≡ profile → (e : Event) → Some e ≡ first_of (events_from Answer capture at)
      → fed_from t at ≡ fed_from (with_told t (told_at profile capture e)) (at + e.length)
  feeds_told profile own e f =
      feeds_on e f ∙ ap (λ (x : Tracker). fed_from x (at + e.length)) (sym (tells_at t capture e) ∙ ap (λ (p : Profile). with_told t (told_at p capture e)) own)

  -- so too where the event was found to make a cell known, or nothing
  pub feeds_next : (profile : Profile) → t.profile ≡ profile → (e : Event) → Some e ≡ first_of (events_from Answer capture at)
      → (told : Option (ℕ × ℕ)) → told ≡ told_at profile capture e → fed_from t at ≡ fed_from (with_told t told) (at + e.length)
  feeds_next profile own e f told same = rw same (feeds_told profile own e f)

  pub feeds_end : None ≡ first_of (events_from Answer capture at) → fed_from t at ≡ t
  unfolding in_order answers_fed
  feeds_end f = ap (λ (es : List Event). answers_fed t (in_order (brought_at capture) es)) (none_first (events_from Answer capture at) f)

-- over the limit, and within it
module _ (t : Tracker) (capture : List ℕ) where
  pub fed_long : capture_limit < length capture → capture_fed t capture ≡ record { tracker = t; answer = Err TooLong }
  fed_long h = rw (lt-ltb capture_limit (length capture) h)

  pub fed_short : length capture ≤ capture_limit → capture_fed t capture ≡ record { tracker = answers_fed t (brought_by capture); answer = Ok tt }
  fed_short h = rw (le-ltb capture_limit (length capture) h)

  pub fed_promise : CaptureFedPromise t capture
  fed_promise = record {
    fed = λ h. parts (answers_fed t (brought_by capture)) (Ok tt) (fed_short h);
    long = λ h. parts t (Err TooLong) (fed_long h);
    profile = go (ltb capture_limit (length capture)) refl;
  }
    where
      parts : (x : Tracker) (a : Result (Unit {0}) Refusal) → capture_fed t capture ≡ record { tracker = x; answer = a }
          → ((capture_fed t capture).tracker ≡ x) × ((capture_fed t capture).answer ≡ a) × (capture_number (capture_fed t capture).answer ≡ capture_number a)
      parts x a e = (ap (λ (f : CaptureFed). f.tracker) e, ap (λ (f : CaptureFed). f.answer) e, ap (λ (f : CaptureFed). capture_number f.answer) e)

      go : (b : Bool) → ltb capture_limit (length capture) ≡ b → (capture_fed t capture).tracker.profile ≡ t.profile
      go true e = ap (λ (x : CaptureFed). x.tracker.profile) (fed_long (ltb-true _ _ e))
      go false e = ap (λ (x : CaptureFed). x.tracker.profile) (fed_short (ltb-false _ _ e)) ∙ (feeds_promise t (brought_by capture)).profile

  -- what the answer says of the capture's length
  module _ (f : CaptureFed) (fed : f ≡ capture_fed t capture) where
    pub fed_within : f.answer ≡ Ok tt → length capture ≤ capture_limit
    fed_within e = go (ltb capture_limit (length capture)) refl
      where
        differ : f.answer ≡ Err TooLong → ⊥
        differ g = cc

        go : (b : Bool) → ltb capture_limit (length capture) ≡ b → length capture ≤ capture_limit
        go true g = absurd (differ (ap (λ (x : CaptureFed). x.answer) (fed ∙ fed_long (ltb-true _ _ g))))
        go false g = ltb-false _ _ g

    pub fed_over : (n : Refusal) → f.answer ≡ Err n → (capture_limit < length capture) × (n ≡ TooLong)
    fed_over n e = go (ltb capture_limit (length capture)) refl
      where
        same : f.answer ≡ Err TooLong → n ≡ TooLong
        same g = cc

        differ : f.answer ≡ Ok tt → ⊥
        differ g = cc

        go : (b : Bool) → ltb capture_limit (length capture) ≡ b → (capture_limit < length capture) × (n ≡ TooLong)
        go true g = let over = ltb-true _ _ g in (over, same (ap (λ (x : CaptureFed). x.answer) (fed ∙ fed_long over)))
        go false g = absurd (differ (ap (λ (x : CaptureFed). x.answer) (fed ∙ fed_short (ltb-false _ _ g))))
