-- The event that is found at a place lies within the capture, and the others are those behind it.
use mathlib.Core.Path.{◌≡◌, refl, ap, ◌∙◌, subst}
use mathlib.Core.Bool.{Bool, true, false}
use mathlib.Core.List.{List, [], ◌∷◌}
use Prim.Native.Nat.{ℕ, ◌+◌, ◌<◌}
use native.Mathlib.Omega.{arith}
use borrow.Author.Tests.{leb-true, leb-false}
use lib.Dec.{leb}
use lib.ListN.{length}
use Rattle.frame.specs.Frame.{header}
use Rattle.frame.specs.Capture.{events_from, first_of}
use Rattle.frame.specs.Computed.{stretch_at}
use Rattle.frame.specs.declared.direction.Direction.{Direction}
use Rattle.frame.specs.declared.direction.Direction.TheVariants.{Command, Answer}
use Rattle.frame.specs.declared.capture.Event.{Event}
use Rattle.frame.proofs.Events.{events_end, events_here, Within, stretch_within}
use Rattle.std.specs.Prelude.{None, Some}

pub record Leads (dir : Direction) (capture : List ℕ) (at : ℕ) (e : Event) : Type 0 where
  pub within : Within capture at e
  pub behind : events_from dir capture at ≡ e ∷ events_from dir capture (at + e.length)

some : (dir : Direction) → 0 < header dir
some Command = omega arith
some Answer = omega arith

pub leads : (dir : Direction) (capture : List ℕ) (at : ℕ) (e : Event) → Some e ≡ first_of (events_from dir capture at) → Leads dir capture at e
leads dir capture at e f = go (leb (length capture) at) refl
  where
    go : (t : Bool) → leb (length capture) at ≡ t → Leads dir capture at e
    go true g =
        let none : Some e ≡ None = f ∙ ap first_of (events_end dir capture at (leb-true _ _ g)) in
        cc
    go false g =
        let inside : at < length capture = leb-false _ _ g in
        let here = events_here dir capture at inside in
        let same : Some e ≡ Some (stretch_at (header dir) capture at) = f ∙ ap first_of here in
        let first : stretch_at (header dir) capture at ≡ e = cc in
        record {
          within = subst (Within capture at) first (stretch_within (header dir) capture at (some dir) inside);
          behind = here ∙ ap (λ (x : Event). x ∷ events_from dir capture (at + x.length)) first;
        }

pub none_first : (es : List Event) → None ≡ first_of es → es ≡ []
none_first [] f = refl
none_first (e ∷ es) f = cc
