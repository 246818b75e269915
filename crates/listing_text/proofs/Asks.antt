-- What an input asks for, by its length and its letters.
use mathlib.Core.Path.{◌≡◌, refl, ap, sym}
use mathlib.Core.Bool.{Bool, true, false, cond}
use mathlib.Core.List.{List, [], ◌∷◌}
use Prim.Native.Nat.{ℕ, ◌<◌}
use native.Mathlib.Omega.{arith}
use borrow.Author.Tests.{lt-ltb, le-ltb, ne_eqb}
use lib.Dec.{eqb}
use lib.ListN.{length}
use Rattle.frame.specs.Capture.{capture_limit}
use Rattle.frame.specs.Letter.{direction_of}
use Rattle.row.specs.Profile.{profile_of}
use Rattle.row.specs.declared.profile.Profile.TheVariants.{A, S}
use Rattle.listing_text.specs.Listing.{asked_by, asked}
use Rattle.listing_text.specs.Numbers.{asked_number}
use Rattle.listing_text.specs.AskedPromise.{AskedPromise}
use Rattle.std.specs.Prelude.{Err, Ok}
use Rattle.refusals.specs.declared.refusal.Refusal.TheVariants.{WrongLetter}

pub asked_short : (input : List ℕ) → length input < 2 → Err WrongLetter ≡ asked input
asked_short [] h = refl
asked_short (p ∷ []) h = refl
asked_short (p ∷ d ∷ capture) h = absurd (omega arith)

-- whatever the profile's letter names, a direction's letter that names none is 12
named : (t u : Bool) (n : ℕ)
    → asked_number (asked_by (cond t (Ok A) (cond u (Ok S) (Err WrongLetter))) (Err WrongLetter) n) ≡ 12
named true u n = refl
named false true n = refl
named false false n = refl

other_profile : (p d : ℕ) (capture : List ℕ) → (p ≡ 0x41 → ⊥) → (p ≡ 0x53 → ⊥) → asked_number (asked (p ∷ d ∷ capture)) ≡ 12
unfolding profile_of
other_profile p d capture a s = rw (ne_eqb p 0x41 a, ne_eqb p 0x53 s)

other_direction : (p d : ℕ) (capture : List ℕ) → (d ≡ 0x43 → ⊥) → (d ≡ 0x52 → ⊥) → asked_number (asked (p ∷ d ∷ capture)) ≡ 12
unfolding profile_of direction_of
other_direction p d capture c r = rw (ne_eqb d 0x43 c, ne_eqb d 0x52 r) (named (eqb p 0x41) (eqb p 0x53) (length capture))

pub asked_promise : AskedPromise
asked_promise = record {
  missing = λ input h. sym (ap asked_number (asked_short input h));
  profile = other_profile;
  direction = other_direction;
  long = λ p d capture q dir e f h. rw (e, f, lt-ltb capture_limit (length capture) h);
  listed = λ p d capture q dir e f h. rw (e, f, le-ltb capture_limit (length capture) h) (refl, refl);
}
