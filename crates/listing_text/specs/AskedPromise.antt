-- What is promised of refused input: "Order: 12, then 11, before all others."
use Rattle.std.specs.Prelude.{ℕ, ◌≤◌, ◌<◌, ◌≡◌, List, ◌∷◌, length, Ok}
use Rattle.frame.specs.Capture.{capture_limit}
use Rattle.frame.specs.Letter.{direction_of}
use Rattle.frame.specs.declared.direction.Direction.{Direction}
use Rattle.row.specs.Profile.{profile_of}
use Rattle.row.specs.declared.profile.Profile.{Profile}
use Rattle.listing_text.specs.Listing.{asked}
use Rattle.listing_text.specs.Numbers.{asked_number}

pub record AskedPromise : Type 0 where
  -- "a missing letter is 12"
  pub missing : (input : List ℕ) → length input < 2 → asked_number (asked input) ≡ 12
  -- 12 for a letter other than A and S, or C and R, however long the capture is
  pub profile : (p d : ℕ) (capture : List ℕ) → (p ≡ 0x41 → ⊥) → (p ≡ 0x53 → ⊥) → asked_number (asked (p ∷ d ∷ capture)) ≡ 12
  pub direction : (p d : ℕ) (capture : List ℕ) → (d ≡ 0x43 → ⊥) → (d ≡ 0x52 → ⊥) → asked_number (asked (p ∷ d ∷ capture)) ≡ 12
  -- 11 exactly for a capture over 60,000 bytes
  pub long : (p d : ℕ) (capture : List ℕ) (profile : Profile) (dir : Direction) → profile_of p ≡ Ok profile
      → direction_of d ≡ Ok dir → capture_limit < length capture → asked_number (asked (p ∷ d ∷ capture)) ≡ 11
  pub listed : (p d : ℕ) (capture : List ℕ) (profile : Profile) (dir : Direction) → profile_of p ≡ Ok profile
      → direction_of d ≡ Ok dir → length capture ≤ capture_limit → (asked (p ∷ d ∷ capture) ≡ Ok (profile, dir)) × (asked_number (asked (p ∷ d ∷ capture)) ≡ 0)
