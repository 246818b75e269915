-- What tests joined say of each.
use mathlib.Core.Path.{◌≡◌, refl}
use mathlib.Core.Bool.{Bool, true, false, cond, ◌||◌}

pub clash : {P : Type 0} → false ≡ true → P
clash e = cc

pub none_of : (a b c d : Bool) → a || (b || (c || d)) ≡ false → (a ≡ false) × (b ≡ false) × (c ≡ false) × (d ≡ false)
none_of false false false false e = (refl, refl, refl, refl)
none_of true b c d e = (cc, cc, cc, cc)
none_of false true c d e = (cc, cc, cc, cc)
none_of false false true d e = (cc, cc, cc, cc)
none_of false false false true e = (cc, cc, cc, cc)

-- where the first is so, the second must be
abbrev pub implies : Bool → Bool → Bool
implies s t = cond s t true

pub implied : (s t : Bool) → implies s t ≡ true → s ≡ true → t ≡ true
implied true t e f = e
implied false t e f = cc
