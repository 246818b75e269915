-- Document 01, head: "Profile A is the AVR500/AVR600/AV888 .. Profile S is the SA750"; 'Bench frames': "profile letter A or S"; refusal 12.
use Rattle.std.specs.Prelude.{ℕ, cond, eqb, Err, Ok, Result}
use Rattle.row.specs.declared.profile.Profile.{Profile}
use Rattle.row.specs.declared.profile.Profile.TheVariants.{A, S}
use Rattle.refusals.specs.declared.refusal.Refusal.{Refusal}
use Rattle.refusals.specs.declared.refusal.Refusal.TheVariants.{WrongLetter}

-- 41 hex is the letter A, 53 hex the letter S
abbrev pub letter_of : Profile → ℕ
letter_of A = 0x41
letter_of S = 0x53

-- 12: "profile .. letter other than those named"
unfoldable pub profile_of : ℕ → Result Profile Refusal
profile_of letter = cond (eqb letter 0x41) (Ok A) (cond (eqb letter 0x53) (Ok S) (Err WrongLetter))

-- "Zones: A has 1 to 3, S has 1 and 2."
abbrev pub zones_of : Profile → ℕ
zones_of A = 3
zones_of S = 2
