-- Document 01, 'Refusal numbers': what writing into the rest of a lent buffer answers, and what it leaves there: some rules first, "and
-- then 9".
use Rattle.std.specs.Prelude.{ℕ, ◌-◌, Bool, ◌||◌, List, [], ◌∷◌, ◌++◌, ltb, length, Err, Ok, Result}
use Rattle.refusals.specs.Refusal.{number}
use Rattle.refusals.specs.Rule.{Rule, rule, ruled}
use Rattle.lent.specs.Placed.{placed}
use Rattle.refusals.specs.declared.refusal.Refusal.{Refusal}
use Rattle.refusals.specs.declared.refusal.Refusal.TheVariants.{NoRoom}

-- 9: "the lent buffer has too few bytes from the given place, or the place is past its end"
unfoldable pub lacks_room : ℕ → ℕ → ℕ → Bool
lacks_room long at n = ltb long at || ltb (long - at) n

abbrev pub no_room : List ℕ → ℕ → ℕ → Rule
no_room buf at n = rule NoRoom (lacks_room (length buf) at n)

-- the answer: how many bytes were written, or the refusal
unfoldable pub write_answered : List Rule → List ℕ → ℕ → List ℕ → Result ℕ Refusal
write_answered rules buf at bytes = ruled (rules ++ no_room buf at (length bytes) ∷ []) Err (Ok (length bytes))

-- the buffer after it: a refusal leaves it as it was
unfoldable pub write_left : List Rule → List ℕ → ℕ → List ℕ → List ℕ
write_left rules buf at bytes = ruled (rules ++ no_room buf at (length bytes) ∷ []) (λ n. buf) (placed buf at bytes)

-- "a definition gives this paper's number and values for each of its cases": 0 for a write that is done, and how many bytes it wrote
abbrev pub written_number : Result ℕ Refusal → ℕ
written_number (Ok count) = 0
written_number (Err e) = number e

abbrev pub written_count : Result ℕ Refusal → ℕ
written_count (Ok count) = count
written_count (Err e) = 0
