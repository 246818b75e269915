-- Promise: writing puts all of its bytes into their place and changes no other, or refuses, counts no byte and changes nothing: by the
-- first of its rules that applies, and then 9.
use Rattle.std.specs.Prelude.{◌≡◌, List, [], ◌∷◌, ◌++◌, ℕ, ◌+◌, ◌≤◌, ◌<◌, length, take, drop, Err, Ok}
use Rattle.refusals.specs.Rule.{Rule}
use Rattle.refusals.specs.RulePromise.{FirstApplies, NoneApplies}
use Rattle.lent.specs.Placed.{placed}
use Rattle.lent.specs.Written.{no_room, write_answered, write_left, written_count}
use Rattle.refusals.specs.declared.refusal.Refusal.{Refusal}
use Rattle.refusals.specs.declared.refusal.Refusal.TheVariants.{NoRoom}

pub record WritePromise (rules : List Rule) (buf : List ℕ) (at : ℕ) (bytes : List ℕ) : Type 0 where
  -- the first of the rules that applies, and then 9
  pub refused : (n : Refusal) → FirstApplies (rules ++ no_room buf at (length bytes) ∷ []) n → write_answered rules buf at bytes ≡ Err n
  pub written : NoneApplies (rules ++ no_room buf at (length bytes) ∷ []) → write_answered rules buf at bytes ≡ Ok (length bytes)
  -- 9 exactly where there is no room
  pub past : NoneApplies rules → length buf < at → write_answered rules buf at bytes ≡ Err NoRoom
  pub few : NoneApplies rules → at ≤ length buf → length buf < at + length bytes → write_answered rules buf at bytes ≡ Err NoRoom
  pub fits : NoneApplies rules → at + length bytes ≤ length buf → write_answered rules buf at bytes ≡ Ok (length bytes)
  -- a refusal leaves the buffer as it was and counts no byte
  pub kept : (n : Refusal) → write_answered rules buf at bytes ≡ Err n → (write_left rules buf at bytes ≡ buf) × (written_count (write_answered rules buf at bytes) ≡ 0)
  -- what is written stands at its place, within the buffer
  pub there : (n : ℕ) → write_answered rules buf at bytes ≡ Ok n
      → (n ≡ length bytes) × (at + n ≤ length buf) × (write_left rules buf at bytes ≡ placed buf at bytes) × (take n (drop at (write_left rules buf at bytes)) ≡ bytes)
  -- and every other byte is as it was, in any case
  pub before : take at (write_left rules buf at bytes) ≡ take at buf
  pub after : drop (at + length bytes) (write_left rules buf at bytes) ≡ drop (at + length bytes) buf
  pub long : length (write_left rules buf at bytes) ≡ length buf
