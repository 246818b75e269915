-- What writing answers and leaves, by whether one of the rules applies, 9 the last of them.
use mathlib.Core.Path.{◌≡◌, refl, sym, ap, ◌∙◌}
use mathlib.Core.Bool.{Bool, true, false}
use mathlib.Core.List.{List, [], ◌∷◌, ◌++◌}
use Prim.Native.Nat.{ℕ, ◌+◌, ◌≤◌}
use native.Mathlib.Omega.{arith}
use lib.ListN.{length, take, drop}
use Rattle.refusals.specs.Rule.{Rule, ruled}
use Rattle.refusals.specs.RulePromise.{NoneApplies}
use Rattle.refusals.proofs.Ruled.{refuses, first_refused, ruled_append, refused_with, accepted_by, pass_first, pass_both, pass_append, append_pass}
use Rattle.refusals.proofs.Rules.{rule_promise}
use Rattle.lent.specs.Placed.{placed}
use Rattle.lent.specs.Written.{lacks_room, no_room, write_answered, write_left, written_count}
use Rattle.lent.specs.WritePromise.{WritePromise}
use Rattle.lent.proofs.Placed.{placed_length, placed_there, placed_before, placed_after}
use Rattle.lent.proofs.Room.{past_end, too_few, fits, room_within}
use Rattle.std.specs.Prelude.{Err, Ok}
use Rattle.refusals.specs.declared.refusal.Refusal.{Refusal}
use Rattle.refusals.specs.declared.refusal.Refusal.TheVariants.{NoRoom}

module _ (rules : List Rule) (buf : List ℕ) (at : ℕ) (bytes : List ℕ) where
  abbrev all : List Rule
  all = rules ++ no_room buf at (length bytes) ∷ []

  pub write_refused : refuses all ≡ true → (write_answered rules buf at bytes ≡ Err (first_refused all)) × (write_left rules buf at bytes ≡ buf)
  unfolding write_answered write_left
  write_refused t =
      (refused_with all Err (Ok (length bytes)) (first_refused all) t refl, refused_with all (λ n. buf) (placed buf at bytes) (first_refused all) t refl)

  pub write_done : refuses all ≡ false → (write_answered rules buf at bytes ≡ Ok (length bytes)) × (write_left rules buf at bytes ≡ placed buf at bytes)
  unfolding write_answered write_left
  write_done t = (accepted_by all Err (Ok (length bytes)) t, accepted_by all (λ n. buf) (placed buf at bytes) t)

  has_room : refuses all ≡ false → at + length bytes ≤ length buf
  has_room t = room_within (length buf) at (length bytes) (pass_first (no_room buf at (length bytes)) [] (pass_append rules (no_room buf at (length bytes) ∷ []) t).1).0

  -- where no other rule applies it goes by the room
  by_room : {A : Type 0} → NoneApplies rules → (refused : Refusal → A) (accepted : A)
      → ruled all refused accepted ≡ ruled (no_room buf at (length bytes) ∷ []) refused accepted
  by_room none refused accepted =
      ruled_append rules (no_room buf at (length bytes) ∷ []) refused accepted ∙ rule_promise.accepted rules none refused (ruled (no_room buf at (length bytes) ∷ []) refused accepted)

  pub write_nine : NoneApplies rules → lacks_room (length buf) at (length bytes) ≡ true
      → (write_answered rules buf at bytes ≡ Err NoRoom) × (write_left rules buf at bytes ≡ buf)
  unfolding write_answered write_left
  write_nine none e = (by_room none Err (Ok (length bytes)) ∙ rw e, by_room none (λ n. buf) (placed buf at bytes) ∙ rw e)

  pub write_there : NoneApplies rules → lacks_room (length buf) at (length bytes) ≡ false
      → (write_answered rules buf at bytes ≡ Ok (length bytes)) × (write_left rules buf at bytes ≡ placed buf at bytes)
  unfolding write_answered write_left
  write_there none e = (by_room none Err (Ok (length bytes)) ∙ rw e, by_room none (λ n. buf) (placed buf at bytes) ∙ rw e)

  -- what is so where one applies, and where none does, is so
  by_cases : {P : Type 0} → (refuses all ≡ true → P) → (refuses all ≡ false → P) → P
  by_cases {P} one none = go (refuses all) refl
    where
      go : (t : Bool) → refuses all ≡ t → P
      go true e = one e
      go false e = none e

  done_not : (n : Refusal) → write_answered rules buf at bytes ≡ Err n → refuses all ≡ false → ⊥
  done_not n e t = let f : Ok (length bytes) ≡ Err n = sym (write_done t).0 ∙ e in cc

  kept : (n : Refusal) → write_answered rules buf at bytes ≡ Err n → (write_left rules buf at bytes ≡ buf) × (written_count (write_answered rules buf at bytes) ≡ 0)
  kept n e = by_cases (λ t. ((write_refused t).1, ap written_count (write_refused t).0)) (λ t. absurd (done_not n e t))

  refused_not : (n : ℕ) → write_answered rules buf at bytes ≡ Ok n → refuses all ≡ true → ⊥
  refused_not n e t = let f : Err (first_refused all) ≡ Ok n = sym (write_refused t).0 ∙ e in cc

  -- what was written passed its rules; what passes them and fits is written
  pub write_passed : (n : ℕ) → write_answered rules buf at bytes ≡ Ok n → refuses rules ≡ false
  write_passed n e = by_cases (λ t. absurd (refused_not n e t)) (λ t. (pass_append rules (no_room buf at (length bytes) ∷ []) t).0)

  pub write_fits : refuses rules ≡ false → at + length bytes ≤ length buf
      → (write_answered rules buf at bytes ≡ Ok (length bytes)) × (write_left rules buf at bytes ≡ placed buf at bytes)
  write_fits e room =
      write_done (append_pass rules (no_room buf at (length bytes) ∷ []) e (pass_both (no_room buf at (length bytes)) [] (fits (length buf) at (length bytes) room) refl))

  there : (n : ℕ) → write_answered rules buf at bytes ≡ Ok n
      → (n ≡ length bytes) × (at + n ≤ length buf) × (write_left rules buf at bytes ≡ placed buf at bytes) × (take n (drop at (write_left rules buf at bytes)) ≡ bytes)
  there n e = by_cases (λ t. absurd (refused_not n e t)) done
    where
      done : refuses all ≡ false
          → (n ≡ length bytes) × (at + n ≤ length buf) × (write_left rules buf at bytes ≡ placed buf at bytes) × (take n (drop at (write_left rules buf at bytes)) ≡ bytes)
      done t =
          let same : n ≡ length bytes = sym (ap written_count e) ∙ ap written_count (write_done t).0 in
          let room = has_room t in
          (same, rw same room, (write_done t).1, rw (same, (write_done t).1) (placed_there buf at bytes room))

  before : take at (write_left rules buf at bytes) ≡ take at buf
  before = by_cases (λ t. rw (write_refused t).1) (λ t. rw (write_done t).1 (placed_before buf at bytes (has_room t)))

  after : drop (at + length bytes) (write_left rules buf at bytes) ≡ drop (at + length bytes) buf
  after = by_cases (λ t. rw (write_refused t).1) (λ t. rw (write_done t).1 (placed_after buf at bytes (has_room t)))

  long : length (write_left rules buf at bytes) ≡ length buf
  long = by_cases (λ t. rw (write_refused t).1) (λ t. rw (write_done t).1 (placed_length buf at bytes (has_room t)))

  pub write_promise : WritePromise rules buf at bytes
  unfolding write_answered
  write_promise = record {
    refused = λ n w. rule_promise.refused all n w Err (Ok (length bytes));
    written = λ w. rule_promise.accepted all w Err (Ok (length bytes));
    past = λ none h. (write_nine none (past_end (length buf) at (length bytes) h)).0;
    few = λ none within h. (write_nine none (too_few (length buf) at (length bytes) within (omega arith))).0;
    fits = λ none h. (write_there none (fits (length buf) at (length bytes) h)).0;
    kept = kept;
    there = there;
    before = before;
    after = after;
    long = long;
  }
