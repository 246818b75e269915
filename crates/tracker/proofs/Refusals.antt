-- A refused answer changes nothing, and passes its number on.
use mathlib.Core.Path.{◌≡◌, refl}
use mathlib.Core.Bool.{Bool, true, false, cond}
use mathlib.Core.List.{List, [], ◌∷◌}
use Prim.Native.Nat.{ℕ, ◌≤◌}
use native.Mathlib.Omega.{arith}
use Rattle.lists.specs.Each.{Each}
use Rattle.refusals.specs.Rule.{Rule}
use Rattle.fields.specs.Raw.{too_long}
use Rattle.frame.specs.declared.direction.Direction.TheVariants.{Answer}
use Rattle.row.specs.declared.profile.Profile.{Profile}
use Rattle.judging.specs.Judge.{judge_rules}
use Rattle.judging.proofs.Judges.{first_number_lem, judge_numbers}
use Rattle.message.specs.Message.{is_denial, wrong_code, read_rules}
use Rattle.message.specs.Numbers.{reading_number, reading_paper, zero_paper}
use Rattle.message.specs.declared.read.Message.TheVariants as message
use Rattle.message.proofs.Order.{order_promise}
use Rattle.tracker.specs.Feed.{told}
use Rattle.tracker.specs.FeedPromise.{answer_read}
use Rattle.tracker.specs.FeedRefusalPromise.{FeedRefusalPromise}
use Rattle.tracker.specs.declared.tracker.Tracker.{Tracker}
use Rattle.std.specs.Prelude.{Err, Ok, Result}
use Rattle.refusals.specs.declared.refusal.Refusal.{Refusal}
use Rattle.refusals.specs.Refusal.{number}
use Rattle.message.specs.declared.read.Message.{Message}

-- the rules of an answer have the numbers 1 to 5
abbrev OneToFive : Refusal → Type 0
OneToFive e = (1 ≤ number e) × (number e ≤ 5)

rules_numbered : (profile : Profile) (zone command ac : ℕ) (body : List ℕ) → Each (λ (r : Rule). OneToFive r.refusal) (read_rules profile Answer zone command ac body)
rules_numbered profile zone command ac body = go (is_denial ac)
  where
    go : (t : Bool) → Each (λ (r : Rule). OneToFive r.refusal) (wrong_code ac ∷ cond t (too_long body ∷ []) (judge_rules profile Answer zone command body))
    go true = ((omega arith, omega arith), ((omega arith, omega arith), tt))
    go false = (
      (omega arith, omega arith),
      judge_numbers OneToFive (omega arith, omega arith) (omega arith, omega arith) (omega arith, omega arith) profile Answer ((omega arith, omega arith), tt) zone command body,
    )

-- a refused answer
kept : (t : Tracker) (r : Result Message Refusal) (body : List ℕ) → (reading_number r ≡ 0 → ⊥) → (told t r ≡ t) × (reading_paper (told t r).profile r body ≡ zero_paper)
kept t (Ok (message.Command s)) body e = absurd (e refl)
kept t (Ok (message.Status s)) body e = absurd (e refl)
kept t (Ok (message.Denied d)) body e = absurd (e refl)
kept t (Err n) body e = (refl, refl)

pub feed_refusal_promise : (t : Tracker) (zone command ac : ℕ) (body : List ℕ) → FeedRefusalPromise t zone command ac body
feed_refusal_promise t zone command ac body = record {
  passed = refl;
  numbered = λ n e.
      first_number_lem OneToFive (read_rules t.profile Answer zone command ac body) (rules_numbered t.profile zone command ac body) n
      ((order_promise t.profile Answer zone command ac body).applies n e);
  kept = kept t (answer_read t zone command ac body) body;
}
