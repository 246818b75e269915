-- Which rows have F0, F1 and F2, and which 80, computed over the table.
use mathlib.Core.Path.{◌≡◌, refl}
use mathlib.Core.Bool.{Bool, true, false, cond, not, ◌&&◌}
use mathlib.Core.List.{List, [], ◌∷◌}
use mathlib.Core.Logic.{inl, inr}
use Prim.Native.Nat.{ℕ}
use Rattle.refusals.specs.Rule.{rule}
use Rattle.refusals.specs.RulePromise.{FirstApplies}
use Rattle.refusals.specs.declared.refusal.Refusal.TheVariants.{NoStep, WrongValue}
use Rattle.frame.specs.declared.direction.Direction.{Direction}
use Rattle.frame.specs.declared.direction.Direction.TheVariants.{Command, Answer}
use Rattle.row.specs.Table.{table}
use Rattle.row.specs.declared.table.Row.{Row}
use Rattle.judging.specs.Judge.{is_step_or_request, lacks_step, value_rules, value_refusal}
use Rattle.judging.specs.StepPromise.{IsStepOrRequest, StepRowsPromise}
use Rattle.judging.specs.ZeroRowsPromise.{ZeroRowsPromise}

pub is_step : (b : ℕ) → IsStepOrRequest b → is_step_or_request b ≡ true
is_step b (inl e) = rw e
is_step b (inr (inl e)) = rw e
is_step b (inr (inr e)) = rw e

given : (dir : Direction) (row : Row) (body : List ℕ) → FirstApplies (value_rules dir row body true) (value_refusal dir row body)
given Answer row body = inl (refl, refl)
given Command row body = go (lacks_step row body)
  where
    go : (t : Bool) → FirstApplies (rule NoStep t ∷ rule WrongValue (true && not t) ∷ []) (cond t NoStep (cond (true && not t) WrongValue WrongValue))
    go true = inl (refl, refl)
    go false = inr (refl, inl (refl, refl))

pub step_rows_promise : StepRowsPromise
unfolding table
step_rows_promise = record { requests = refl; steps = refl; same = refl; given = given; lacks = λ row b step wrong. rw (is_step b step, wrong) }

pub zero_rows_promise : ZeroRowsPromise
unfolding table
zero_rows_promise = record { commands = refl; answers = refl }
