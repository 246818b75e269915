-- Promise: the refusal that judging gives is the first, in the document's order, whose rule applies, and the row that was found comes
-- exactly when none applies.
use Rattle.std.specs.Prelude.{◌≡◌, List, [], ℕ, Err, Ok, Option, Result, Some}
use Rattle.refusals.specs.Refusal.{number}
use Rattle.refusals.specs.Rule.{Rule}
use Rattle.refusals.specs.RulePromise.{FirstApplies, NoneApplies}
use Rattle.frame.specs.declared.direction.Direction.{Direction}
use Rattle.row.specs.Table.{row_of}
use Rattle.row.specs.declared.profile.Profile.{Profile}
use Rattle.row.specs.declared.table.Row.{Row}
use Rattle.judging.specs.Judge.{row_rules, judge_rules, row_judged, judged_of}
use Rattle.judging.specs.Numbers.{judged_number}
use Rattle.refusals.specs.declared.refusal.Refusal.{Refusal}

-- an answer goes by rules, and its row is the one that was found
pub record JudgedInOrder (rules : List Rule) (there : Option Row) (judged : Result Row Refusal) : Type 0 where
  pub refused : (e : Refusal) → FirstApplies rules e → (judged ≡ Err e) × (judged_number judged ≡ number e)
  pub applies : (e : Refusal) → judged ≡ Err e → FirstApplies rules e
  pub legal : NoneApplies rules → (row : Row) × (there ≡ Some row) × (judged ≡ Ok row) × (judged_number judged ≡ 0)
  pub none : judged_number judged ≡ 0 → NoneApplies rules

pub record JudgePromise : Type 0 where
  -- zone and row alone
  pub row : (profile : Profile) (zone command : ℕ) → JudgedInOrder (row_rules profile zone command (λ row. [])) (row_of profile command) (row_judged profile zone command)
  -- and length and value
  pub body : (profile : Profile) (dir : Direction) (zone command : ℕ) (body : List ℕ)
      → JudgedInOrder (judge_rules profile dir zone command body) (row_of profile command) (judged_of profile dir zone command body)
