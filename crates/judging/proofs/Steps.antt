-- A step or request that a row lacks is 13, and nothing else is.
use mathlib.Core.Path.{◌≡◌, refl, ap, ◌∙◌}
use mathlib.Core.Bool.{Bool, true, false, cond, not, ◌||◌}
use mathlib.Core.List.{List, [], ◌∷◌}
use mathlib.Core.Logic.{◌⊎◌, inl, inr}
use Prim.Native.Nat.{ℕ}
use native.Mathlib.Omega.{arith}
use borrow.Author.Tests.{eqb-true, not-true}
use lib.Dec.{eqb}
use lib.ListN.{length}
use Rattle.lists.proofs.Tests.{both}
use Rattle.refusals.specs.RulePromise.{FirstApplies}
use Rattle.frame.specs.declared.direction.Direction.{Direction}
use Rattle.frame.specs.declared.direction.Direction.TheVariants.{Command, Answer}
use Rattle.row.specs.Table.{table, first_row}
use Rattle.row.specs.declared.profile.Profile.{Profile}
use Rattle.row.specs.declared.profile.Profile.TheVariants.{S}
use Rattle.row.specs.declared.table.Row.{Row}
use Rattle.judging.specs.Judge.{has_byte, has_length, has_value, has_data, is_step_or_request, lacks_step, value_refusal, row_rules, data_rules, row_judged, judged_of}
use Rattle.judging.specs.StepPromise.{IsStepOrRequest, MissingStep, StepPromise}
use Rattle.judging.proofs.Judges.{Lies, lies_judged, judge_refused, judge_legal, first_number_lem, row_numbers}
use Rattle.judging.proofs.Order.{row_first, judge_promise}
use Rattle.judging.proofs.InRows.{is_step}
use Rattle.std.specs.Prelude.{Err, Ok}
use Rattle.refusals.specs.declared.refusal.Refusal.{Refusal}
use Rattle.refusals.specs.declared.refusal.Refusal.TheVariants.{NoStep, WrongLength, WrongValue}

step_is : (b : ℕ) → is_step_or_request b ≡ true → IsStepOrRequest b
step_is b e = go (eqb b 0xF0) (eqb b 0xF1) refl refl e
  where
    go : (s t : Bool) → eqb b 0xF0 ≡ s → eqb b 0xF1 ≡ t → s || (t || eqb b 0xF2) ≡ true → IsStepOrRequest b
    go true t f g h = inl (eqb-true b 0xF0 f)
    go false true f g h = inr (inl (eqb-true b 0xF1 g))
    go false false f g h = inr (inr (eqb-true b 0xF2 h))

module _ (profile : Profile) (zone command : ℕ) where
  step : (dir : Direction) (body : List ℕ) → MissingStep profile dir zone command body → judged_of profile dir zone command body ≡ Err NoStep
  step dir body l =
      rw (l.sent, l.one)
      (judge_legal profile Command zone command (l.byte ∷ []) l.row l.legal ∙ rw (is_step l.byte l.step, l.lacks))

  -- the step that a row lacks, taken out of its data
  lacked : (row : Row) → Lies profile zone command row → (body : List ℕ) → lacks_step row body ≡ true → MissingStep profile Command zone command body
  lacked row l [] e = cc
  lacked row l (b ∷ []) e =
      let (step, lacks) = both (is_step_or_request b) (not (has_byte Command row b)) e in
      record {
        sent = refl;
        byte = b;
        one = refl;
        step = step_is b step;
        row = row;
        legal = lies_judged profile zone command row l;
        long = refl;
        lacks = not-true _ lacks;
      }
  lacked row l (a ∷ b ∷ body) e = absurd (omega (arith, eqb-true (length (a ∷ b ∷ body)) 1 (both (eqb (length (a ∷ b ∷ body)) 1) _ e).0))

  by_data : (dir : Direction) (row : Row) → Lies profile zone command row → (body : List ℕ) → FirstApplies (data_rules dir body row) NoStep → MissingStep profile dir zone command body
  by_data dir row l body (inl (t, e)) = cc
  by_data Command row l body (inr (f, inl w)) = lacked row l body w.0
  by_data Command row l body (inr (f, inr (g, inl (t, e)))) = cc
  by_data Command row l body (inr (f, inr (g, inr w))) = absurd w.1
  by_data Answer row l body (inr (f, inl (t, e))) = cc
  by_data Answer row l body (inr (f, inr w)) = absurd w.1

  alone : (dir : Direction) (body : List ℕ) → judged_of profile dir zone command body ≡ Err NoStep → MissingStep profile dir zone command body
  alone dir body e = go (row_first profile zone command (data_rules dir body) NoStep ((judge_promise.body profile dir zone command body).applies NoStep e))
    where
      go : FirstApplies (row_rules profile zone command (λ row. [])) NoStep ⊎ ((row : Row) × Lies profile zone command row × FirstApplies (data_rules dir body row) NoStep)
          → MissingStep profile dir zone command body
      go (inl w) =
          absurd (first_number_lem (λ n. n ≡ NoStep → ⊥) (row_rules profile zone command (λ row. []))
          (row_numbers (λ n. n ≡ NoStep → ⊥) (λ z. cc) (λ z. cc) profile zone command (λ row. []) (λ row. tt)) NoStep w refl)
      go (inr (row, l, w)) = by_data dir row l body w

  -- what a row's length, its value and its data give
  pub wrong_size : (dir : Direction) (body : List ℕ) (row : Row) → row_judged profile zone command ≡ Ok row → has_length dir row (length body) ≡ false
      → judged_of profile dir zone command body ≡ Err WrongLength
  wrong_size dir body row legal wrong = judge_legal profile dir zone command body row legal ∙ rw wrong

  pub wrong_value : (dir : Direction) (body : List ℕ) (row : Row) → row_judged profile zone command ≡ Ok row → has_length dir row (length body) ≡ true → has_value dir row body ≡ false
      → judged_of profile dir zone command body ≡ Err (value_refusal dir row body)
  wrong_value dir body row legal long wrong = judge_legal profile dir zone command body row legal ∙ rw (long, wrong)

  pub fits : (dir : Direction) (body : List ℕ) (row : Row) → row_judged profile zone command ≡ Ok row → has_data dir row body ≡ true
      → judged_of profile dir zone command body ≡ Ok row
  fits dir body row legal has =
      let (long, value) = both (has_length dir row (length body)) (has_value dir row body) has in
      judge_legal profile dir zone command body row legal ∙ rw (long, value)

  rest : (dir : Direction) (body : List ℕ) (row : Row) → row_judged profile zone command ≡ Ok row → has_length dir row (length body) ≡ true → has_value dir row body ≡ false
      → (MissingStep profile dir zone command body → ⊥) → judged_of profile dir zone command body ≡ Err WrongValue
  rest dir body row legal long wrong other = refused ∙ ap Err (four dir refl)
    where
      refused : judged_of profile dir zone command body ≡ Err (value_refusal dir row body)
      refused = wrong_value dir body row legal long wrong

      refusal : Bool → Refusal
      refusal t = cond t NoStep (cond (not t) WrongValue WrongValue)

      by_step : (t : Bool) → judged_of profile dir zone command body ≡ Err (refusal t) → refusal t ≡ WrongValue
      by_step true e = absurd (other (alone dir body e))
      by_step false e = refl

      four : (d : Direction) → dir ≡ d → value_refusal d row body ≡ WrongValue
      four Command e = by_step (lacks_step row body) (refused ∙ ap (λ (d : Direction). Err (value_refusal d row body)) e)
      four Answer e = refl

pub step_promise : (profile : Profile) (dir : Direction) (zone command : ℕ) (body : List ℕ) → StepPromise profile dir zone command body
step_promise profile dir zone command body = record {
  before = judge_refused profile dir zone command body;
  size = wrong_size profile zone command dir body;
  fits = fits profile zone command dir body;
  step = step profile zone command dir body;
  alone = alone profile zone command dir body;
  rest = rest profile zone command dir body;
}

-- a premise that can be met: the frame that document 02 names
pub s_37_lacks_f1 : MissingStep S Command 1 0x37 (0xF1 ∷ [])
unfolding table first_row judged_of
s_37_lacks_f1 = (step_promise S Command 1 0x37 (0xF1 ∷ [])).alone refl
