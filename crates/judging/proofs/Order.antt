-- The first rule that applies gives its refusal; a row comes exactly when none applies. Zone and row come before what more a row asks.
use mathlib.Core.Path.{◌≡◌, refl, ap, sym, ◌∙◌}
use mathlib.Core.Bool.{true, false}
use mathlib.Core.List.{List, [], ◌∷◌}
use mathlib.Core.Logic.{◌⊎◌, inl, inr}
use Prim.Native.Nat.{ℕ}
use Rattle.refusals.specs.Refusal.{number}
use Rattle.refusals.specs.Rule.{Rule, ruled}
use Rattle.refusals.specs.RulePromise.{FirstApplies, NoneApplies}
use Rattle.refusals.proofs.Ruled.{refuses, pass_both}
use Rattle.refusals.proofs.Numbers.{number_promise}
use Rattle.refusals.proofs.Rules.{rule_promise}
use Rattle.row.specs.Table.{row_of}
use Rattle.row.specs.declared.profile.Profile.{Profile}
use Rattle.row.specs.declared.table.Row.{Row}
use Rattle.judging.specs.Judge.{wrong_profile_zone, wrong_row_zone, by_row, row_rules, data_rules, judged_by, row_judged, judged_of}
use Rattle.judging.specs.Numbers.{judged_number}
use Rattle.judging.specs.JudgePromise.{JudgedInOrder, JudgePromise}
use Rattle.judging.proofs.Judges.{Lies, pass_row}
use Rattle.std.specs.Prelude.{Err, None, Ok, Option, Result, Some}
use Rattle.refusals.specs.declared.refusal.Refusal.{Refusal}
use Rattle.refusals.specs.declared.refusal.Refusal.TheVariants.{WrongZone}

pub none_refuses : (rs : List Rule) → NoneApplies rs → refuses rs ≡ false
none_refuses [] w = refl
none_refuses (r ∷ rs) w = pass_both r rs w.0 (none_refuses rs w.1)

pub none_first : {X : Type 0} (rs : List Rule) → NoneApplies rs → (n : Refusal) → FirstApplies rs n → X
none_first {X} rs none n w = let z : false ≡ true = sym (rule_promise.accepted rs none (λ k. true) false) ∙ rule_promise.refused rs n w (λ k. true) false in cc

pub one_first : (rs : List Rule) (m n : Refusal) → FirstApplies rs m → FirstApplies rs n → m ≡ n
one_first rs m n v w = sym (rule_promise.refused rs m v (λ k. k) WrongZone) ∙ rule_promise.refused rs n w (λ k. k) WrongZone

module _ (profile : Profile) (zone command : ℕ) (more : Row → List Rule) where
  abbrev rules : List Rule
  rules = row_rules profile zone command more

  abbrev judged : Result Row Refusal
  judged = ruled rules Err (judged_by (row_of profile command))

  -- the first that applies is of zone and row, or of the row's own rules
  pub row_first : (n : Refusal) → FirstApplies rules n → FirstApplies (row_rules profile zone command (λ row. [])) n ⊎ ((row : Row) × Lies profile zone command row × FirstApplies (more row) n)
  row_first n w = go (row_of profile command) refl w
    where
      go : (f : Option Row) → row_of profile command ≡ f → FirstApplies (wrong_profile_zone profile zone ∷ by_row f (λ row. wrong_row_zone row zone ∷ more row)) n
          → FirstApplies (wrong_profile_zone profile zone ∷ by_row f (λ row. wrong_row_zone row zone ∷ [])) n ⊎ ((row : Row) × Lies profile zone command row × FirstApplies (more row) n)
      go f q (inl v) = inl (inl v)
      go None q (inr v) = inl (inr v)
      go (Some row) q (inr (p, inl v)) = inl (inr (p, inl v))
      go (Some row) q (inr (p, inr v)) = inr (row, record { there = q; within = p; reaches = v.0 }, v.1)

  pub row_before : (n : Refusal) → FirstApplies (row_rules profile zone command (λ row. [])) n → FirstApplies rules n
  row_before n w = go (row_of profile command) w
    where
      go : (f : Option Row) → FirstApplies (wrong_profile_zone profile zone ∷ by_row f (λ row. wrong_row_zone row zone ∷ [])) n
          → FirstApplies (wrong_profile_zone profile zone ∷ by_row f (λ row. wrong_row_zone row zone ∷ more row)) n
      go f (inl v) = inl v
      go None (inr v) = inr v
      go (Some row) (inr (p, inl v)) = inr (p, inl v)
      go (Some row) (inr (p, inr v)) = absurd v.1

  pub first_lies : (row : Row) → Lies profile zone command row → (n : Refusal) → FirstApplies (more row) n → FirstApplies rules n
  first_lies row l n w = inr (l.within, rw l.there (inr (l.reaches, w)))

  -- an answer by these rules
  judged_by_lem : JudgedInOrder rules (row_of profile command) judged
  judged_by_lem = record { refused = refused; applies = applies; legal = legal; none = none }
    where
      first : (e : Refusal) → FirstApplies rules e → judged ≡ Err e
      first e w = rule_promise.refused rules e w Err (judged_by (row_of profile command))

      refused : (e : Refusal) → FirstApplies rules e → (judged ≡ Err e) × (judged_number judged ≡ number e)
      refused e w = (first e w, ap judged_number (first e w))

      legal : NoneApplies rules → (row : Row) × (row_of profile command ≡ Some row) × (judged ≡ Ok row) × (judged_number judged ≡ 0)
      legal w =
          let p = pass_row profile zone command more (none_refuses rules w) in
          let there : judged ≡ Ok p.row = rule_promise.accepted rules w Err (judged_by (row_of profile command)) ∙ ap judged_by p.lies.there in
          (p.row, p.lies.there, there, ap judged_number there)

      applies : (e : Refusal) → judged ≡ Err e → FirstApplies rules e
      applies e is = go (rule_promise.either rules)
        where
          go : ((f : Refusal) × FirstApplies rules f) ⊎ NoneApplies rules → FirstApplies rules e
          go (inl (f, w)) = let there = first f w in let same : f ≡ e = cc in rw same at w
          go (inr w) = let there = (legal w).2 in cc

      none : judged_number judged ≡ 0 → NoneApplies rules
      none zero = go (rule_promise.either rules)
        where
          go : ((f : Refusal) × FirstApplies rules f) ⊎ NoneApplies rules → NoneApplies rules
          go (inl (f, w)) = absurd (number_promise.some f (sym (refused f w).1 ∙ zero))
          go (inr w) = w

pub judge_promise : JudgePromise
unfolding row_judged judged_of
judge_promise = record {
  row = λ profile zone command. judged_by_lem profile zone command (λ row. []);
  body = λ profile dir zone command body. judged_by_lem profile zone command (data_rules dir body);
}
