-- Writing a content checks the same as reading its data.
use mathlib.Core.Path.{◌≡◌, refl, ap, sym, ◌∙◌, subst}
use mathlib.Core.Bool.{Bool, true, false, cond, not}
use mathlib.Core.List.{List, [], ◌∷◌}
use mathlib.Core.Logic.{◌⊎◌, inl, inr}
use Prim.Native.Nat.{ℕ}
use lib.Dec.{eqb}
use lib.ListN.{length}
use borrow.Author.Tests.{eqb-true, not-true}
use Rattle.std.proofs.lemmas.Bool.{false_from_ne_true}
use Rattle.refusals.specs.Rule.{Rule}
use Rattle.refusals.specs.RulePromise.{FirstApplies, NoneApplies}
use Rattle.refusals.proofs.Rules.{rule_promise}
use Rattle.frame.specs.declared.direction.Direction.{Direction}
use Rattle.frame.specs.declared.direction.Direction.TheVariants.{Command, Answer}
use Rattle.lists.proofs.Tests.{both}
use Rattle.row.specs.Table.{row_of}
use Rattle.row.specs.declared.profile.Profile.{Profile}
use Rattle.row.specs.declared.table.Row.{Row}
use Rattle.judging.specs.Judge.{has_length, has_value, wrong_length, lacks_step, value_rules, row_rules, data_rules, judge_rules}
use Rattle.judging.proofs.Judges.{Lies, pass_row, same_row}
use Rattle.judging.proofs.Order.{none_refuses, none_first, one_first, row_first, row_before, first_lies}
use Rattle.message.specs.Content.{encoded_of, encoded_data, size_of, is_form}
use Rattle.message.specs.Write.{form_rules, said_rules, said_in, said_data}
use Rattle.message.specs.MessageWritePromise.{SameChecksPromise}
use Rattle.message.specs.declared.content.Content.{Content}
use Rattle.message.proofs.Written.{data_size, writes, no_form}
use Rattle.std.specs.Prelude.{Option, Some}
use Rattle.refusals.specs.declared.refusal.Refusal.{Refusal}
use Rattle.refusals.specs.declared.refusal.Refusal.TheVariants.{WrongLength, WrongValue}

-- rules of a length, and at 4's place of unfit data: where more data are unfit, the same number comes, and 4 beside
module _ (row : Row) (n : ℕ) (body : List ℕ) (unfit more : Bool) where
  abbrev rules : Direction → Bool → List Rule
  rules dir w = wrong_length dir row n ∷ value_rules dir row body w

  also_unfit : (dir : Direction) → (unfit ≡ true → more ≡ true) → (k : Refusal) → FirstApplies (rules dir unfit) k → FirstApplies (rules dir more) k
  also_unfit dir f k (inl w) = inl w
  also_unfit Command f k (inr (l, inl w)) = inr (l, inl w)
  also_unfit Command f k (inr (l, inr (s, inl w))) = inr (l, inr (s, inl (rw (s, f (both unfit (not (lacks_step row body)) w.0).0), w.1)))
  also_unfit Command f k (inr (l, inr (s, inr w))) = absurd w.1
  also_unfit Answer f k (inr (l, inl w)) = inr (l, inl (f w.0, w.1))
  also_unfit Answer f k (inr (l, inr w)) = absurd w.1

  beside_four : (dir : Direction) (k : Refusal) → FirstApplies (rules dir more) k → FirstApplies (rules dir unfit) k ⊎ (k ≡ WrongValue)
  beside_four dir k (inl w) = inl (inl w)
  beside_four Command k (inr (l, inl w)) = inl (inr (l, inl w))
  beside_four Command k (inr (l, inr (s, inl w))) = inr (sym w.1)
  beside_four Command k (inr (l, inr (s, inr w))) = absurd w.1
  beside_four Answer k (inr (l, inl w)) = inr (sym w.1)
  beside_four Answer k (inr (l, inr w)) = absurd w.1

module _ (profile : Profile) (dir : Direction) (zone command : ℕ) (content : Content) where
  abbrev body : List ℕ
  body = said_data profile command content

  abbrev read_rules : List Rule
  read_rules = judge_rules profile dir zone command body

  abbrev checks : List Rule
  checks = said_rules profile dir zone command content

  abbrev load : Row → List ℕ
  load row = encoded_data (encoded_of row content)

  -- the rules of its data, by its size
  abbrev load_rules : Row → List Rule
  load_rules row = wrong_length dir row (size_of content) ∷ value_rules dir row (load row) (not (has_value dir row (load row)))

  of_load : (row : Row) (l : List ℕ) → l ≡ load row → length l ≡ size_of content → data_rules dir l row ≡ load_rules row
  of_load row l e size =
      ap (λ (n : ℕ). wrong_length dir row n ∷ value_rules dir row l (not (has_value dir row l))) size
      ∙ ap (λ (k : List ℕ). wrong_length dir row (size_of content) ∷ value_rules dir row k (not (has_value dir row k))) e

  data_form : (row : Row) (l : List ℕ) → l ≡ load row → length l ≡ size_of content → (n : Refusal) → FirstApplies (data_rules dir l row) n → FirstApplies (form_rules dir content row) n
  data_form row l e size n w =
      also_unfit row (size_of content) (load row) (not (has_value dir row (load row))) (not (is_form dir row content)) dir (λ f. no_form dir row content (not-true _ f)) n
      (subst (λ (rs : List Rule). FirstApplies rs n) (of_load row l e size) w)

  form_data : (row : Row) (l : List ℕ) → l ≡ load row → length l ≡ size_of content → (n : Refusal) → FirstApplies (form_rules dir content row) n → FirstApplies (data_rules dir l row) n ⊎ (n ≡ WrongValue)
  form_data row l e size n w =
      subst (λ (rs : List Rule). FirstApplies rs n ⊎ (n ≡ WrongValue)) (sym (of_load row l e size))
      (beside_four row (size_of content) (load row) (not (has_value dir row (load row))) (not (is_form dir row content)) dir n w)

  in_row : (row : Row) → row_of profile command ≡ Some row → body ≡ load row
  in_row row e = ap (λ (f : Option Row). said_in f content) e

  read : length body ≡ size_of content → (n : Refusal) → FirstApplies read_rules n → FirstApplies checks n
  read size n w = go (row_first profile zone command (data_rules dir body) n w)
    where
      go : FirstApplies (row_rules profile zone command (λ row. [])) n ⊎ ((row : Row) × Lies profile zone command row × FirstApplies (data_rules dir body row) n) → FirstApplies checks n
      go (inl v) = row_before profile zone command (form_rules dir content) n v
      go (inr (row, l, v)) = first_lies profile zone command (form_rules dir content) row l n (data_form row body (in_row row l.there) size n v)

  written : length body ≡ size_of content → (n : Refusal) → FirstApplies checks n → FirstApplies read_rules n ⊎ ((n ≡ WrongValue) × NoneApplies read_rules)
  written size n w = go (rule_promise.either read_rules)
    where
      by_data : (row : Row) → Lies profile zone command row → FirstApplies (data_rules dir body row) n ⊎ (n ≡ WrongValue) → FirstApplies read_rules n ⊎ (n ≡ WrongValue)
      by_data row l (inl v) = inl (first_lies profile zone command (data_rules dir body) row l n v)
      by_data row l (inr e) = inr e

      by_row_lem : FirstApplies (row_rules profile zone command (λ row. [])) n ⊎ ((row : Row) × Lies profile zone command row × FirstApplies (form_rules dir content row) n) → FirstApplies read_rules n ⊎ (n ≡ WrongValue)
      by_row_lem (inl v) = inl (row_before profile zone command (data_rules dir body) n v)
      by_row_lem (inr (row, l, v)) = by_data row l (form_data row body (in_row row l.there) size n v)

      beside : NoneApplies read_rules → FirstApplies read_rules n ⊎ (n ≡ WrongValue) → FirstApplies read_rules n ⊎ ((n ≡ WrongValue) × NoneApplies read_rules)
      beside none (inl v) = none_first read_rules none n v
      beside none (inr e) = inr (e, none)

      go : ((k : Refusal) × FirstApplies read_rules k) ⊎ NoneApplies read_rules → FirstApplies read_rules n ⊎ ((n ≡ WrongValue) × NoneApplies read_rules)
      go (inl (k, v)) = inl (rw (one_first checks k n (read size k v) w) at v)
      go (inr none) = beside none (by_row_lem (row_first profile zone command (form_rules dir content) n w))

  -- what has no data is no form of the row, and no step
  module _ (row : Row) (other : length (load row) ≡ size_of content → ⊥) where
    no_data : is_form dir row content ≡ false
    no_data = false_from_ne_true (is_form dir row content) (λ f. other (writes dir row content f).1)

    no_step : lacks_step row (load row) ≡ false
    no_step =
        false_from_ne_true (lacks_step row (load row))
        (λ f. other (data_size Command row content (rw (eqb-true (length (load row)) 1 (both (eqb (length (load row)) 1) _ f).0))))

    lacks : FirstApplies (form_rules dir content row) (cond (has_length dir row (size_of content)) WrongValue WrongLength)
    lacks = go (has_length dir row (size_of content)) refl
      where
        four : (d : Direction) → not (is_form d row content) ≡ true → FirstApplies (value_rules d row (load row) (not (is_form d row content))) WrongValue
        four Command f = inr (no_step, inl (rw (f, no_step), refl))
        four Answer f = inl (f, refl)

        go : (t : Bool) → has_length dir row (size_of content) ≡ t → FirstApplies (form_rules dir content row) (cond t WrongValue WrongLength)
        go true e = inr (ap not e, four dir (ap not no_data))
        go false e = inl (ap not e, refl)

  uncoded : (length body ≡ size_of content → ⊥) → (row : Row) → row_of profile command ≡ Some row → NoneApplies (row_rules profile zone command (λ row. []))
      → FirstApplies checks (cond (has_length dir row (size_of content)) WrongValue WrongLength)
  uncoded other row e none =
      let p = pass_row profile zone command (λ row. []) (none_refuses (row_rules profile zone command (λ row. [])) none) in
      let l : Lies profile zone command row = rw (same_row (row_of profile command) p.row row p.lies.there e) at p.lies in
      first_lies profile zone command (form_rules dir content) row l _ (lacks row (λ f. other (ap length (in_row row e) ∙ f)))

  pub same_checks_promise : SameChecksPromise profile dir zone command content
  same_checks_promise = record {
    row = λ n w l. (row_before profile zone command (data_rules dir l) n w, row_before profile zone command (form_rules dir content) n w);
    read = read;
    written = written;
    uncoded = uncoded;
  }
