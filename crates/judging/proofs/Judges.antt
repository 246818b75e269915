-- What a judgement says of its rules.
use mathlib.Core.Path.{◌≡◌, refl, ap, sym, ◌∙◌, subst}
use mathlib.Core.Bool.{Bool, true, false, cond, not, ◌&&◌, ◌||◌}
use mathlib.Core.Bool as bool
use mathlib.Core.List.{List, [], ◌∷◌}
use mathlib.Core.Logic.{inl, inr}
use Prim.Native.Nat.{ℕ, ◌<◌}
use native.Mathlib.Omega.{arith}
use borrow.Author.Tests.{eqb-true, eqb-false, not-true, not-false}
use lib.Dec.{eqb, ltb}
use lib.ListN.{length, get_or}
use Rattle.lists.specs.Each.{Each}
use Rattle.lists.proofs.Tests.{both}
use Rattle.refusals.specs.Rule.{Rule, rule, ruled}
use Rattle.refusals.specs.RulePromise.{FirstApplies}
use Rattle.frame.specs.declared.direction.Direction.{Direction}
use Rattle.frame.specs.declared.direction.Direction.TheVariants.{Command, Answer}
use Rattle.refusals.proofs.Ruled.{refuses, or_false, pass_first}
use Rattle.row.specs.Profile.{zones_of}
use Rattle.row.specs.Table.{row_of}
use Rattle.row.specs.declared.profile.Profile.{Profile}
use Rattle.row.specs.declared.table.Row.{Row}
use Rattle.judging.specs.Judge.{has_byte, has_length, has_value, wrong_profile_zone, wrong_row_zone, wrong_length, is_step_or_request, lacks_step, value_rules, value_refusal, by_row, row_rules, data_rules, judge_rules, judged_by, row_judged, judged_of}
use Rattle.std.specs.Prelude.{Err, None, Ok, Option, Some}
use Rattle.refusals.specs.declared.refusal.Refusal.{Refusal}
use Rattle.refusals.specs.declared.refusal.Refusal.TheVariants.{NoRow, NoStep, WrongLength, WrongValue, WrongZone}

-- one row is found
pub same_row : (f : Option Row) (row other : Row) → f ≡ Some row → f ≡ Some other → row ≡ other
same_row f row other e g = cc

module _ (profile : Profile) (zone command : ℕ) where
  abbrev outside : Bool
  outside = eqb zone 0 || ltb (zones_of profile) zone

  -- zone and row are legal
  pub record Lies (row : Row) : Type 0 where
    pub there : row_of profile command ≡ Some row
    pub within : outside ≡ false
    pub reaches : ltb row.zones zone ≡ false

  -- then what goes by rules of the row goes by those behind zone and row
  pub lies_goes : (row : Row) → Lies row → {A : Type 0} (more : Row → List Rule) (refuse : Refusal → A) (accepted : A)
      → ruled (row_rules profile zone command more) refuse accepted ≡ ruled (more row) refuse accepted
  lies_goes row l more refuse accepted = rw (l.there, l.within, l.reaches)

  pub lies_refuses : (row : Row) → Lies row → (more : Row → List Rule) → refuses (row_rules profile zone command more) ≡ refuses (more row)
  lies_refuses row l more = rw (l.there, l.within, l.reaches)

  pub lies_judged : (row : Row) → Lies row → row_judged profile zone command ≡ Ok row
  unfolding row_judged
  lies_judged row l = rw (l.there, l.within, l.reaches)

  pub judged_lies : (row : Row) → row_judged profile zone command ≡ Ok row → Lies row
  unfolding row_judged
  judged_lies row e = go outside (row_of profile command) refl refl e
    where
      half : (r : Row) (t : Bool) → outside ≡ false → row_of profile command ≡ Some r → ltb r.zones zone ≡ t → cond t (Err WrongZone) (Ok r) ≡ Ok row → Lies row
      half r true p q z g = cc
      half r false p q z g = let same : r ≡ row = cc in record { there = q ∙ ap Some same; within = p; reaches = rw (← same) z }

      go : (t : Bool) (f : Option Row) → outside ≡ t → row_of profile command ≡ f
          → cond t (Err WrongZone) (ruled (by_row f (λ r. wrong_row_zone r zone ∷ [])) Err (judged_by f)) ≡ Ok row → Lies row
      go true f p q g = cc
      go false None p q g = cc
      go false (Some r) p q g = half r (ltb r.zones zone) p q refl g

  pub row_refused : (n : Refusal) → row_judged profile zone command ≡ Err n → {A : Type 0} (more : Row → List Rule) (refuse : Refusal → A) (accepted : A)
      → ruled (row_rules profile zone command more) refuse accepted ≡ refuse n
  unfolding row_judged
  row_refused n e {A} more refuse accepted = go outside (row_of profile command) e
    where
      half : (r : Row) (t : Bool) → cond t (Err WrongZone) (Ok r) ≡ Err n → cond t (refuse WrongZone) (ruled (more r) refuse accepted) ≡ refuse n
      half r true g = cc
      half r false g = cc

      go : (t : Bool) (f : Option Row) → cond t (Err WrongZone) (ruled (by_row f (λ r. wrong_row_zone r zone ∷ [])) Err (judged_by f)) ≡ Err n
          → cond t (refuse WrongZone) (ruled (by_row f (λ r. wrong_row_zone r zone ∷ more r)) refuse accepted) ≡ refuse n
      go true f g = cc
      go false None g = cc
      go false (Some r) g = half r (ltb r.zones zone) g

  -- rules of a row that pass
  pub record RowPasses (more : Row → List Rule) : Type 0 where
    pub row : Row
    pub lies : Lies row
    pub rest : refuses (more row) ≡ false

  pub pass_row : (more : Row → List Rule) → refuses (row_rules profile zone command more) ≡ false → RowPasses more
  pass_row more e = go (row_of profile command) refl e
    where
      go : (f : Option Row) → row_of profile command ≡ f → refuses (wrong_profile_zone profile zone ∷ by_row f (λ r. wrong_row_zone r zone ∷ more r)) ≡ false → RowPasses more
      go None q g = let two = (pass_first (wrong_profile_zone profile zone) (rule NoRow true ∷ []) g).1 in cc
      go (Some r) q g =
          let one = pass_first (wrong_profile_zone profile zone) (wrong_row_zone r zone ∷ more r) g in
          let two = pass_first (wrong_row_zone r zone) (more r) one.1 in
          record { row = r; lies = record { there = q; within = one.0; reaches = two.0 }; rest = two.1 }

-- a step or request that a row lacks is a value that it lacks
pub lacks_value : (row : Row) (body : List ℕ) → lacks_step row body ≡ true → has_value Command row body ≡ false
lacks_value row body e =
    let byte = get_or body 0 0 in
    let (one, rest) = both (eqb (length body) 1) (is_step_or_request byte && not (has_byte Command row byte)) e in
    let lacks = (both (is_step_or_request byte) (not (has_byte Command row byte)) rest).1 in
    rw (eqb-true (length body) 1 one, not-true (has_byte Command row byte) lacks)

-- rules of a length, and at 4's place of unfit data: these give their one number, where a value that the row lacks is unfit
module _ (row : Row) (n : ℕ) (body : List ℕ) (unfit : Bool) where
  pub value_goes : (dir : Direction) → (has_value dir row body ≡ false → unfit ≡ true) → {A : Type 0} (refuse : Refusal → A) (accepted : A)
      → ruled (wrong_length dir row n ∷ value_rules dir row body unfit) refuse accepted
      ≡ cond (not (has_length dir row n)) (refuse WrongLength) (cond unfit (refuse (value_refusal dir row body)) accepted)
  value_goes Answer covers refuse accepted = refl
  value_goes Command covers refuse accepted = ap (cond (not (has_length Command row n)) (refuse WrongLength)) (go (lacks_step row body) unfit (λ e. covers (lacks_value row body e)))
    where
      go : (t w : Bool) → (t ≡ true → w ≡ true) → cond t (refuse NoStep) (cond (w && not t) (refuse WrongValue) accepted) ≡ cond w (refuse (cond t NoStep (cond (not t) WrongValue WrongValue))) accepted
      go true true f = refl
      go true false f = let z = f refl in cc
      go false true f = refl
      go false false f = refl

  pub value_refuses : (dir : Direction) → (has_value dir row body ≡ false → unfit ≡ true)
      → refuses (wrong_length dir row n ∷ value_rules dir row body unfit) ≡ not (has_length dir row n) || unfit
  value_refuses Answer covers = rw (bool.or-false unfit)
  value_refuses Command covers = ap (◌||◌ (not (has_length Command row n))) (go (lacks_step row body) unfit (λ e. covers (lacks_value row body e)))
    where
      go : (t w : Bool) → (t ≡ true → w ≡ true) → t || (w && not t || false) ≡ w
      go true w f = sym (f refl)
      go false true f = refl
      go false false f = refl

-- what is judged legal: its row, and that length and value are the row's
pub record Passes (profile : Profile) (dir : Direction) (zone command : ℕ) (body : List ℕ) : Type 0 where
  pub row : Row
  pub lies : Lies profile zone command row
  pub long : has_length dir row (length body) ≡ true
  pub value : has_value dir row body ≡ true

module _ (profile : Profile) (dir : Direction) (zone command : ℕ) (body : List ℕ) where
  -- data whose value the row lacks are unfit
  abbrev unfit : Row → Bool
  unfit row = not (has_value dir row body)

  -- a judgement goes on from that of zone and row
  pub judge_refused : (n : Refusal) → row_judged profile zone command ≡ Err n → judged_of profile dir zone command body ≡ Err n
  unfolding judged_of
  judge_refused n e = row_refused profile zone command n e (data_rules dir body) Err _

  pub judge_legal : (row : Row) → row_judged profile zone command ≡ Ok row
      → judged_of profile dir zone command body ≡ cond (not (has_length dir row (length body))) (Err WrongLength) (cond (unfit row) (Err (value_refusal dir row body)) (Ok row))
  unfolding judged_of
  judge_legal row e =
      let l = judged_lies profile zone command row e in
      lies_goes profile zone command row l (data_rules dir body) Err _ ∙ value_goes row (length body) body (unfit row) dir (ap not) Err _ ∙ rw l.there

  pub judge_passes : refuses (judge_rules profile dir zone command body) ≡ false → Passes profile dir zone command body
  judge_passes e =
      let p = pass_row profile zone command (data_rules dir body) e in
      let row = p.row in
      let (long, value) = or_false (not (has_length dir row (length body))) (unfit row) (sym (value_refuses row (length body) body (unfit row) dir (ap not)) ∙ p.rest) in
      record { row = row; lies = p.lies; long = not-false _ long; value = not-false _ value }

  pub passes_judge : (row : Row) → Lies profile zone command row → has_length dir row (length body) ≡ true → has_value dir row body ≡ true
      → refuses (judge_rules profile dir zone command body) ≡ false
  passes_judge row l long value =
      lies_refuses profile zone command row l (data_rules dir body) ∙ value_refuses row (length body) body (unfit row) dir (ap not) ∙ rw (long, value)

-- what holds of each rule's refusal holds of that of the first that applies; of rules of a row it is asked of two beside the row's
-- own, and of what judges data of 3 as well, and of the refusals at 4's place
pub first_number_lem : (P : Refusal → Type 0) (rs : List Rule) → Each (λ (r : Rule). P r.refusal) rs → (n : Refusal) → FirstApplies rs n → P n
first_number_lem P [] e n w = absurd w
first_number_lem P (r ∷ rs) e n (inl w) = subst P w.1 e.0
first_number_lem P (r ∷ rs) e n (inr w) = first_number_lem P rs e.1 n w.1

pub row_numbers : (P : Refusal → Type 0) → P WrongZone → P NoRow → (profile : Profile) (zone command : ℕ) (more : Row → List Rule) → ((row : Row) → Each (λ (r : Rule). P r.refusal) (more row))
    → Each (λ (r : Rule). P r.refusal) (row_rules profile zone command more)
row_numbers P one two profile zone command more rest = go (row_of profile command)
  where
    go : (f : Option Row) → Each (λ (r : Rule). P r.refusal) (wrong_profile_zone profile zone ∷ by_row f (λ row. wrong_row_zone row zone ∷ more row))
    go None = (one, (two, tt))
    go (Some row) = (one, (one, rest row))

abbrev pub value_numbers : Direction → List Refusal
value_numbers Command = NoStep ∷ WrongValue ∷ []
value_numbers Answer = WrongValue ∷ []

pub value_numbers_lem : (P : Refusal → Type 0) (dir : Direction) → Each P (value_numbers dir) → (row : Row) (body : List ℕ) (unfit : Bool)
    → Each (λ (r : Rule). P r.refusal) (value_rules dir row body unfit)
value_numbers_lem P Command each row body unfit = each
value_numbers_lem P Answer each row body unfit = each

pub judge_numbers : (P : Refusal → Type 0) → P WrongZone → P NoRow → P WrongLength → (profile : Profile) (dir : Direction) → Each P (value_numbers dir) → (zone command : ℕ) (body : List ℕ)
    → Each (λ (r : Rule). P r.refusal) (judge_rules profile dir zone command body)
judge_numbers P one two three profile dir each zone command body =
    row_numbers P one two profile zone command (data_rules dir body) (λ row. (three, value_numbers_lem P dir each row body (not (has_value dir row body))))

-- data whose length fits are not empty
pub length_some : (dir : Direction) (row : Row) (n : ℕ) → has_length dir row n ≡ true → 0 < n
length_some dir row n e = go (eqb n 0) refl
  where
    go : (t : Bool) → eqb n 0 ≡ t → 0 < n
    go true f = let z : false ≡ true = sym (ap (λ (k : ℕ). has_length dir row k) (eqb-true n 0 f)) ∙ e in cc
    go false f = omega (arith, eqb-false n 0 f)
