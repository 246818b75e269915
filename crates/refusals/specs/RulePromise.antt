-- Promise: "Each is given only when its line applies", and in the document's order. Of some rules either one is the first that
-- applies, and its refusal is given, or none applies, and the answer is the accepted one.
use Rattle.std.specs.Prelude.{◌≡◌, true, false, List, [], ◌∷◌, ◌⊎◌}
use Rattle.lists.specs.Each.{Each}
use Rattle.refusals.specs.declared.refusal.Refusal.{Refusal}
use Rattle.refusals.specs.Rule.{Rule, ruled}

-- a rule applies, none before it does, and this is its refusal
abbrev pub FirstApplies : List Rule → Refusal → Type 0
FirstApplies [] e = ⊥
FirstApplies (r ∷ rs) e = ((r.applies ≡ true) × (r.refusal ≡ e)) ⊎ ((r.applies ≡ false) × FirstApplies rs e)

abbrev pub NoneApplies : List Rule → Type 0
NoneApplies rs = Each (λ (r : Rule). r.applies ≡ false) rs

pub record RulePromise : Type 1 where
  pub either : (rs : List Rule) → ((e : Refusal) × FirstApplies rs e) ⊎ NoneApplies rs
  pub refused : {A : Type 0} (rs : List Rule) (e : Refusal) → FirstApplies rs e → (refuse : Refusal → A) (accepted : A) → ruled rs refuse accepted ≡ refuse e
  pub accepted : {A : Type 0} (rs : List Rule) → NoneApplies rs → (refuse : Refusal → A) (accepted : A) → ruled rs refuse accepted ≡ accepted
