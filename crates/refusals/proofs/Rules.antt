-- The first rule that applies refuses; where none applies, what is accepted is answered.
use mathlib.Core.Path.{◌≡◌, refl}
use mathlib.Core.Bool.{Bool, true, false}
use mathlib.Core.List.{List, [], ◌∷◌}
use mathlib.Core.Logic.{◌⊎◌, inl, inr}
use Rattle.refusals.specs.declared.refusal.Refusal.{Refusal}
use Rattle.refusals.specs.Rule.{Rule, ruled}
use Rattle.refusals.specs.RulePromise.{FirstApplies, NoneApplies, RulePromise}

either : (ls : List Rule) → ((n : Refusal) × FirstApplies ls n) ⊎ NoneApplies ls
either [] = inr tt
either (l ∷ ls) = go l.applies refl (either ls)
  where
    go : (t : Bool) → l.applies ≡ t → ((n : Refusal) × FirstApplies ls n) ⊎ NoneApplies ls → ((n : Refusal) × FirstApplies (l ∷ ls) n) ⊎ NoneApplies (l ∷ ls)
    go true e rest = inl (l.refusal, inl (e, refl))
    go false e (inl w) = inl (w.0, inr (e, w.1))
    go false e (inr w) = inr (e, w)

refused : {A : Type 0} (ls : List Rule) (n : Refusal) → FirstApplies ls n → (refuse : Refusal → A) (accepted : A) → ruled ls refuse accepted ≡ refuse n
refused [] n w refuse accepted = absurd w
refused (l ∷ ls) n (inl w) refuse accepted = rw (w.0, w.1)
refused (l ∷ ls) n (inr w) refuse accepted = rw w.0 (refused ls n w.1 refuse accepted)

accepted : {A : Type 0} (ls : List Rule) → NoneApplies ls → (refuse : Refusal → A) (answer : A) → ruled ls refuse answer ≡ answer
accepted [] w refuse answer = refl
accepted (l ∷ ls) w refuse answer = rw w.0 (accepted ls w.1 refuse answer)

pub rule_promise : RulePromise
rule_promise = record { either = either; refused = refused; accepted = accepted }
