-- Rules in their order: whether one refuses, and with which refusal (a list of none has any), whatever is answered.
use mathlib.Core.Path.{◌≡◌, refl, sym, ◌∙◌}
use mathlib.Core.Bool.{Bool, true, false, cond, ◌||◌}
use mathlib.Core.List.{List, [], ◌∷◌, ◌++◌}
use Rattle.refusals.specs.declared.refusal.Refusal.{Refusal}
use Rattle.refusals.specs.declared.refusal.Refusal.TheVariants.{WrongZone}
use Rattle.refusals.specs.Rule.{Rule, ruled}

abbrev pub refuses : List Rule → Bool
refuses [] = false
refuses (l ∷ ls) = l.applies || refuses ls

abbrev pub first_refused : List Rule → Refusal
first_refused [] = WrongZone
first_refused (l ∷ ls) = cond l.applies l.refusal (first_refused ls)

pub ruled_is : {A : Type 0} (ls : List Rule) (refused : Refusal → A) (accepted : A) → ruled ls refused accepted ≡ cond (refuses ls) (refused (first_refused ls)) accepted
ruled_is [] refused accepted = refl
ruled_is {A} (l ∷ ls) refused accepted = go l.applies (ruled_is ls refused accepted)
  where
    go : (t : Bool) → ruled ls refused accepted ≡ cond (refuses ls) (refused (first_refused ls)) accepted
        → cond t (refused l.refusal) (ruled ls refused accepted) ≡ cond (t || refuses ls) (refused (cond t l.refusal (first_refused ls))) accepted
    go true rest = refl
    go false rest = rest

-- rules after rules
pub ruled_append : {A : Type 0} (ls ms : List Rule) (refused : Refusal → A) (accepted : A) → ruled (ls ++ ms) refused accepted ≡ ruled ls refused (ruled ms refused accepted)
ruled_append [] ms refused accepted = refl
ruled_append {A} (l ∷ ls) ms refused accepted = go l.applies (ruled_append ls ms refused accepted)
  where
    go : (t : Bool) → ruled (ls ++ ms) refused accepted ≡ ruled ls refused (ruled ms refused accepted)
        → cond t (refused l.refusal) (ruled (ls ++ ms) refused accepted) ≡ cond t (refused l.refusal) (ruled ls refused (ruled ms refused accepted))
    go true rest = refl
    go false rest = rest

-- what an answer says of its rules: one that is not the accepted one was refused, and one that is no refusal was accepted
module _ {A : Type 0} (ls : List Rule) (refused : Refusal → A) (accepted : A) where
  pub was_refused : (x : A) → ruled ls refused accepted ≡ x → (accepted ≡ x → ⊥) → (refuses ls ≡ true) × (refused (first_refused ls) ≡ x)
  was_refused x e differs = go (refuses ls) (sym (ruled_is ls refused accepted) ∙ e)
    where
      go : (t : Bool) → cond t (refused (first_refused ls)) accepted ≡ x → (t ≡ true) × (refused (first_refused ls) ≡ x)
      go true f = (refl, f)
      go false f = absurd (differs f)

  pub was_accepted : (x : A) → ruled ls refused accepted ≡ x → ((n : Refusal) → refused n ≡ x → ⊥) → (refuses ls ≡ false) × (accepted ≡ x)
  was_accepted x e differs = go (refuses ls) (sym (ruled_is ls refused accepted) ∙ e)
    where
      go : (t : Bool) → cond t (refused (first_refused ls)) accepted ≡ x → (t ≡ false) × (accepted ≡ x)
      go true f = absurd (differs (first_refused ls) f)
      go false f = (refl, f)

  -- the same rules, whatever is answered
  pub refused_with : (n : Refusal) → refuses ls ≡ true → first_refused ls ≡ n → ruled ls refused accepted ≡ refused n
  refused_with n t e = ruled_is ls refused accepted ∙ rw (t, e)

  pub accepted_by : refuses ls ≡ false → ruled ls refused accepted ≡ accepted
  accepted_by t = ruled_is ls refused accepted ∙ rw t

-- rules that pass, one by one
pub or_false : (s t : Bool) → s || t ≡ false → (s ≡ false) × (t ≡ false)
or_false true t e = (e, cc)
or_false false t e = (refl, e)

pub pass_first : (l : Rule) (ls : List Rule) → refuses (l ∷ ls) ≡ false → (l.applies ≡ false) × (refuses ls ≡ false)
pass_first l ls e = or_false l.applies (refuses ls) e

pub pass_both : (l : Rule) (ls : List Rule) → l.applies ≡ false → refuses ls ≡ false → refuses (l ∷ ls) ≡ false
pass_both l ls e f = rw (e, f)

pub pass_append : (ls ms : List Rule) → refuses (ls ++ ms) ≡ false → (refuses ls ≡ false) × (refuses ms ≡ false)
pass_append [] ms e = (refl, e)
pass_append (l ∷ ls) ms e =
    let first = pass_first l (ls ++ ms) e in
    let rest = pass_append ls ms first.1 in
    (pass_both l ls first.0 rest.0, rest.1)

pub append_pass : (ls ms : List Rule) → refuses ls ≡ false → refuses ms ≡ false → refuses (ls ++ ms) ≡ false
append_pass [] ms e f = f
append_pass (l ∷ ls) ms e f = let first = pass_first l ls e in pass_both l (ls ++ ms) first.0 (append_pass ls ms first.1 f)
