-- The shared law of contracts: an answer that is fixed by an equation, alone or beside the lent bytes.
use mathlib.Core.Path.{◌≡◌, sym, ◌∙◌}
use Rattle.refusals.specs.OneAnswer.{OneAnswer}

pub one : {A : Type 0} (v : A) → OneAnswer (λ (x : A). x ≡ v)
one v = λ x y p q. p ∙ sym q

pub one_lent : {A B : Type 0} (v : A) (w : B) → OneAnswer (λ (x : A × B). (x.0 ≡ v) × (x.1 ≡ w))
one_lent v w = λ x y p q i. (one v x.0 y.0 p.0 q.0 i, one w x.1 y.1 p.1 q.1 i)
