-- What two lists give, one behind the other, and where two ways to give agree.
use mathlib.Core.Path.{◌≡◌, refl, sym, ap, ◌∙◌}
use mathlib.Core.List.{List, [], ◌∷◌, ◌++◌, append_assoc}
use Rattle.lists.specs.InOrder.{in_order}

pub in_order_append : {A B : Type 0} (gives : A → List B) (xs ys : List A) → in_order gives (xs ++ ys) ≡ in_order gives xs ++ in_order gives ys
unfolding in_order
in_order_append gives [] ys = refl
in_order_append gives (x ∷ xs) ys = ap (λ (l : List _). gives x ++ l) (in_order_append gives xs ys) ∙ sym (append_assoc (gives x) (in_order gives xs) (in_order gives ys))
