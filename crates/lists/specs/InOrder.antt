-- What the elements of a list give, one after the other.
use Rattle.std.specs.Prelude.{List, [], ◌∷◌, ◌++◌}

unfoldable pub in_order : {A B : Type 0} → (A → List B) → List A → List B
in_order gives [] = []
in_order gives (x ∷ xs) = gives x ++ in_order gives xs

-- lists, one behind the other
abbrev pub joined : {A : Type 0} → List (List A) → List A
joined {A} lists = in_order (λ (l : List A). l) lists
