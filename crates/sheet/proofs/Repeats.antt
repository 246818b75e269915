-- A line is repeated where any of the earlier lines has its zone and row.
use mathlib.Core.Path.{◌≡◌, refl, ap}
use mathlib.Core.Bool.{Bool, ◌||◌}
use mathlib.Core.List.{List, [], ◌∷◌}
use Rattle.std.specs.List.{list_any}
use Rattle.sheet.specs.Line.{same_cell, is_repeated}
use Rattle.sheet.specs.declared.line.Line.{Line}

pub repeated_any : (earlier : List Line) (l : Line) → list_any (λ (e : Line). same_cell e l) earlier ≡ is_repeated earlier l
unfolding is_repeated
repeated_any [] l = refl
repeated_any (e ∷ es) l = ap (λ (t : Bool). same_cell e l || t) (repeated_any es l)
