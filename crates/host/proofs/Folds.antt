-- Lines brought together, one after another.
use mathlib.Core.Path.{◌≡◌, refl}
use mathlib.Core.List.{List, [], ◌∷◌, ◌++◌}
use Rattle.sheet.specs.Sheet.{with_line, with_all}
use Rattle.sheet.specs.declared.line.Line.{Line}
use Rattle.sheet.specs.declared.sheet.Sheet.{Sheet}

pub fold_none : (s : Sheet) → s ≡ with_all s []
unfolding with_all
fold_none s = refl

pub fold_more : (s : Sheet) (ls : List Line) (l : Line) → with_all s (ls ++ l ∷ []) ≡ with_line (with_all s ls) l
unfolding with_all
fold_more s [] l = refl
fold_more s (k ∷ ls) l = fold_more (with_line s k) ls l
