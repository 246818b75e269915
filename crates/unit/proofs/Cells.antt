-- Settings are told apart, and compared.
use Prim.Native.Nat.{ℕ}
use mathlib.Core.Path.{◌≡◌, refl, ap, fun_ext}
use mathlib.Core.Bool.{true}
use borrow.Author.Tests.{eq-eqb, eqb-true}
use lib.Dec.{eqb}
use Rattle.frame.proofs.Cases.{cases}
use Rattle.lists.proofs.Tests.{both}
use Rattle.unit.specs.Unit.{Setting, value, input, current, Settings, same_setting, put, Unit, compared, Holds}
use Rattle.unit.proofs.Tests.{clash}

pub is_cell : (x y : Setting) → same_setting x y ≡ true → x ≡ y
is_cell (value z c) (value z' c') e =
    let (zone, command) = both (eqb z z') (eqb c c') e in
    rw (eqb-true z z' zone, eqb-true c c' command)
is_cell (value z c) (input j) e = clash e
is_cell (value z c) current e = clash e
is_cell (input i) (value z c) e = clash e
is_cell (input i) (input j) e = ap input (eqb-true i j e)
is_cell (input i) current e = clash e
is_cell current (value z c) e = clash e
is_cell current (input j) e = clash e
is_cell current current e = refl

pub cell_self : (x : Setting) → same_setting x x ≡ true
cell_self (value z c) = rw (eq-eqb z z refl, eq-eqb c c refl)
cell_self (input i) = eq-eqb i i refl
cell_self current = refl

-- a cell with its own value again
pub put_same : (s : Settings) (x : Setting) → put s x (s x) ≡ s
put_same s x = fun_ext (λ y. cases (λ (v : ℕ). v ≡ s y) (same_setting x y) (λ e. ap s (is_cell x y e)) (λ e. refl))

-- the same value is held
pub holds_same : (u : Unit) (x : Setting) (v : ℕ) → u.settings x ≡ v → Holds u x v
holds_same u x v e = ap (compared u.profile x) e
