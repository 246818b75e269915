-- A text as bytes: each letter by its code, which for the plain letters here is one byte.
use Rattle.std.specs.Prelude.{ℕ, List}
use Prim.Native.Char.{code}
use Prim.Native.String.{String, [], ◌∷◌}
use mathlib.Core.List as list

unfoldable pub letters : String → List ℕ
letters [] = list.[]
letters (c ∷ s) = list.◌∷◌ (code c) (letters s)
