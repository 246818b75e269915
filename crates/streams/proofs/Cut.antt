-- A stream cut in two, and so in any parts.
use mathlib.Core.Path.{◌≡◌, refl, sym, ap, ◌∙◌}
use mathlib.Core.List.{List, [], ◌∷◌, ◌++◌}
use Prim.Native.Nat.{ℕ}
use Rattle.lists.specs.InOrder.{in_order, joined}
use Rattle.streams.specs.Stream.{answers_by, reader_by}
use Rattle.streams.specs.CutPromise.{answers_in_parts, reader_in_parts, CutPromise}

pub answers_append : {R A : Type 0} (next : R → ℕ → R) (answer : R → ℕ → A) (r : R) (xs ys : List ℕ)
    → answers_by next answer r (xs ++ ys) ≡ answers_by next answer r xs ++ answers_by next answer (reader_by next r xs) ys
unfolding answers_by reader_by
answers_append next answer r [] ys = refl
answers_append {A = A} next answer r (x ∷ xs) ys = ap (λ (l : List A). answer r x ∷ l) (answers_append next answer (next r x) xs ys)

pub reader_append : {R : Type 0} (next : R → ℕ → R) (r : R) (xs ys : List ℕ) → reader_by next r (xs ++ ys) ≡ reader_by next (reader_by next r xs) ys
unfolding reader_by
reader_append next r [] ys = refl
reader_append next r (x ∷ xs) ys = reader_append next (next r x) xs ys

answers_cut : {R A : Type 0} (next : R → ℕ → R) (answer : R → ℕ → A) (r : R) (parts : List (List ℕ))
    → answers_in_parts next answer r parts ≡ answers_by next answer r (joined parts)
unfolding answers_by in_order
answers_cut next answer r [] = refl
answers_cut {A = A} next answer r (p ∷ ps) =
    ap (λ (l : List A). answers_by next answer r p ++ l) (answers_cut next answer (reader_by next r p) ps) ∙ sym (answers_append next answer r p (joined ps))

reader_cut : {R : Type 0} (next : R → ℕ → R) (r : R) (parts : List (List ℕ)) → reader_in_parts next r parts ≡ reader_by next r (joined parts)
unfolding reader_by in_order
reader_cut next r [] = refl
reader_cut next r (p ∷ ps) = reader_cut next (reader_by next r p) ps ∙ sym (reader_append next r p (joined ps))

pub cut_promise : {R A : Type 0} (next : R → ℕ → R) (answer : R → ℕ → A) → CutPromise next answer
cut_promise next answer = record { answers = answers_cut next answer; reader = reader_cut next }
