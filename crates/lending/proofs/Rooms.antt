-- A sheet's list in an array: what is lent of it is brought together as the sheet's own list is.
use mathlib.Core.Path.{◌≡◌, refl, sym, ap, ◌∙◌}
use mathlib.Core.Bool.{Bool, true, false}
use mathlib.Core.List.{List, [], ◌∷◌, ◌++◌}
use Prim.Native.Nat.{ℕ, zero, suc, ◌+◌, ◌-◌, ◌≤◌, ◌<◌}
use native.Mathlib.Nat.{zero-add}
use native.Mathlib.Omega.{arith}
use lib.Dec.{leb, ltb}
use lib.ListN.{length, take, replicate, length-append}
use lib.Seq.{take_all, take-append-le, take-append-add}
use borrow.Author.Tests.{le-leb, lt-leb, le-ltb, leb-true, leb-false}
use Rattle.sheet.specs.Sheet.{sheet_limit, no_line, no_lines, with_line, with_all, lines_of}
use Rattle.sheet.specs.declared.line.Line.{Line}
use Rattle.sheet.specs.declared.sheet.Sheet.{Sheet}
use Rattle.sheet.proofs.Faults.{first_short}
use Rattle.lending.specs.Room.{room_limit, room_of, count_of}

-- lines brought to a sheet one after another
all_append : (s : Sheet) (xs ys : List Line) → with_all s (xs ++ ys) ≡ with_all (with_all s xs) ys
unfolding with_all
all_append s [] ys = refl
all_append s (x ∷ xs) ys = all_append (with_line s x) xs ys

one_more : (s : Sheet) (l : Line) → s.count < sheet_limit → (with_line s l).count ≡ s.count + 1
unfolding with_line
one_more s l h = rw (lt-leb sheet_limit s.count h)

counted : (ls : List Line) (s : Sheet) → s.count + length ls ≤ sheet_limit → (with_all s ls).count ≡ s.count + length ls
unfolding with_all
counted [] s h = omega arith
counted (l ∷ ls) s h =
    let more : (with_line s l).count ≡ s.count + 1 = one_more s l (omega arith) in
    counted ls (with_line s l) (omega arith) ∙ omega arith

past : (s : Sheet) (l : Line) → sheet_limit ≤ s.count → with_line s l ≡ record { count = room_limit; lines = s.lines }
unfolding with_line
past s l h = rw (le-leb sheet_limit s.count h)

stays : (ls kept : List Line) → with_all (record { count = room_limit; lines = kept }) ls ≡ record { count = room_limit; lines = kept }
unfolding with_all
stays [] kept = refl
stays (l ∷ ls) kept = ap (λ (s : Sheet). with_all s ls) (past (record { count = room_limit; lines = kept }) l (omega arith)) ∙ stays ls kept

-- past a full sheet's lines one more line counts, and no other
full : (kept : List Line) (l : Line) (ls : List Line) → length kept ≡ sheet_limit → with_all no_lines (kept ++ l ∷ ls) ≡ record { count = room_limit; lines = (with_all no_lines kept).lines }
unfolding with_all
full kept l ls long =
    all_append no_lines kept (l ∷ ls)
    ∙ ap (λ (s : Sheet). with_all s ls) (past (with_all no_lines kept) l (omega (arith, counted kept no_lines (omega (arith, zero-add (length kept))), zero-add (length kept))))
    ∙ stays ls (with_all no_lines kept).lines

begins : (n m : ℕ) → 0 < n → 0 < m → (ls : List Line) × (take n (replicate m no_line) ≡ no_line ∷ ls)
begins zero m h k = absurd (omega arith)
begins (suc n) zero h k = absurd (omega arith)
begins (suc n) (suc m) h k = (take n (replicate m no_line), refl)

-- the list that is lent, within the limit and past it
lent_short : (s : Sheet) → length s.lines ≡ sheet_limit → s.count ≤ sheet_limit → take (count_of s) (room_of s) ≡ lines_of s
unfolding count_of room_of
lent_short s long h =
    rw (le-ltb room_limit s.count (omega arith))
    (take-append-le s.count s.lines (no_line ∷ []) (omega arith) ∙ sym (first_short s.lines s.count (omega arith)))

lent_all : (s : Sheet) → length s.lines ≡ sheet_limit → sheet_limit < s.count → take (count_of s) (room_of s) ≡ s.lines ++ no_line ∷ []
unfolding count_of room_of
lent_all s long h = go (ltb room_limit s.count) refl
  where
    go : (t : Bool) → ltb room_limit s.count ≡ t → take (count_of s) (room_of s) ≡ s.lines ++ no_line ∷ []
    go true e = rw e (take_all room_limit (s.lines ++ no_line ∷ []) (omega (arith, length-append s.lines (no_line ∷ []))))
    go false e = rw e (take_all s.count (s.lines ++ no_line ∷ []) (omega (arith, length-append s.lines (no_line ∷ []))))

longer : (s : Sheet) → length s.lines ≡ sheet_limit → sheet_limit < s.count → (ls : List Line) × (lines_of s ≡ s.lines ++ no_line ∷ ls)
longer s long h =
    let more = s.count - sheet_limit in
    let b = begins more s.count (omega arith) (omega arith) in
    let split : s.count ≡ length s.lines + more = omega arith in (
      b.0,
      ap (λ (n : ℕ). take n (s.lines ++ replicate s.count no_line)) split ∙ take-append-add s.lines (replicate s.count no_line) more
          ∙ ap (λ (ls : List Line). s.lines ++ ls) b.1,
    )

-- what is lent is brought together as the sheet's own list is, so whatever answers for lines brought together answers alike
pub brought : (s : Sheet) → length s.lines ≡ sheet_limit → with_all no_lines (take (count_of s) (room_of s)) ≡ with_all no_lines (lines_of s)
brought s long = go (leb s.count sheet_limit) refl
  where
    go : (t : Bool) → leb s.count sheet_limit ≡ t → with_all no_lines (take (count_of s) (room_of s)) ≡ with_all no_lines (lines_of s)
    go true e = ap (with_all no_lines) (lent_short s long (leb-true _ _ e))
    go false e =
        let h : sheet_limit < s.count = leb-false _ _ e in
        ap (with_all no_lines) (lent_all s long h) ∙ full s.lines no_line [] long ∙ sym (full s.lines no_line (longer s long h).0 long) ∙ ap (with_all no_lines) (sym (longer s long h).1)
