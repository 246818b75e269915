-- The definition's reader: where it can stand, and how bytes fill the places of a frame.
use mathlib.Core.Path.{◌≡◌, refl, ap, sym, ◌∙◌, subst}
use mathlib.Core.Bool.{Bool, true, false, cond}
use mathlib.Core.List.{List, [], ◌∷◌, ◌++◌, append_assoc, append-nil}
use Prim.Native.Nat.{ℕ, suc, ◌+◌, ◌-◌, ◌≤◌, ◌<◌}
use native.Mathlib.Omega.{arith}
use borrow.Author.Tests.{eq-eqb, ne_eqb, le-leb, lt-leb, leb-true, leb-false, eqb-true, eqb-false, ltb-true, ltb-false}
use lib.Dec.{eqb, leb, ltb}
use lib.ListN.{length, replicate, length-append, get_or-eq_default, get_or-append}
use lib.Seq.{get_or_at}
use Rattle.frame.specs.Frame.{header, opens, ends, dl}
use Rattle.frame.specs.Reader.{at_end, answer_to, taken_after, answers, taken_by}
use Rattle.frame.specs.declared.direction.Direction.{Direction}
use Rattle.frame.specs.declared.reader.ByteAnswer.{ByteAnswer}
use Rattle.frame.specs.declared.reader.ByteAnswer.TheVariants.{Waiting, Noise, Frame, Broken}
use Rattle.frame.proofs.Header.{header_least}
use Rattle.streams.specs.Stream.{answers_by, reader_by}

-- Dl of what is taken, with more bytes behind it
pub dl_none : (dir : Direction) (taken : List ℕ) → length taken < header dir → dl dir taken ≡ 0
dl_none dir taken h = get_or-eq_default taken 0 {n = header dir - 1} (omega arith)

pub dl_more : (dir : Direction) (taken more : List ℕ) → header dir ≤ length taken → dl dir (taken ++ more) ≡ dl dir taken
dl_more dir taken more h = get_or-append taken more 0 (header dir - 1) (omega (arith, header_least dir))

pub dl_now : (dir : Direction) (taken : List ℕ) (b : ℕ) (more : List ℕ) → length taken + 1 ≡ header dir → dl dir (taken ++ b ∷ more) ≡ b
dl_now dir taken b more h = get_or_at taken b more 0 (header dir - 1) (omega arith)

-- it has taken no more bytes than the frame has before its end place
abbrev pub Stands : Direction → List ℕ → Type 0
Stands dir taken = length taken ≤ header dir + dl dir taken

-- what stands before all of a frame's places are filled is not at the end place
before_end : (dir : Direction) (taken : List ℕ) (b : ℕ) (more : List ℕ) → Stands dir (taken ++ b ∷ more) → length taken < header dir + dl dir taken
before_end dir taken b more s = go (leb (header dir) (length taken)) refl
  where
    all : length (taken ++ b ∷ more) ≡ length taken + suc (length more)
    all = length-append taken (b ∷ more)

    go : (t : Bool) → leb (header dir) (length taken) ≡ t → length taken < header dir + dl dir taken
    go true e = omega (arith, leb-true (header dir) (length taken) e, all, dl_more dir taken (b ∷ more) (leb-true _ _ e))
    go false e = omega (arith, leb-false (header dir) (length taken) e)

-- how a byte is taken: outside, inside, and at the end place
module _ (dir : Direction) (taken : List ℕ) (b : ℕ) where
  pub taken_outside : length taken ≡ 0
      → (answer_to dir taken b ≡ cond (eqb b opens) Waiting Noise) × (taken_after dir taken b ≡ cond (eqb b opens) (b ∷ []) [])
  unfolding answer_to taken_after
  taken_outside h = (rw (eq-eqb (length taken) 0 h), rw (eq-eqb (length taken) 0 h))

  pub taken_inside : 0 < length taken → length taken < header dir + dl dir taken
      → (answer_to dir taken b ≡ Waiting) × (taken_after dir taken b ≡ taken ++ b ∷ [])
  unfolding answer_to taken_after
  taken_inside some early =
      let inside : eqb (length taken) 0 ≡ false = ne_eqb (length taken) 0 (omega arith) in
      let before : at_end dir taken ≡ false = lt-leb (header dir + dl dir taken) (length taken) early in
      (rw (inside, before), rw (inside, before))

  pub taken_end : 0 < length taken → header dir + dl dir taken ≤ length taken
      → (answer_to dir taken b ≡ cond (eqb b ends) (Frame (length taken + 1)) (cond (eqb b opens) (Broken (length taken)) (Broken (length taken + 1))))
      × (taken_after dir taken b ≡ cond (eqb b opens) (b ∷ []) [])
  unfolding answer_to taken_after
  taken_end some full =
      let inside : eqb (length taken) 0 ≡ false = ne_eqb (length taken) 0 (omega arith) in
      let end : at_end dir taken ≡ true = le-leb (header dir + dl dir taken) (length taken) full in
      (rw (inside, end), rw (inside, end))

-- "inside, bytes fill the places in order": the answers are waiting, and the bytes are taken
pub fills : (dir : Direction) (taken xs ys : List ℕ) → 0 < length taken → Stands dir (taken ++ xs)
    → (answers dir taken (xs ++ ys) ≡ replicate (length xs) Waiting ++ answers dir (taken ++ xs) ys) × (taken_by dir taken (xs ++ ys) ≡ taken_by dir (taken ++ xs) ys)
unfolding answers_by reader_by
fills dir taken [] ys some s = (rw (append-nil taken), rw (append-nil taken))
fills dir taken (x ∷ xs) ys some s =
    let step = taken_inside dir taken x some (before_end dir taken x xs s) in
    let same : (taken ++ x ∷ []) ++ xs ≡ taken ++ x ∷ xs = append_assoc taken (x ∷ []) xs in
    let ih = fills dir (taken ++ x ∷ []) xs ys (omega (arith, length-append taken (x ∷ []))) (rw same s) in (
      ap (λ (a : ByteAnswer). a ∷ answers dir (taken_after dir taken x) (xs ++ ys)) step.0
          ∙ ap (λ (l : List ByteAnswer). Waiting ∷ l)
          (ap (λ (l : List ℕ). answers dir l (xs ++ ys)) step.1
          ∙ ih.0
          ∙ ap (λ (l : List ℕ). replicate (length xs) Waiting ++ answers dir l ys) same),
      ap (λ (l : List ℕ). taken_by dir l (xs ++ ys)) step.1 ∙ ih.1 ∙ ap (λ (l : List ℕ). taken_by dir l ys) same,
    )

-- a reader never takes more than the frame has before its end place
pub stands_after : (dir : Direction) (taken : List ℕ) (b : ℕ) → Stands dir taken → Stands dir (taken_after dir taken b)
stands_after dir taken b s = go (eqb (length taken) 0) (ltb (length taken) (header dir + dl dir taken)) refl refl
  where
    few : (t : Bool) → Stands dir (cond t (b ∷ []) [])
    few true = omega (arith, header_least dir)
    few false = omega (arith, header_least dir)

    more : (t : Bool) → leb (header dir) (length taken) ≡ t → length taken < header dir + dl dir taken → Stands dir (taken ++ b ∷ [])
    more true e early = omega (arith, length-append taken (b ∷ []), dl_more dir taken (b ∷ []) (leb-true _ _ e))
    more false e early = omega (arith, length-append taken (b ∷ []), leb-false (header dir) (length taken) e)

    stand : {l : List ℕ} → taken_after dir taken b ≡ l → Stands dir l → Stands dir (taken_after dir taken b)
    stand e t = subst (λ (l : List ℕ). Stands dir l) (sym e) t

    go : (t u : Bool) → eqb (length taken) 0 ≡ t → ltb (length taken) (header dir + dl dir taken) ≡ u → Stands dir (taken_after dir taken b)
    go true u e f = stand (taken_outside dir taken b (eqb-true _ _ e)).1 (few (eqb b opens))
    go false true e f =
        stand (taken_inside dir taken b (omega (arith, eqb-false (length taken) 0 e)) (ltb-true _ _ f)).1 (more (leb (header dir) (length taken)) refl (ltb-true _ _ f))
    go false false e f =
        stand (taken_end dir taken b (omega (arith, eqb-false (length taken) 0 e)) (ltb-false _ _ f)).1 (few (eqb b opens))

pub stands_by : (dir : Direction) (taken bs : List ℕ) → Stands dir taken → Stands dir (taken_by dir taken bs)
unfolding reader_by
stands_by dir taken [] s = s
stands_by dir taken (b ∷ bs) s = stands_by dir (taken_after dir taken b) bs (stands_after dir taken b s)
