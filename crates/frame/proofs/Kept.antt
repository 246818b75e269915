-- The reader that the code keeps follows the definition's reader.
use mathlib.Core.Path.{◌≡◌, refl, ap, ◌∙◌}
use mathlib.Core.Bool.{Bool, true, false, cond}
use mathlib.Core.List.{List, [], ◌∷◌, ◌++◌}
use Prim.Native.Nat.{ℕ, ◌+◌, ◌≤◌, ◌<◌}
use native.Mathlib.Omega.{arith}
use borrow.Author.Tests.{eq-eqb, ne_eqb, lt-ltb, le-ltb, eqb-true, eqb-false, ltb-true, ltb-false}
use lib.Dec.{eqb, ltb}
use lib.ListN.{length, length-append}
use Rattle.frame.specs.Frame.{header, opens, ends, dl}
use Rattle.frame.specs.Reader.{answer_to, taken_after, answers, taken_by}
use Rattle.frame.specs.KeptReader.{reader_of, stood, fed_at, fed_of, answers_of, reader_after}
use Rattle.frame.specs.declared.direction.Direction.{Direction}
use Rattle.frame.specs.declared.reader.ByteAnswer.{ByteAnswer}
use Rattle.frame.specs.declared.reader.ByteAnswer.TheVariants.{Waiting, Noise, Frame, Broken}
use Rattle.frame.specs.declared.reader.Fed.{Fed}
use Rattle.frame.proofs.Header.{header_least}
use Rattle.frame.proofs.Taken.{Stands, dl_none, dl_more, dl_now, taken_outside, taken_inside, taken_end, stands_after}
use Rattle.streams.specs.Stream.{answers_by, reader_by}

-- one byte: the same answer, and the reader kept of what is taken then
unfoldable pub Follows : Direction → List ℕ → ℕ → Type 0
Follows dir taken b = fed_of (reader_of dir taken) b ≡ record { reader = reader_of dir (taken_after dir taken b); answer = answer_to dir taken b }

module _ (dir : Direction) (taken : List ℕ) (b : ℕ) where
  inside : 0 < length taken → eqb (length taken) 0 ≡ false
  inside some = ne_eqb (length taken) 0 (omega arith)

  -- what is kept of one byte, or of none
  opened : (t : Bool) → reader_of dir (cond t (b ∷ []) []) ≡ record { direction = dir; place = cond t 1 0; dl = 0 }
  opened true = rw (dl_none dir (b ∷ []) (omega (arith, header_least dir)))
  opened false = rw (dl_none dir [] (omega (arith, header_least dir)))

  follows_outside : length taken ≡ 0 → Follows dir taken b
  unfolding Follows fed_at
  follows_outside h =
      let step = taken_outside dir taken b h in
      rw (step.0, step.1, opened (eqb b opens), eq-eqb (length taken) 0 h)
      (elim (eqb b opens) as (λ t. cond t (stood dir 1 0 Waiting) (stood dir 0 0 Noise) ≡ stood dir (cond t 1 0) 0 (cond t Waiting Noise)) [ true ↦ refl | false ↦ refl ])

  -- inside: the place is filled
  follows_inside : 0 < length taken → length taken < header dir + dl dir taken → (count : ℕ) → dl dir (taken ++ b ∷ []) ≡ count
      → fed_of (reader_of dir taken) b ≡ stood dir (length taken + 1) count Waiting → Follows dir taken b
  unfolding Follows
  follows_inside some early count now e =
      let step = taken_inside dir taken b some early in
      e ∙ rw (step.0, step.1, length-append taken (b ∷ []), now)

  follows_header : 0 < length taken → length taken < header dir → Follows dir taken b
  unfolding fed_at
  follows_header some h = go (eqb (length taken + 1) (header dir)) refl
    where
      early : length taken < header dir + dl dir taken
      early = omega arith

      go : (t : Bool) → eqb (length taken + 1) (header dir) ≡ t → Follows dir taken b
      go true e =
          follows_inside some early b (dl_now dir taken b [] (eqb-true _ _ e)) (rw (inside some, lt-ltb (length taken) (header dir) h, e))
      go false e =
          follows_inside some early 0
          (dl_none dir (taken ++ b ∷ []) (omega (arith, length-append taken (b ∷ []), eqb-false (length taken + 1) (header dir) e)))
          (rw (inside some, lt-ltb (length taken) (header dir) h, e))

  follows_data : 0 < length taken → header dir ≤ length taken → length taken < header dir + dl dir taken → Follows dir taken b
  unfolding fed_at
  follows_data some h early =
      follows_inside some early (dl dir taken) (dl_more dir taken (b ∷ []) h)
      (rw (inside some, le-ltb (length taken) (header dir) h, lt-ltb (length taken) (header dir + dl dir taken) early))

  follows_end : 0 < length taken → length taken ≡ header dir + dl dir taken → Follows dir taken b
  unfolding Follows fed_at
  follows_end some h =
      let step = taken_end dir taken b some (omega arith) in
      rw (step.0, step.1, opened (eqb b opens), inside some, le-ltb (length taken) (header dir) (omega arith), le-ltb (length taken) (header dir + dl dir taken) (omega arith), ← h)
      (go (eqb b ends) refl)
    where
      go : (t : Bool) → eqb b ends ≡ t
          → cond t (stood dir 0 0 (Frame (length taken + 1))) (cond (eqb b opens) (stood dir 1 0 (Broken (length taken))) (stood dir 0 0 (Broken (length taken + 1))))
          ≡ stood dir (cond (eqb b opens) 1 0) 0 (cond t (Frame (length taken + 1)) (cond (eqb b opens) (Broken (length taken)) (Broken (length taken + 1))))
      go true e = rw (ne_eqb b opens (omega (arith, eqb-true b ends e)))
      go false e =
          elim (eqb b opens) as (λ t. cond t (stood dir 1 0 (Broken (length taken))) (stood dir 0 0 (Broken (length taken + 1)))
          ≡ stood dir (cond t 1 0) 0 (cond t (Broken (length taken)) (Broken (length taken + 1)))) [ true ↦ refl | false ↦ refl ]

pub follows : (dir : Direction) (taken : List ℕ) (b : ℕ) → Stands dir taken → Follows dir taken b
follows dir taken b s = go (eqb (length taken) 0) (ltb (length taken) (header dir)) (ltb (length taken) (header dir + dl dir taken)) refl refl refl
  where
    go : (t u v : Bool) → eqb (length taken) 0 ≡ t → ltb (length taken) (header dir) ≡ u → ltb (length taken) (header dir + dl dir taken) ≡ v
        → Follows dir taken b
    go true u v e f g = follows_outside dir taken b (eqb-true _ _ e)
    go false true v e f g = follows_header dir taken b (omega (arith, eqb-false (length taken) 0 e)) (ltb-true _ _ f)
    go false false true e f g =
        follows_data dir taken b (omega (arith, eqb-false (length taken) 0 e)) (ltb-false _ _ f) (ltb-true _ _ g)
    go false false false e f g =
        follows_end dir taken b (omega (arith, eqb-false (length taken) 0 e)) (omega (arith, ltb-false (length taken) (header dir + dl dir taken) g))

-- a stream: the same answers, and the reader kept of what is taken then
pub follows_all : (dir : Direction) (taken bs : List ℕ) → Stands dir taken
    → (answers_of (reader_of dir taken) bs ≡ answers dir taken bs) × (reader_after (reader_of dir taken) bs ≡ reader_of dir (taken_by dir taken bs))
unfolding answers_by reader_by Follows
follows_all dir taken [] s = (refl, refl)
follows_all dir taken (b ∷ bs) s =
    let step = follows dir taken b s in
    let ih = follows_all dir (taken_after dir taken b) bs (stands_after dir taken b s) in (
      ap (λ (f : Fed). f.answer ∷ answers_of f.reader bs) step ∙ ap (λ (l : List ByteAnswer). answer_to dir taken b ∷ l) ih.0,
      ap (λ (f : Fed). reader_after f.reader bs) step ∙ ih.1,
    )
