-- How many bytes of 00 a reader still takes before it stands outside; and that only 0D acts.
use mathlib.Core.Path.{◌≡◌, refl, ap, sym, ◌∙◌, subst}
use mathlib.Core.Bool.{Bool, true, false, cond}
use mathlib.Core.List.{List, [], ◌∷◌, ◌++◌}
use Prim.Native.Nat.{ℕ, suc, ◌+◌, ◌≤◌, ◌<◌}
use native.Mathlib.Omega.{arith}
use mathlib.Core.Logic.{◌⊎◌, inl, inr}
use borrow.Author.Tests.{eq-eqb, eqb-true, eqb-false, ltb-true, ltb-false, leb-true, leb-false}
use lib.Dec.{eqb, leb, ltb}
use lib.ListN.{length, length-append}
use Rattle.frame.specs.Frame.{header, opens, ends, dl}
use Rattle.frame.specs.Reader.{answer_to, taken_after, taken_by}
use Rattle.frame.specs.Meaning.{Means}
use Rattle.frame.specs.declared.direction.Direction.{Direction}
use Rattle.frame.specs.declared.direction.Direction.TheVariants.{Command}
use Rattle.frame.specs.declared.reader.ByteAnswer.{ByteAnswer}
use Rattle.frame.specs.declared.reader.ByteAnswer.TheVariants.{Waiting, Noise, Frame, Broken}
use Rattle.frame.proofs.Header.{header_least, header_most}
use Rattle.frame.proofs.Taken.{dl_none, dl_more, dl_now, taken_outside, taken_inside, taken_end}
use Rattle.frame.proofs.Means.{means}
use Rattle.unit.specs.Unit.{Unit, nothing, byte_done, done}
use Rattle.unit.specs.Sending.{AreBytes}
use Rattle.streams.specs.Stream.{reader_by}

-- a reader that stands outside after at most so many zeros
abbrev pub Within : Direction → ℕ → List ℕ → Type 0
Within dir k taken = 0 < length taken → header dir + dl dir taken + 1 ≤ length taken + k

module _ (dir : Direction) (taken : List ℕ) (b : ℕ) where
  -- a byte opens a frame or is dropped, or is taken inside one
  pub by_place : (P : List ℕ → Type 0) → P (cond (eqb b opens) (b ∷ []) []) → (0 < length taken → length taken < header dir + dl dir taken → P (taken ++ b ∷ []))
      → P (taken_after dir taken b)
  by_place P start inside = go (eqb (length taken) 0) (ltb (length taken) (header dir + dl dir taken)) refl refl
    where
      on : {l : List ℕ} → taken_after dir taken b ≡ l → P l → P (taken_after dir taken b)
      on e p = subst P (sym e) p

      go : (t u : Bool) → eqb (length taken) 0 ≡ t → ltb (length taken) (header dir + dl dir taken) ≡ u → P (taken_after dir taken b)
      go true u e f = on (taken_outside dir taken b (eqb-true _ _ e)).1 start
      go false true e f =
          let some : 0 < length taken = omega (arith, eqb-false (length taken) 0 e) in
          on (taken_inside dir taken b some (ltb-true _ _ f)).1 (inside some (ltb-true _ _ f))
      go false false e f = on (taken_end dir taken b (omega (arith, eqb-false (length taken) 0 e)) (ltb-false _ _ f)).1 start

  -- Dl after a byte that is taken inside: as it was, but at Dl's own place, where it is the byte
  dl_after : (dl dir (taken ++ b ∷ []) ≡ dl dir taken) ⊎ ((dl dir (taken ++ b ∷ []) ≡ b) × (length taken + 1 ≡ header dir))
  dl_after = go (leb (header dir) (length taken)) (eqb (length taken + 1) (header dir)) refl refl
    where
      go : (t u : Bool) → leb (header dir) (length taken) ≡ t → eqb (length taken + 1) (header dir) ≡ u
          → (dl dir (taken ++ b ∷ []) ≡ dl dir taken) ⊎ ((dl dir (taken ++ b ∷ []) ≡ b) × (length taken + 1 ≡ header dir))
      go true u e f = inl (dl_more dir taken (b ∷ []) (leb-true _ _ e))
      go false true e f = inr (dl_now dir taken b [] (eqb-true _ _ f), eqb-true _ _ f)
      go false false e f =
          let early : length (taken ++ b ∷ []) < header dir =
          omega (arith, length-append taken (b ∷ []), leb-false (header dir) (length taken) e, eqb-false (length taken + 1) (header dir) f) in
          inl (dl_none dir (taken ++ b ∷ []) early ∙ sym (dl_none dir taken (leb-false _ _ e)))

  abbrev long : length (taken ++ b ∷ []) ≡ length taken + 1
  long = length-append taken (b ∷ [])

  started : (k : ℕ) → 5 ≤ k → (t : Bool) → Within dir k (cond t (b ∷ []) [])
  started k h true some = omega (arith, dl_none dir (b ∷ []) (omega (arith, header_least dir)), header_most dir)
  started k h false some = absurd (omega arith)

  -- any byte keeps a reader within 256
  pub byte_within : b < 256 → Within dir 256 taken → Within dir 256 (taken_after dir taken b)
  byte_within h w = by_place (Within dir 256) (started 256 (omega arith) (eqb b opens)) (λ some early more. go dl_after some)
    where
      go : (dl dir (taken ++ b ∷ []) ≡ dl dir taken) ⊎ ((dl dir (taken ++ b ∷ []) ≡ b) × (length taken + 1 ≡ header dir)) → 0 < length taken
          → header dir + dl dir (taken ++ b ∷ []) + 1 ≤ length (taken ++ b ∷ []) + 256
      go (inl e) some = omega (arith, e, long, w some)
      go (inr e) some = omega (arith, e, long)

  -- 21 opens a frame, outside or at the end place
  pub opened : b ≡ opens → Within dir 1 taken → taken_after dir taken b ≡ opens ∷ []
  opened e w =
      by_place (λ (l : List ℕ). l ≡ opens ∷ []) (rw (eq-eqb b opens e) (ap (λ (c : ℕ). c ∷ []) e)) (λ some early. absurd (omega (arith, w some)))

-- a zero brings it one nearer
pub zero_nearer : (dir : Direction) (taken : List ℕ) (k : ℕ) → Within dir (suc k) taken → Within dir k (taken_after dir taken 0)
zero_nearer dir taken k w = by_place dir taken 0 (Within dir k) (λ some. absurd (omega arith)) (λ some early more. go (dl_after dir taken 0) some)
  where
    go : (dl dir (taken ++ 0 ∷ []) ≡ dl dir taken) ⊎ ((dl dir (taken ++ 0 ∷ []) ≡ 0) × (length taken + 1 ≡ header dir)) → 0 < length taken
        → header dir + dl dir (taken ++ 0 ∷ []) + 1 ≤ length (taken ++ 0 ∷ []) + k
    go (inl e) some = omega (arith, e, long dir taken 0, w some)
    go (inr e) some = omega (arith, e, long dir taken 0, w some)

pub bytes_within : (dir : Direction) (taken bs : List ℕ) → AreBytes bs → Within dir 256 taken → Within dir 256 (taken_by dir taken bs)
unfolding reader_by
bytes_within dir taken [] h w = w
bytes_within dir taken (b ∷ bs) h w = bytes_within dir (taken_after dir taken b) bs h.1 (byte_within dir taken b h.0 w)

-- a byte that is not 0D does nothing
pub quiet : (u : Unit) (b : ℕ) → (b ≡ ends → ⊥) → done u b ≡ nothing u.settings
quiet u b other = go (answer_to Command u.taken b) (means Command u.taken b)
  where
    go : (a : ByteAnswer) → Means Command u.taken b a → byte_done u b a ≡ nothing u.settings
    go Waiting m = refl
    go Noise m = refl
    go (Frame n) m = absurd (other m.1)
    go (Broken n) m = refl
