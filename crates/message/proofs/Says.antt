-- Legal data say a form that the row has what it takes for, and that form's data are these, 80 as 00 in a signed row.
use mathlib.Core.Path.{◌≡◌, refl, ap, sym, ◌∙◌, subst}
use mathlib.Core.Bool.{Bool, true, false, cond, ◌&&◌, ◌||◌}
use mathlib.Core.List.{List, [], ◌∷◌, map}
use mathlib.Core.Logic.{◌⊎◌, inl, inr}
use Prim.Native.Nat.{ℕ, suc}
use native.Mathlib.Omega.{arith}
use borrow.Author.Tests.{ne_eqb, eqb-true, eqb-false, leb-true}
use lib.Dec.{eqb, leb}
use lib.IntN.{pos}
use lib.ListN.{length}
use Rattle.frame.specs.declared.direction.Direction.{Direction}
use Rattle.frame.specs.declared.direction.Direction.TheVariants.{Command, Answer}
use Rattle.frame.proofs.Cases.{cases}
use Rattle.row.specs.MinusZero.{normal}
use Rattle.row.specs.Signed.{number_of}
use Rattle.row.specs.declared.table.Row.{Row}
use Rattle.row.proofs.Turned.{by_zero, minus_zero_promise}
use Rattle.judging.specs.Judge.{is_answer, is_pair, is_word, has_length, has_byte, has_value, has_data}
use Rattle.message.specs.Content.{word_of, is_leveller_off, number_in, value_content, byte_content, content_of, encoded_of, encoded_code, encoded_data}
use Rattle.message.proofs.Fits.{value_byte, code_fits, fits}
use Rattle.message.specs.declared.content.Content.{Content}
use Rattle.message.specs.declared.content.Content.TheVariants.{Up, Down, On, Off, LevellerOff, Number}
use Rattle.lists.proofs.Tests.{both, former, by_value}
use Rattle.message.proofs.Tidy.{Tidy}
use Rattle.message.proofs.Codes.{number_coded}
use Rattle.std.specs.Prelude.{Option}

-- the row has what it takes for what is said, and `body` are its data, or would be with 00 for minus zero
abbrev pub Says : Direction → Row → List ℕ → Content → Type 0
Says dir row body content = (fits dir row content ≡ true) × (encoded_data (encoded_of row content) ≡ map (normal row) body)

state_bit : (state : ℕ) → leb state 1 ≡ true → cond (eqb state 1) 1 0 ≡ state
state_bit state e = cases (λ (n : ℕ). n ≡ state) (eqb state 1) (λ f. omega (arith, eqb-true)) (λ f. omega (arith, leb-true, eqb-false))

module _ (row : Row) where
  abbrev Word : ℕ → Type 0
  Word b = is_word row b ≡ true → Says Command row (b ∷ []) (word_of row b)

  -- F1 and F2 step where they do not switch
  word_steps : (b : ℕ) (switched stepped : Content) → (row.switch ≡ true → Says Command row (b ∷ []) switched) → (row.steps ≡ true → Says Command row (b ∷ []) stepped)
      → row.steps || row.switch ≡ true → Says Command row (b ∷ []) (cond row.switch switched stepped)
  word_steps b switched stepped f g e = cases (Says Command row (b ∷ [])) row.switch f (λ s. g (former _ _ e s))

  word_says : (b : ℕ) → Word b
  word_says b =
      by_value Word b 0xF0 (λ e. (e, refl))
      (λ f0. by_value Word b 0xF1 (word_steps 0xF1 On Up (λ e. (e, refl)) (λ e. (e, refl)))
      (λ f1. by_value Word b 0xF2 (word_steps 0xF2 Off Down (λ e. (e, refl)) (λ e. (e, refl)))
      (λ f2. by_value Word b 0x02 (λ e. (e, refl))
      (λ t e. let z : false ≡ true = rw (f0, f1, f2, t) at e in (cc, cc)))))

  value_says : (dir : Direction) → Tidy dir row → (b : ℕ) → value_byte dir row b ≡ true → Says dir row (b ∷ []) (value_content row b)
  value_says dir tidy b v = cases (Says dir row (b ∷ [])) (is_leveller_off row b) off number
    where
      off : is_leveller_off row b ≡ true → Says dir row (b ∷ []) LevellerOff
      off e =
          let (last, marked) = both (eqb b 0xFF) row.off e in
          let here = eqb-true b 0xFF last in
          (cc, rw here)

      number : is_leveller_off row b ≡ false → Says dir row (b ∷ []) (Number (number_in row b))
      number e =
          let code = number_coded row b (tidy.byte b v) in
          let number : is_leveller_off row (normal row b) ≡ false = by_zero row b (λ c n. is_leveller_off row c ≡ false → is_leveller_off row n ≡ false) (λ s f. refl) (λ f g. g) e in
          (ap (λ (x : Option ℕ). code_fits dir row (encoded_code x)) code ∙ rw (tidy.turned b v, number), ap (λ (x : Option ℕ). encoded_data (encoded_code x)) code)

  byte_says : (dir : Direction) → Tidy dir row → (b : ℕ) → has_byte dir row b ≡ true → Says dir row (b ∷ []) (byte_content dir row b)
  byte_says Command tidy b e = cases (Says Command row (b ∷ [])) (is_word row b) (word_says b) (λ f. value_says Command tidy b (former _ _ e f))
  byte_says Answer tidy b e = value_says Answer tidy b e

  no_longer : (dir : Direction) (n : ℕ) → has_length dir row (suc (suc (suc n))) ≡ false
  no_longer dir n = rw (ne_eqb (suc (suc (suc n))) 2 (λ e. omega arith), ne_eqb (suc (suc (suc n))) 1 (λ e. omega arith))

  pub data_says : (dir : Direction) → Tidy dir row → (body : List ℕ) → has_data dir row body ≡ true → Says dir row body (content_of dir row body)
  unfolding content_of
  data_says dir tidy [] legal = let none : false ≡ true = legal in (cc, cc)
  data_says dir tidy (b ∷ []) legal = byte_says dir tidy b (both (has_length dir row 1) (has_byte dir row b) legal).1
  data_says dir tidy (b ∷ c ∷ []) legal =
      let (paired, rest) = both row.pair (leb c 1 && is_answer row b) (both row.pair (is_pair row b c) legal).1 in
      let (state, input) = both (leb c 1) (is_answer row b) rest in
      let plain = tidy.pairs paired in
      (cc, rw (state_bit c state, minus_zero_promise.unsigned row b plain, minus_zero_promise.unsigned row c plain))
  data_says dir tidy (b ∷ c ∷ d ∷ rest) legal = let none : false ≡ true = sym (no_longer dir (length rest)) ∙ (both (has_length dir row (suc (suc (suc (length rest))))) (has_value dir row (b ∷ c ∷ d ∷ rest)) legal).0 in (cc, cc)

  -- legal data are minus zero, or stand for themselves
  pub zero_or_same : (dir : Direction) → Tidy dir row → (body : List ℕ) → has_data dir row body ≡ true
      → ((body ≡ 0x80 ∷ []) × (row.signed ≡ true)) ⊎ (map (normal row) body ≡ body)
  zero_or_same dir tidy [] legal = inr refl
  zero_or_same dir tidy (b ∷ []) legal = go (eqb b 0x80) row.signed refl refl
    where
      go : (t u : Bool) → eqb b 0x80 ≡ t → row.signed ≡ u → ((b ∷ [] ≡ 0x80 ∷ []) × (row.signed ≡ true)) ⊎ (cond (t && u) 0x00 b ∷ [] ≡ b ∷ [])
      go true true e f = inl (ap (λ (k : ℕ). k ∷ []) (eqb-true b 0x80 e), f)
      go true false e f = inr refl
      go false u e f = inr refl
  zero_or_same dir tidy (b ∷ c ∷ []) legal =
      let plain = tidy.pairs (both row.pair (is_pair row b c) legal).0 in
      inr (rw (minus_zero_promise.unsigned row b plain, minus_zero_promise.unsigned row c plain))
  zero_or_same dir tidy (b ∷ c ∷ d ∷ rest) legal = let none : false ≡ true = sym (no_longer dir (length rest)) ∙ (both (has_length dir row (suc (suc (suc (length rest))))) (has_value dir row (b ∷ c ∷ d ∷ rest)) legal).0 in inr cc

  -- 80 and 00 say 0 in a signed row
  pub zero_content : (dir : Direction) (minus : Bool) → row.signed ≡ true → content_of dir row (cond minus 0x80 0x00 ∷ []) ≡ Number (pos 0)
  unfolding content_of number_of
  zero_content Command true s = rw s
  zero_content Command false s = rw s
  zero_content Answer true s = rw s
  zero_content Answer false s = rw s

  zero_legal : (dir : Direction) → Tidy dir row → row.signed ≡ true → has_byte dir row 0x80 ≡ true → has_byte dir row 0x00 ≡ true
  zero_legal Command tidy s e = let v : value_byte Command row 0x00 ≡ true = rw s at (tidy.turned 0x80 (former _ _ e refl)) in rw v
  zero_legal Answer tidy s e = rw s at (tidy.turned 0x80 e)

  -- what legal data stand for is legal, and says the same
  pub normal_says : (dir : Direction) → Tidy dir row → (body : List ℕ) → has_data dir row body ≡ true
      → (has_data dir row (map (normal row) body) ≡ true) × (content_of dir row (map (normal row) body) ≡ content_of dir row body)
  normal_says dir tidy body legal = go (zero_or_same dir tidy body legal)
    where
      Stands : List ℕ → List ℕ → Type 0
      Stands l k = (has_data dir row l ≡ true) × (content_of dir row l ≡ content_of dir row k)

      zero : row.signed ≡ true → has_data dir row (0x80 ∷ []) ≡ true → Stands (normal row 0x80 ∷ []) (0x80 ∷ [])
      zero s h =
          let (long, fits) = both (has_length dir row 1) (has_byte dir row 0x80) h in
          rw (minus_zero_promise.turned row s) (rw (long, zero_legal dir tidy s fits), zero_content dir false s ∙ sym (zero_content dir true s))

      go : ((body ≡ 0x80 ∷ []) × (row.signed ≡ true)) ⊎ (map (normal row) body ≡ body) → Stands (map (normal row) body) body
      go (inl (e, s)) = subst (λ (l : List ℕ). Stands (map (normal row) l) l) (sym e) (zero s (rw e at legal))
      go (inr e) = rw e (legal, refl)
