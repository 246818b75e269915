-- A form of the row has legal data, and they say it.
use mathlib.Core.Path.{◌≡◌, refl, ap, ◌∙◌}
use mathlib.Core.Bool.{Bool, true, false, cond, not, ◌||◌, and-false}
use Prim.Native.Nat.{ℕ, ◌≤◌}
use native.Mathlib.Omega.{arith}
use borrow.Author.Tests.{eqb-true}
use lib.Dec.{eqb}
use lib.ListN.{length}
use Rattle.frame.specs.declared.direction.Direction.{Direction}
use Rattle.frame.specs.declared.direction.Direction.TheVariants.{Command, Answer}
use Rattle.frame.proofs.Cases.{cases}
use Rattle.row.specs.declared.table.Row.{Row}
use Rattle.judging.specs.Judge.{is_word, has_length, has_value, has_data, value_refusal}
use Rattle.judging.proofs.Judges.{value_goes, value_refuses}
use Rattle.refusals.specs.Rule.{ruled}
use Rattle.refusals.proofs.Ruled.{refuses}
use Rattle.message.specs.Content.{word_of, is_leveller_off, number_in, value_content, byte_content, content_of, encoded_of, encoded_code, encoded_data, size_of, form_number, is_form}
use Rattle.message.specs.Write.{form_rules}
use Rattle.message.specs.declared.content.Content.{Content}
use Rattle.message.specs.declared.content.Content.TheVariants.{Request, Up, Down, On, Off, Toggle, LevellerOff, Number, Input}
use Rattle.lists.proofs.Tests.{both}
use Rattle.message.proofs.Codes.{code_by, coded_number}
use Rattle.std.specs.Prelude.{None, Option, Some}
use Rattle.refusals.specs.declared.refusal.Refusal.{Refusal}
use Rattle.refusals.specs.declared.refusal.Refusal.TheVariants.{WrongLength}

-- the forms that hold nothing, by their numbers
form_of : ℕ → Content
form_of n =
    cond (eqb n 0) Request
    (cond (eqb n 1) Up (cond (eqb n 2) Down (cond (eqb n 3) On (cond (eqb n 4) Off (cond (eqb n 5) Toggle LevellerOff)))))

bare : (c : Content) → form_number c ≤ 6 → c ≡ form_of (form_number c)
unfolding form_of
bare Request h = refl
bare Up h = refl
bare Down h = refl
bare On h = refl
bare Off h = refl
bare Toggle h = refl
bare LevellerOff h = refl
bare (Number z) h = absurd (omega arith)
bare (Input input on) h = absurd (omega arith)

-- one byte that says a number says its own
abbrev NoNumber : Content → Type 0
NoNumber c = form_number c ≡ 7 → ⊥

word_no_number : (row : Row) (b : ℕ) → NoNumber (word_of row b)
word_no_number row b =
    cases NoNumber (eqb b 0xF0) (λ f e. omega arith)
    (λ f. cases NoNumber (eqb b 0x02) (λ g e. omega arith)
    (λ g. cases NoNumber (eqb b 0xF1) (λ h. cases NoNumber row.switch (λ s e. omega arith) (λ s e. omega arith))
    (λ h. cases NoNumber row.switch (λ s e. omega arith) (λ s e. omega arith))))

module _ (row : Row) (b : ℕ) where
  abbrev Its : Content → Type 0
  Its c = form_number c ≡ 7 → c ≡ Number (number_in row b)

  value_number : Its (value_content row b)
  value_number = cases Its (is_leveller_off row b) (λ f e. absurd (omega arith)) (λ f e. refl)

  byte_number : (dir : Direction) → Its (byte_content dir row b)
  byte_number Command = cases Its (is_word row b) (λ f e. absurd (word_no_number row b e)) (λ f. value_number)
  byte_number Answer = value_number

state_byte : (on : Bool) → eqb (cond on 1 0) 1 ≡ on
state_byte true = refl
state_byte false = refl

module _ (dir : Direction) (row : Row) where
  -- data of a length that the row has are as many as the form's size
  pub data_size : (c : Content) → has_length dir row (length (encoded_data (encoded_of row c))) ≡ true → length (encoded_data (encoded_of row c)) ≡ size_of c
  data_size Request e = refl
  data_size Up e = refl
  data_size Down e = refl
  data_size On e = refl
  data_size Off e = refl
  data_size Toggle e = refl
  data_size LevellerOff e = refl
  data_size (Number z) e = go (code_by row.signed z) e
    where
      go : (code : Option ℕ) → has_length dir row (length (encoded_data (encoded_code code))) ≡ true → length (encoded_data (encoded_code code)) ≡ 1
      go (Some c) f = refl
      go None f = cc
  data_size (Input input on) e = refl

  -- and what they say is this form, where it is of the same kind
  abbrev says : Content → Content
  says c = content_of dir row (encoded_data (encoded_of row c))

  same_form : (c : Content) → has_length dir row (length (encoded_data (encoded_of row c))) ≡ true → form_number (says c) ≡ form_number c → says c ≡ c
  unfolding content_of form_of
  same_form Request long e = bare (says Request) (omega arith) ∙ ap form_of e
  same_form Up long e = bare (says Up) (omega arith) ∙ ap form_of e
  same_form Down long e = bare (says Down) (omega arith) ∙ ap form_of e
  same_form On long e = bare (says On) (omega arith) ∙ ap form_of e
  same_form Off long e = bare (says Off) (omega arith) ∙ ap form_of e
  same_form Toggle long e = bare (says Toggle) (omega arith) ∙ ap form_of e
  same_form LevellerOff long e = bare (says LevellerOff) (omega arith) ∙ ap form_of e
  same_form (Number z) long e = go (code_by row.signed z) refl long e
    where
      go : (code : Option ℕ) → code_by row.signed z ≡ code → has_length dir row (length (encoded_data (encoded_code code))) ≡ true
          → form_number (content_of dir row (encoded_data (encoded_code code))) ≡ 7 → content_of dir row (encoded_data (encoded_code code)) ≡ Number z
      go (Some c) f g h = byte_number row c dir h ∙ ap Number (coded_number row.signed z c f)
      go None f g h = cc
  same_form (Input input on) long e = ap (Input input) (state_byte on)

  pub writes : (content : Content) → is_form dir row content ≡ true
      → (has_data dir row (encoded_data (encoded_of row content)) ≡ true) × (length (encoded_data (encoded_of row content)) ≡ size_of content) × (says content ≡ content)
  unfolding is_form
  writes content e =
      let body = encoded_data (encoded_of row content) in
      let (legal, same) = both (has_data dir row body) (eqb (form_number (says content)) (form_number content)) e in
      let long = (both (has_length dir row (length body)) (has_value dir row body) legal).0 in
      (legal, data_size content long, same_form content long (eqb-true _ _ same))

  -- data of a value that the row lacks are no form of it
  pub no_form : (content : Content) → has_value dir row (encoded_data (encoded_of row content)) ≡ false → not (is_form dir row content) ≡ true
  unfolding is_form
  no_form content wrong = rw (wrong, and-false (has_length dir row (length (encoded_data (encoded_of row content)))))

  -- what is said goes by its length and its form
  abbrev pub form_judged : Content → {A : Type 0} → (Refusal → A) → A → A
  form_judged content refuse accepted =
      cond (not (has_length dir row (size_of content))) (refuse WrongLength)
      (cond (not (is_form dir row content)) (refuse (value_refusal dir row (encoded_data (encoded_of row content)))) accepted)

  pub form_goes : (content : Content) {A : Type 0} (refuse : Refusal → A) (accepted : A) → ruled (form_rules dir content row) refuse accepted ≡ form_judged content refuse accepted
  form_goes content refuse accepted =
      value_goes row (size_of content) (encoded_data (encoded_of row content)) (not (is_form dir row content)) dir (no_form content) refuse accepted

  pub form_refuses : (content : Content) → refuses (form_rules dir content row) ≡ not (has_length dir row (size_of content)) || not (is_form dir row content)
  form_refuses content = value_refuses row (size_of content) (encoded_data (encoded_of row content)) (not (is_form dir row content)) dir (no_form content)
