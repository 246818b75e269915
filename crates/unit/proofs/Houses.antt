-- The house rules hold in every row: what they ask of the table is tested over all of it, once.
use mathlib.Core.Path.{◌≡◌, refl, ap, sym, ◌∙◌}
use mathlib.Core.Bool.{Bool, true, false, cond, not, ◌&&◌, ◌||◌, or-true}
use mathlib.Core.List.{[], ◌∷◌}
use mathlib.Core.Logic.{inl, inr}
use Prim.Native.Nat.{ℕ, ◌<◌}
use native.Mathlib.Omega.{arith}
use borrow.Author.Tests.{not-true, eqb-true}
use lib.Dec.{T, eqb, leb}
use lib.IntN.{ℤ, pos, negsuc, suc_ℤ, pred_ℤ}
use lib.Signed.{le_z, le_z_yes}
use Rattle.frame.specs.declared.direction.Direction.TheVariants.{Command}
use Rattle.frame.proofs.Cases.{cases}
use Rattle.row.specs.MinusZero.{is_minus_zero, normal}
use Rattle.row.specs.Signed.{number_of, code_of, plain_code_of}
use Rattle.row.specs.Table.{table, row_of}
use Rattle.row.specs.declared.profile.Profile.{Profile}
use Rattle.row.specs.declared.table.Row.{Row}
use Rattle.row.proofs.Inverse.{signed_promise}
use Rattle.judging.specs.Judge.{is_setting, is_answer, is_word}
use Rattle.message.specs.Content.{is_leveller_off, number_in, content_of, encoded_of, encoded_data, encoded_code, number_code, is_form}
use Rattle.message.specs.declared.content.Content.{Content}
use Rattle.message.specs.declared.content.Content.TheVariants.{Request, Up, Down, On, Off, Toggle, LevellerOff, Number, Input}
use Rattle.message.specs.declared.content.Encoded.{Encoded}
use Rattle.message.specs.declared.content.Encoded.TheVariants.{One, Two}
use Rattle.message.proofs.Fits.{code_fits, fits}
use Rattle.message.proofs.Forms.{form_promise, form_fits}
use Rattle.lists.proofs.Tests.{both, upto, upto_at}
use Rattle.message.proofs.Tidy.{are_bytes, code_byte, every, row_passes}
use Rattle.unit.specs.House.{is_not_calculated, unless_not_calculated, landed, stepped, coded, value_after}
use Rattle.unit.specs.HousePromise.{IsNumber, Highest, Lowest, Steps, HousePromise}
use Rattle.unit.proofs.Tests.{clash, none_of, implies, implied}
use Rattle.std.specs.Prelude.{None, Option, Some}

-- a step: where the next number has no code among the answers the value is the end; where it has one it is not off
abbrev is_number : Row → ℕ → Bool
is_number row v = is_answer row v && not (is_leveller_off row v)

abbrev has_code : Row → Option Encoded → Bool
has_code row (Some (One c)) = is_answer row c
has_code row (Some (Two b c)) = false
has_code row None = false

abbrev not_off : Row → Option Encoded → Bool
not_off row (Some (One c)) = not (is_leveller_off row c)
not_off row (Some (Two b c)) = true
not_off row None = true

abbrev lands : Row → Option Encoded → Bool → Bool
lands row x end = cond (has_code row x) (not_off row x) end

abbrev no_higher : Row → ℕ → ℕ → Bool
no_higher row v w = implies (is_number row w) (le_z (number_in row w) (number_in row v))

abbrev no_lower : Row → ℕ → ℕ → Bool
no_lower row v w = implies (is_number row w) (le_z (number_in row v) (number_in row w))

abbrev steps_up : Row → ℕ → Bool
steps_up row v = implies (is_number row v) (lands row (number_code row (suc_ℤ (number_in row v))) (upto 256 (no_higher row v)))

abbrev steps_down : Row → ℕ → Bool
steps_down row v = implies (is_number row v) (lands row (number_code row (pred_ℤ (number_in row v))) (upto 256 (no_lower row v)))

abbrev steps_well : Row → Bool
steps_well row = implies row.steps (upto 256 (steps_up row) && upto 256 (steps_down row))

all_step_well : every steps_well table ≡ true
unfolding table upto number_of code_of plain_code_of
all_step_well = refl

-- the codes are bytes; one that is set can be answered and is no word; what switches or toggles answers 00 and 01; room EQ neither
-- steps nor toggles, and has no off and no pairs
abbrev sets_well : Row → ℕ → Bool
sets_well row b = implies (is_setting row b) (is_answer row b && not (is_word row b))

abbrev eq_row : Row → Bool
eq_row row = not (row.steps || (row.toggle || (row.off || row.pair)))

abbrev codes_well : Row → Bool
codes_well row =
    are_bytes row.answers row.answers2
    && (are_bytes row.settings row.settings2
    && (upto 256 (sets_well row)
    && (implies (row.switch || row.toggle) (is_answer row 0x00 && is_answer row 0x01)
    && implies (eqb row.code 0x37) (eq_row row))))

all_codes_well : every codes_well table ≡ true
unfolding table upto
all_codes_well = refl

pub record Well (row : Row) : Type 0 where
  pub answer_byte : (b : ℕ) → is_answer row b ≡ true → b < 256
  pub set_answer : (b : ℕ) → is_setting row b ≡ true → is_answer row b ≡ true
  pub set_no_word : (b : ℕ) → is_setting row b ≡ true → is_word row b ≡ false
  pub swaps : row.switch || row.toggle ≡ true → (is_answer row 0x00 ≡ true) × (is_answer row 0x01 ≡ true)
  pub eq : eqb row.code 0x37 ≡ true → row.steps || (row.toggle || (row.off || row.pair)) ≡ false

well_of : (row : Row) → codes_well row ≡ true → Well row
well_of row e =
    let (answers, e₁) = both (are_bytes row.answers row.answers2) _ e in
    let (settings, e₂) = both (are_bytes row.settings row.settings2) _ e₁ in
    let (sets, e₃) = both (upto 256 (sets_well row)) _ e₂ in
    let (swaps, eq) = both (implies (row.switch || row.toggle) (is_answer row 0x00 && is_answer row 0x01)) _ e₃ in
    let set : (b : ℕ) → is_setting row b ≡ true → (is_answer row b ≡ true) × (not (is_word row b) ≡ true) =
    λ b s. both _ _ (implied (is_setting row b) _ (upto_at 256 (sets_well row) sets b (code_byte row.settings row.settings2 settings b s)) s) in
    record {
      answer_byte = code_byte row.answers row.answers2 answers;
      set_answer = λ b s. (set b s).0;
      set_no_word = λ b s. not-true _ (set b s).1;
      swaps = λ s. both _ _ (implied _ _ swaps s);
      eq = λ s. not-true _ (implied _ _ eq s);
    }

true_so : {t : Bool} → t ≡ true → T t
true_so e = rw e tt

-- the number of a code is the number whose code it is
number_of_lem : (signed : Bool) (z : ℤ) (c : ℕ) → cond signed (code_of z) (plain_code_of z) ≡ Some c → cond signed (number_of c) (pos c) ≡ z
unfolding plain_code_of
number_of_lem true z c e = signed_promise.number_of_code z c e
number_of_lem false (pos n) c e = go (leb n 0xFF) e
  where
    go : (t : Bool) → cond t (Some n) None ≡ Some c → pos c ≡ pos n
    go true f = cc
    go false f = cc
number_of_lem false (negsuc n) c e = cc

one_code : (x : Option ℕ) (c : ℕ) → encoded_code x ≡ Some (One c) → x ≡ Some c
one_code (Some b) c e = cc
one_code None c e = cc

number_is : (row : Row) (z : ℤ) (c : ℕ) → number_code row z ≡ Some (One c) → number_in row c ≡ z
number_is row z c e = number_of_lem row.signed z c (one_code _ c e)

-- and it is never minus zero: 0 has the code 00
code_other : (row : Row) (z : ℤ) (c : ℕ) → number_code row z ≡ Some (One c) → is_minus_zero row c ≡ false
unfolding number_of code_of
code_other row z c e = go (eqb c 0x80) row.signed refl refl
  where
    zero_not : ◌≡◌ {A = Option ℕ} (Some 0x00) (Some 0x80) → ⊥
    zero_not f = let same : ◌≡◌ {A = ℕ} 0x00 0x80 = cc in omega (arith, same)

    go : (t u : Bool) → eqb c 0x80 ≡ t → row.signed ≡ u → t && u ≡ false
    go false u f s = refl
    go true false f s = refl
    go true true f s =
        let coded : code_of z ≡ Some 0x80 =
        sym (ap (λ (t : Bool). cond t (code_of z) (plain_code_of z)) s) ∙ one_code _ c e ∙ ap Some (eqb-true c 0x80 f) in
        absurd (zero_not (ap code_of (signed_promise.number_of_code z 0x80 coded) ∙ coded))

-- data of one byte are its code
coded_is : (x : Option Encoded) (v w : ℕ) → encoded_data x ≡ w ∷ [] → coded x v ≡ w
coded_is (Some (One c)) v w e = cc
coded_is (Some (Two b c)) v w e = cc
coded_is None v w e = cc

module _ (profile : Profile) (command : ℕ) (row : Row) (there : row_of profile command ≡ Some row) where
  pub well : Well row
  well = well_of row (row_passes codes_well all_codes_well profile command row there)

  -- a step, by the code of the number that it moves to
  landing : (z : ℤ) (v : ℕ) (End : Type 0) (x : Option Encoded) → number_code row z ≡ x → (has_code row x ≡ true → not_off row x ≡ true) → (has_code row x ≡ false → End)
      → Steps row v (landed row x v) z End
  landing z v End (Some (One c)) e on end =
      cases (λ (w : ℕ). Steps row v w z End) (is_answer row c) (λ a. inl (number_is row z c e, (a, not-true _ (on a)), code_other row z c e)) (λ a. inr (refl, end a))
  landing z v End (Some (Two b c)) e on end = inr (refl, end refl)
  landing z v End None e on end = inr (refl, end refl)

  stands : (x : Option Encoded) (end : Bool) → lands row x end ≡ true → (has_code row x ≡ true → not_off row x ≡ true) × (has_code row x ≡ false → end ≡ true)
  stands x end e = go (has_code row x) (not_off row x) e
    where
      go : (t u : Bool) → cond t u end ≡ true → (t ≡ true → u ≡ true) × (t ≡ false → end ≡ true)
      go true u f = (λ g. f, λ g. cc)
      go false u f = (λ g. cc, λ g. f)

  step : (move : ℤ → ℤ) (v : ℕ) (End : Type 0) (end : Bool) → is_leveller_off row v ≡ false → lands row (number_code row (move (number_in row v))) end ≡ true → (end ≡ true → End)
      → Steps row v (stepped row move v) (move (number_in row v)) End
  step move v End end off e ends =
      let w = stands (number_code row (move (number_in row v))) end e in
      rw off (landing (move (number_in row v)) v End (number_code row (move (number_in row v))) refl w.0 (λ h. ends (w.1 h)))

  is_number_lem : (v : ℕ) → IsNumber row v → is_number row v ≡ true
  is_number_lem v n = rw (n.0, n.1)

  steps_well_lem : row.steps ≡ true → (upto 256 (steps_up row) ≡ true) × (upto 256 (steps_down row) ≡ true)
  steps_well_lem s = both _ _ (implied row.steps _ (row_passes steps_well all_step_well profile command row there) s)

  up : row.steps ≡ true → (v : ℕ) → IsNumber row v → Steps row v (value_after row Up v) (suc_ℤ (number_in row v)) (Highest row v)
  up s v n =
      step suc_ℤ v (Highest row v) (upto 256 (no_higher row v)) n.1
      (implied (is_number row v) _ (upto_at 256 (steps_up row) (steps_well_lem s).0 v (well.answer_byte v n.0)) (is_number_lem v n))
      (λ top w m. le_z_yes (true_so (implied (is_number row w) _ (upto_at 256 (no_higher row v) top w (well.answer_byte w m.0)) (is_number_lem w m))))

  down : row.steps ≡ true → (v : ℕ) → IsNumber row v → Steps row v (value_after row Down v) (pred_ℤ (number_in row v)) (Lowest row v)
  down s v n =
      step pred_ℤ v (Lowest row v) (upto 256 (no_lower row v)) n.1
      (implied (is_number row v) _ (upto_at 256 (steps_down row) (steps_well_lem s).1 v (well.answer_byte v n.0)) (is_number_lem v n))
      (λ low w m. le_z_yes (true_so (implied (is_number row w) _ (upto_at 256 (no_lower row v) low w (well.answer_byte w m.0)) (is_number_lem w m))))

  off : (v : ℕ) → is_leveller_off row v ≡ true → (value_after row Up v ≡ v) × (value_after row Down v ≡ v)
  off v e = (rw e, rw e)

  not_calculated : (v : ℕ) → is_not_calculated row v ≡ true → (c : Content) → is_form Command row c ≡ true → value_after row c v ≡ v
  not_calculated v e c form = go c (form_fits profile command row Command c there form)
    where
      none : (row.steps ≡ false) × (row.toggle ≡ false) × (row.off ≡ false) × (row.pair ≡ false)
      none = none_of _ _ _ _ (well.eq (both (eqb row.code 0x37) _ e).0)

      go : (c : Content) → fits Command row c ≡ true → value_after row c v ≡ v
      go Request f = refl
      go Up f = clash (sym none.0 ∙ f)
      go Down f = clash (sym none.0 ∙ f)
      go On f = rw e
      go Off f = rw e
      go Toggle f = clash (sym none.1 ∙ f)
      go LevellerOff f = clash (sym none.2 ∙ (both row.off (is_setting row 0xFF) f).0)
      go (Number z) f = rw e
      go (Input i on) f = clash (sym none.3 ∙ (both row.pair (is_answer row i) f).0)

  -- what a setting code says: off or a number, whose code it is, but for minus zero
  set : (v w : ℕ) → is_not_calculated row v ≡ false → is_setting row w ≡ true → value_after row (content_of Command row (w ∷ [])) v ≡ normal row w
  unfolding content_of
  set v w calculated s =
      rw (well.set_no_word w s) (cases (λ (c : Content). encoded_data (encoded_of row c) ≡ normal row w ∷ [] → value_after row c v ≡ normal row w) (is_leveller_off row w)
      (λ o e. coded_is (Some (One 0xFF)) v (normal row w) e)
      (λ o e. rw calculated (coded_is (number_code row (number_in row w)) v (normal row w) e))
      (rw (well.set_no_word w s) at says))
    where
      says : encoded_data (encoded_of row (content_of Command row (w ∷ []))) ≡ normal row w ∷ []
      says = (form_promise.read profile command row Command (w ∷ []) there (rw s)).1

  unless : (v w : ℕ) → is_answer row v ≡ true → is_answer row w ≡ true → is_answer row (unless_not_calculated row v w) ≡ true
  unless v w a b = cases (λ (x : ℕ). is_answer row x ≡ true) (is_not_calculated row v) (λ e. a) (λ e. b)

  landed_legal : (v : ℕ) (x : Option Encoded) → is_answer row v ≡ true → is_answer row (landed row x v) ≡ true
  landed_legal v (Some (One c)) a = cases (λ (x : ℕ). is_answer row x ≡ true) (is_answer row c) (λ e. e) (λ e. a)
  landed_legal v (Some (Two b c)) a = a
  landed_legal v None a = a

  stepped_legal : (move : ℤ → ℤ) (v : ℕ) → is_answer row v ≡ true → is_answer row (stepped row move v) ≡ true
  stepped_legal move v a =
      cases (λ (x : ℕ). is_answer row x ≡ true) (is_leveller_off row v) (λ e. a) (λ e. landed_legal v (number_code row (move (number_in row v))) a)

  coded_legal : (v : ℕ) (x : Option Encoded) → code_fits Command row x ≡ true → is_answer row (coded x v) ≡ true
  coded_legal v (Some (One c)) f = well.set_answer c (both (is_setting row c) (not (is_leveller_off row c)) f).0
  coded_legal v (Some (Two b c)) f = clash f
  coded_legal v None f = clash f

  legal : row.pair ≡ false → (v : ℕ) → is_answer row v ≡ true → (c : Content) → is_form Command row c ≡ true → is_answer row (value_after row c v) ≡ true
  legal single v a c form = go c (form_fits profile command row Command c there form)
    where
      go : (c : Content) → fits Command row c ≡ true → is_answer row (value_after row c v) ≡ true
      go Request f = a
      go Up f = stepped_legal suc_ℤ v a
      go Down f = stepped_legal pred_ℤ v a
      go On f = unless v 0x01 a (well.swaps (rw f)).1
      go Off f = unless v 0x00 a (well.swaps (rw f)).0
      go Toggle f =
          let two = well.swaps (rw (f, or-true row.switch)) in
          cases (λ (x : ℕ). is_answer row x ≡ true) (eqb v 0x00) (λ e. two.1) (λ e. two.0)
      go LevellerOff f = well.set_answer 0xFF (both row.off (is_setting row 0xFF) f).1
      go (Number z) f = unless v (coded (number_code row z) v) a (coded_legal v (number_code row z) f)
      go (Input i on) f = clash (sym single ∙ (both row.pair (is_answer row i) f).0)

pub house_promise : (profile : Profile) (command : ℕ) (row : Row) (there : row_of profile command ≡ Some row) → HousePromise profile command row there
house_promise profile command row there = record {
  up = up profile command row there;
  down = down profile command row there;
  off = off profile command row there;
  not_calculated = not_calculated profile command row there;
  switched = λ v e. (rw e, rw e);
  toggled = (refl, refl);
  requested = λ v. refl;
  set = set profile command row there;
  legal = legal profile command row there;
}
