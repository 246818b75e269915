-- What a cell that is put leaves, and that any legal answer value may be held.
use Prim.Native.Nat.{ℕ}
use mathlib.Core.Path.{◌≡◌, refl, sym, ◌∙◌, subst}
use mathlib.Core.Bool.{true, false}
use borrow.Author.Tests.{eqb-true}
use lib.Dec.{eqb}
use Rattle.row.specs.declared.profile.Profile.{Profile}
use Rattle.row.specs.declared.table.Row.{Row}
use Rattle.judging.specs.Judge.{is_answer, is_pair}
use Rattle.frame.proofs.Cases.{cases}
use Rattle.lists.proofs.Tests.{both}
use Rattle.unit.specs.Unit.{Setting, value, input, Settings, same_setting, put}
use Rattle.unit.specs.Legal.{LegalSettings, RowIn}
use Rattle.unit.specs.SettingsPromise.{PutPromise, LegalPromise}
use Rattle.unit.proofs.Cells.{is_cell, cell_self}
use Rattle.std.specs.Prelude.{Ok, Result}
use Rattle.refusals.specs.declared.refusal.Refusal.{Refusal}

pub put_promise : (s : Settings) (x : Setting) (v : ℕ) → PutPromise s x v
put_promise s x v = record {
  held = rw (cell_self x);
  others = λ y apart. cases (λ (w : ℕ). w ≡ s y) (same_setting x y) (λ e. absurd (apart (is_cell x y e))) (λ e. refl);
}

same_row : (r k : Row) → ◌≡◌ {A = Result Row Refusal} (Ok r) (Ok k) → r ≡ k
same_row r k e = cc

module _ (profile : Profile) (s : Settings) (legal : LegalSettings profile s) where
  -- a row's value in a zone, and an input's, put where they are legal
  pub put_value : (zone command v : ℕ) → ((row : Row) → RowIn profile zone command row → row.pair ≡ false → is_answer row v ≡ true)
      → LegalSettings profile (put s (value zone command) v)
  put_value zone command v fits = record {
    rows = λ z c row there single.
        cases (λ (w : ℕ). is_answer row w ≡ true) (same_setting (value zone command) (value z c))
        (λ e.
        let (zones, commands) = both (eqb zone z) (eqb command c) e in
        fits row (rw (eqb-true zone z zones, eqb-true command c commands) there) single)
        (λ e. legal.rows z c row there single);
    inputs = legal.inputs;
    now = legal.now;
  }

  pub put_input : (i v : ℕ) → ((zone command : ℕ) (row : Row) → RowIn profile zone command row → row.pair ≡ true → is_answer row i ≡ true → is_pair row i v ≡ true)
      → LegalSettings profile (put s (input i) v)
  put_input i v fits = record {
    rows = legal.rows;
    inputs = λ z c row there paired j known.
        cases (λ (w : ℕ). is_pair row j w ≡ true) (same_setting (input i) (input j))
        (λ e. subst (λ (k : ℕ). is_answer row k ≡ true → is_pair row k v ≡ true) (eqb-true i j e) (fits z c row there paired) known)
        (λ e. legal.inputs z c row there paired j known);
    now = legal.now;
  }

  pub legal_promise : (v : ℕ) → LegalPromise profile s legal v
  legal_promise v = record {
    row_value = λ zone command row there fits.
        put_value zone command v (λ r here plain. subst (λ (k : Row). is_answer k v ≡ true) (same_row row r (sym there ∙ here)) fits);
    input_value = λ i fits. put_input i v (λ z c row there paired known. fits z c row there paired);
    current_input = λ fits. record { rows = legal.rows; inputs = legal.inputs; now = fits };
  }
