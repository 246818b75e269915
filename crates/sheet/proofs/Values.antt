-- What a sheet may say, computed over the table: 80 nowhere, and in A 45 the forty steps and 0.
use mathlib.Core.Path.{◌≡◌, refl, ap, ◌∙◌, subst}
use mathlib.Core.Bool.{Bool, true, false, cond, not}
use Prim.Native.Nat.{ℕ}
use Rattle.lists.specs.Each.{Each}
use Rattle.lists.proofs.Each.{each_same}
use Rattle.lists.proofs.Tests.{upto, upto_at}
use Rattle.row.specs.Profile.{letter_of}
use Rattle.row.specs.Table.{table, first_row, row_of}
use Rattle.row.specs.declared.profile.Profile.{Profile}
use Rattle.row.specs.declared.profile.Profile.TheVariants.{A}
use Rattle.row.specs.declared.table.Row.{Row}
use Rattle.row.proofs.Rows.{each_found}
use Rattle.judging.specs.Judge.{row_judged}
use Rattle.judging.proofs.Judges.{judged_lies}
use Rattle.sheet.specs.Line.{is_sheet_value, legal_in, is_legal}
use Rattle.sheet.specs.SheetValuePromise.{is_trim, SheetValuePromise}
use Rattle.sheet.specs.declared.line.Line.{Line}
use Rattle.std.specs.Prelude.{Err, Ok, Result, Some}
use Rattle.refusals.specs.declared.refusal.Refusal.{Refusal}

no_80 : Each (λ (row : Row). is_sheet_value row 0x80 ≡ false) table
unfolding table
no_80 = each_same (λ (row : Row). is_sheet_value row 0x80) (λ (row : Row). false) table refl

eighty : (profile : Profile) (l : Line) → l.value ≡ 0x80 → is_legal profile l ≡ false
unfolding is_legal
eighty profile l e = ap (legal_in (row_judged profile l.zone l.command)) e ∙ go (row_judged profile l.zone l.command) refl
  where
    go : (j : Result Row Refusal) → row_judged profile l.zone l.command ≡ j → legal_in j 0x80 ≡ false
    go (Ok row) f =
        each_found (λ (r : Row). is_sheet_value r 0x80 ≡ false) table (letter_of profile) l.command row no_80
        (judged_lies profile l.zone l.command row f).there
    go (Err n) f = refl

abbrev agrees : Row → ℕ → Bool
agrees row v = cond (is_sheet_value row v) (is_trim v) (not (is_trim v))

agree : (s t : Bool) → cond s t (not t) ≡ true → s ≡ t
agree true true e = refl
agree true false e = cc
agree false true e = cc
agree false false e = refl

same_row : (r k : Row) → Some r ≡ Some k → r ≡ k
same_row r k e = cc

all_agree : (row : Row) → row_of A 0x45 ≡ Some row → upto 256 (agrees row) ≡ true
unfolding first_row table upto
all_agree row e = subst (λ (r : Row). upto 256 (agrees r) ≡ true) (same_row _ row e) refl

pub sheet_value_promise : SheetValuePromise
sheet_value_promise = record {
  eighty = eighty;
  trims = λ row there v h. agree (is_sheet_value row v) (is_trim v) (upto_at 256 (agrees row) (all_agree row there) v h);
}
