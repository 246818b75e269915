-- Legal data and the forms of a row are inverse to each other, but for minus zero.
use mathlib.Core.Path.{◌≡◌, refl, ap, sym, ◌∙◌}
use mathlib.Core.Bool.{true, false}
use mathlib.Core.List.{List, [], ◌∷◌, map}
use Prim.Native.Nat.{ℕ}
use borrow.Author.Tests.{eq-eqb}
use Rattle.frame.specs.declared.direction.Direction.{Direction}
use Rattle.lists.specs.Each.{Each}
use Rattle.row.specs.MinusZero.{is_minus_zero, normal}
use Rattle.row.specs.Table.{row_of}
use Rattle.row.specs.declared.profile.Profile.{Profile}
use Rattle.row.specs.declared.table.Row.{Row}
use Rattle.row.proofs.Turned.{minus_zero_promise}
use Rattle.judging.specs.Judge.{has_data}
use Rattle.message.specs.Content.{content_of, encoded_of, encoded_data, form_number, is_form}
use Rattle.message.specs.FormPromise.{FormPromise}
use Rattle.message.specs.declared.content.Content.{Content}
use Rattle.message.proofs.Fits.{fits}
use Rattle.message.proofs.Tidy.{row_tidy}
use Rattle.message.proofs.Says.{data_says, normal_says}
use Rattle.message.proofs.Written.{writes}
use Rattle.std.specs.Prelude.{Some}

-- data that say a form whose data stand for them
said_form : (dir : Direction) (row : Row) (body turned : List ℕ) → encoded_data (encoded_of row (content_of dir row body)) ≡ turned
    → has_data dir row turned ≡ true → content_of dir row turned ≡ content_of dir row body → is_form dir row (content_of dir row body) ≡ true
unfolding is_form
said_form dir row body turned e legal same = let n = form_number (content_of dir row body) in rw (e, legal, same) (eq-eqb n n refl)

-- the codes that codes are turned into are none of them minus zero
all_turned : (row : Row) (body : List ℕ) → Each (λ (b : ℕ). is_minus_zero row b ≡ false) (map (normal row) body)
all_turned row [] = tt
all_turned row (b ∷ body) = (minus_zero_promise.again row b, all_turned row body)

-- a form's data stand for themselves
form_turned : (profile : Profile) (command : ℕ) (row : Row) (dir : Direction) (content : Content) → row_of profile command ≡ Some row → is_form dir row content ≡ true
    → encoded_data (encoded_of row content) ≡ map (normal row) (encoded_data (encoded_of row content))
form_turned profile command row dir content e form =
    let w = writes dir row content form in
    ap (λ (c : Content). encoded_data (encoded_of row c)) (sym w.2) ∙ (data_says row dir (row_tidy profile command row e dir) _ w.0).1

pub form_promise : FormPromise
form_promise = record {
  read = λ profile command row dir body e legal.
      let tidy = row_tidy profile command row e dir in
      let says = data_says row dir tidy body legal in
      let stands = normal_says row dir tidy body legal in
      (said_form dir row body (map (normal row) body) says.1 stands.0 stands.1, says.1);
  written = λ profile command row dir content e form. writes dir row content form;
  never = λ profile command row dir content e form. rw (form_turned profile command row dir content e form) (all_turned row (encoded_data (encoded_of row content)));
}

-- a form of the row is one that the row has what it takes for
pub form_fits : (profile : Profile) (command : ℕ) (row : Row) (dir : Direction) (content : Content) → row_of profile command ≡ Some row → is_form dir row content ≡ true
    → fits dir row content ≡ true
form_fits profile command row dir content e form =
    let w = writes dir row content form in
    rw w.2 at (data_says row dir (row_tidy profile command row e dir) (encoded_data (encoded_of row content)) w.0).0
