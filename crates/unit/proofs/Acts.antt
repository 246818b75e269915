-- A frame is refused or acts, and what it leaves is legal.
use mathlib.Core.Path.{◌≡◌, refl, ap, sym, ◌∙◌, subst}
use mathlib.Core.Bool.{Bool, true, false, cond, not, ◌&&◌, ◌||◌}
use mathlib.Core.List.{List}
use Prim.Native.Nat.{ℕ}
use borrow.Author.Tests.{not-true}
use lib.Dec.{leb}
use Rattle.refusals.specs.Rule.{Rule}
use Rattle.fields.specs.Fields.{data_in}
use Rattle.frame.specs.declared.direction.Direction.TheVariants.{Command}
use Rattle.frame.proofs.Cases.{cases}
use Rattle.refusals.proofs.Ruled.{refuses, first_refused, refused_with, accepted_by}
use Rattle.row.specs.Table.{table, row_of}
use Rattle.row.specs.declared.profile.Profile.{Profile}
use Rattle.row.specs.declared.table.Row.{Row}
use Rattle.judging.specs.Judge.{is_setting, is_answer, judge_rules}
use Rattle.message.specs.Content.{is_leveller_off, content_of, encoded_of, number_code, is_form}
use Rattle.message.specs.Message.{said, message_in, read_of}
use Rattle.message.specs.declared.content.Content.{Content}
use Rattle.message.specs.declared.content.Content.TheVariants.{Request, Up, Down, On, Off, Toggle, LevellerOff, Number, Input}
use Rattle.message.specs.declared.content.Encoded.{Encoded}
use Rattle.message.specs.declared.content.Encoded.TheVariants.{One, Two}
use Rattle.message.specs.declared.read.Said.{Said}
use Rattle.message.specs.declared.read.Message.TheVariants as message
use Rattle.judging.proofs.Judges.{Lies, lies_judged, judged_lies, judge_passes, same_row}
use Rattle.message.proofs.Fits.{code_fits, fits}
use Rattle.message.proofs.Forms.{form_promise, form_fits}
use Rattle.lists.proofs.Tests.{both, upto, upto_at}
use Rattle.message.proofs.Tidy.{every, row_passes}
use Rattle.unit.specs.House.{value_after}
use Rattle.unit.specs.Unit.{Setting, value, input, current, Settings, same_setting, put, named, about, Done, refused, acted, acted_in, done_by, zone_in, command_in, heard, frame_done}
use Rattle.unit.specs.Legal.{LegalSettings, RowIn}
use Rattle.unit.proofs.Tests.{clash, none_of, implies, implied}
use Rattle.unit.proofs.Houses.{well, house_promise}
use Rattle.unit.proofs.Cells.{put_same}
use Rattle.unit.proofs.Settings.{put_value, put_input}
use Rattle.std.specs.Prelude.{Err, None, Option, Some}
use Rattle.refusals.specs.declared.refusal.Refusal.{Refusal}

-- a command that none of the rules refuses: its row, and a form of that row
pub record Accepted (profile : Profile) (zone command : ℕ) (body : List ℕ) : Type 0 where
  pub row : Row
  pub lies : Lies profile zone command row
  pub row_in : RowIn profile zone command row
  pub there : row_of profile command ≡ Some row
  pub form : is_form Command row (content_of Command row body) ≡ true

pub accepted : (profile : Profile) (zone command : ℕ) (body : List ℕ) → refuses (judge_rules profile Command zone command body) ≡ false → Accepted profile zone command body
accepted profile zone command body e =
    let passes = judge_passes profile Command zone command body e in
    let there = passes.lies.there in
    record {
      row = passes.row;
      lies = passes.lies;
      row_in = lies_judged profile zone command passes.row passes.lies;
      there = there;
      form = (form_promise.read profile command passes.row Command body there (rw passes.long passes.value)).0;
    }

module _ (profile : Profile) (s : Settings) (bytes : List ℕ) where
  abbrev rules : List Rule
  rules = judge_rules profile Command (zone_in bytes) (command_in bytes) (data_in Command bytes)

  -- what is heard, in a row
  abbrev hears : Row → Said
  hears row = said Command row (zone_in bytes) (command_in bytes) (data_in Command bytes)

  abbrev accepts : Type 0
  accepts = Accepted profile (zone_in bytes) (command_in bytes) (data_in Command bytes)

  abbrev does : Row → Done
  does row = acted row s (hears row)

  pub done_refused : (n : Refusal) → heard profile bytes ≡ Err n → frame_done profile s bytes ≡ refused s (zone_in bytes) (command_in bytes) n
  unfolding frame_done
  done_refused n e = ap (done_by profile s (zone_in bytes) (command_in bytes)) e

  pub done_acted : refuses rules ≡ false → (a : accepts) → frame_done profile s bytes ≡ does a.row
  unfolding frame_done read_of
  done_acted e a =
      ap (done_by profile s (zone_in bytes) (command_in bytes))
      (accepted_by rules Err _ e ∙ ap (λ (f : Option Row). message_in f (λ row. message.Command (hears row))) a.there)
      ∙ ap (λ (f : Option Row). acted_in f s (hears a.row)) a.there

  is_refused : refuses rules ≡ true → heard profile bytes ≡ Err (first_refused rules)
  unfolding read_of
  is_refused e = refused_with rules Err _ (first_refused rules) e refl

  -- what holds after a refusal, and after a command that acts, holds after any frame
  pub either : (P : Done → Type 0) → ((n : Refusal) → P (refused s (zone_in bytes) (command_in bytes) n)) → ((a : accepts) → P (does a.row)) → P (frame_done profile s bytes)
  either P denied acts = go (refuses rules) refl
    where
      go : (t : Bool) → refuses rules ≡ t → P (frame_done profile s bytes)
      go true e = subst P (sym (done_refused (first_refused rules) (is_refused e))) (denied (first_refused rules))
      go false e =
          let a = accepted profile (zone_in bytes) (command_in bytes) (data_in Command bytes) e in
          subst P (sym (done_acted e a)) (acts a)

-- a row of pairs has only the request and its pairs
abbrev pairs_alone : Row → Bool
pairs_alone row = implies row.pair (not (row.steps || (row.switch || (row.toggle || row.off))) && upto 256 (λ b. not (is_setting row b)))

pairs_alone_lem : every pairs_alone table ≡ true
unfolding table upto
pairs_alone_lem = refl

module _ (profile : Profile) (command : ℕ) (row : Row) (there : row_of profile command ≡ Some row) (paired : row.pair ≡ true) where
  alone : (not (row.steps || (row.switch || (row.toggle || row.off))) ≡ true) × (upto 256 (λ b. not (is_setting row b)) ≡ true)
  alone = both _ _ (implied row.pair _ (row_passes pairs_alone pairs_alone_lem profile command row there) paired)

  marks : (row.steps ≡ false) × (row.switch ≡ false) × (row.toggle ≡ false) × (row.off ≡ false)
  marks = none_of _ _ _ _ (not-true _ alone.0)

  no_setting : (b : ℕ) → is_setting row b ≡ true → is_setting row b ≡ false
  no_setting b e =
      let w = well profile command row there in
      not-true _ (upto_at 256 (λ b. not (is_setting row b)) alone.1 b (w.answer_byte b (w.set_answer b e)))

  no_code : {X : Type 0} (x : Option Encoded) → code_fits Command row x ≡ true → X
  no_code (Some (One c)) f = let s = (both (is_setting row c) (not (is_leveller_off row c)) f).0 in clash (sym (no_setting c s) ∙ s)
  no_code (Some (Two b c)) f = clash f
  no_code None f = clash f

  pub paired_form : (P : Content → Type 0) → P Request → ((i : ℕ) (on : Bool) → is_answer row i ≡ true → P (Input i on)) → (c : Content) → is_form Command row c ≡ true → P c
  paired_form P r p c form = go c (form_fits profile command row Command c there form)
    where
      go : (c : Content) → fits Command row c ≡ true → P c
      go Request f = r
      go Up f = clash (sym marks.0 ∙ f)
      go Down f = clash (sym marks.0 ∙ f)
      go On f = clash (sym marks.1 ∙ f)
      go Off f = clash (sym marks.1 ∙ f)
      go Toggle f = clash (sym marks.2 ∙ f)
      go LevellerOff f = clash (sym marks.3 ∙ (both row.off (is_setting row 0xFF) f).0)
      go (Number z) f = no_code (number_code row z) f
      go (Input i on) f = p i on (both row.pair (is_answer row i) f).1

-- which cell a command is about
module _ (row : Row) (s : Settings) (zone command : ℕ) (c : Content) where
  pub about_pair : row.pair ≡ true → about row s zone command c ≡ input (named (encoded_of row c) (s current))
  about_pair e = ap (λ (t : Bool). cond t (input (named (encoded_of row c) (s current))) (value zone command)) e

  pub about_single : row.pair ≡ false → about row s zone command c ≡ value zone command
  about_single e = ap (λ (t : Bool). cond t (input (named (encoded_of row c) (s current))) (value zone command)) e

pub bit_small : (on : Bool) → leb (cond on 0x01 0x00) 1 ≡ true
bit_small true = refl
bit_small false = refl

module _ (profile : Profile) (s : Settings) (l : LegalSettings profile s) where
  module _ (zone command : ℕ) (body : List ℕ) (a : Accepted profile zone command body) where
    -- the value that a command makes is legal in its row
    pub made_legal : (c : Content) → is_form Command a.row c ≡ true → (row : Row) → RowIn profile zone command row → row.pair ≡ false
        → is_answer row (value_after a.row c (s (value zone command))) ≡ true
    made_legal c f row there single =
        let same : row ≡ a.row = same_row (row_of profile command) row a.row (judged_lies profile zone command row there).there a.there in
        let alone : a.row.pair ≡ false = rw (← same) single in
        rw same ((house_promise profile command a.row a.there).legal alone (s (value zone command)) (l.rows zone command a.row a.row_in alone) c f)

    abbrev made : Content → Setting → Settings
    made c x = put s x (value_after a.row c (s x))

    said_legal : (c : Content) → is_form Command a.row c ≡ true → LegalSettings profile (made c (about a.row s zone command c))
    said_legal c f = go a.row.pair refl
      where
        go : (t : Bool) → a.row.pair ≡ t → LegalSettings profile (made c (about a.row s zone command c))
        go true e =
            paired_form profile command a.row a.there e (λ c. LegalSettings profile (made c (about a.row s zone command c)))
            (subst (LegalSettings profile) (sym (put_same s (about a.row s zone command Request))) l)
            (λ i on known. subst (λ (x : Setting). LegalSettings profile (made (Input i on) x)) (sym (about_pair a.row s zone command (Input i on) e)) (put_input profile s l i (cond on 0x01 0x00) (λ z c row there paired known. rw (paired, bit_small on, known)))) c f
        go false e =
            subst (λ (x : Setting). LegalSettings profile (made c x)) (sym (about_single a.row s zone command c e))
            (put_value profile s l zone command (value_after a.row c (s (value zone command))) (made_legal c f))

pub frame_legal : (profile : Profile) (s : Settings) (bytes : List ℕ) → LegalSettings profile s → LegalSettings profile (frame_done profile s bytes).settings
frame_legal profile s bytes l =
    either profile s bytes (λ (d : Done). LegalSettings profile d.settings) (λ n. l)
    (λ a. said_legal profile s l (zone_in bytes) (command_in bytes) (data_in Command bytes) a _ a.form)

-- no command is about the current input
not_current : (row : Row) (s : Settings) (zone command : ℕ) (c : Content) → same_setting (about row s zone command c) current ≡ false
not_current row s zone command c = cases (λ (x : Setting). same_setting x current ≡ false) row.pair (λ e. refl) (λ e. refl)

pub frame_now : (profile : Profile) (s : Settings) (bytes : List ℕ) → (frame_done profile s bytes).settings current ≡ s current
frame_now profile s bytes =
    either profile s bytes (λ (d : Done). d.settings current ≡ s current) (λ n. refl)
    (λ a. rw (not_current a.row s (zone_in bytes) (command_in bytes) (content_of Command a.row (data_in Command bytes))))
