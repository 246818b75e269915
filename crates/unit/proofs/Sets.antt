-- A legal line's frame puts its value in its own cell and touches nothing else, whatever the cell held.
use mathlib.Core.Path.{◌≡◌, refl, ap, ◌∙◌}
use mathlib.Core.Bool.{Bool, true, false, not, ◌&&◌}
use mathlib.Core.List.{[], ◌∷◌}
use Prim.Native.Nat.{ℕ}
use borrow.Author.Tests.{not-true}
use lib.Dec.{eqb}
use Rattle.frame.specs.Frame.{frame_of}
use Rattle.frame.specs.declared.direction.Direction.TheVariants.{Command, Answer}
use Rattle.row.specs.MinusZero.{is_minus_zero}
use Rattle.row.specs.Table.{table, row_of}
use Rattle.row.specs.declared.profile.Profile.{Profile}
use Rattle.row.specs.declared.table.Row.{Row}
use Rattle.judging.specs.Judge.{is_setting, row_judged, judged_of}
use Rattle.message.specs.Content.{content_of}
use Rattle.message.specs.Message.{read_of}
use Rattle.message.specs.declared.content.Content.{Content}
use Rattle.message.specs.declared.read.Message.TheVariants as message
use Rattle.judging.proofs.Judges.{judged_lies, judge_legal}
use Rattle.message.proofs.Readings.{message_legal}
use Rattle.lists.proofs.Tests.{both}
use Rattle.message.proofs.Tidy.{every, row_passes}
use Rattle.sheet.specs.Line.{legal_in, is_legal}
use Rattle.sheetfile.specs.Run.{line_frame}
use Rattle.sheet.specs.declared.line.Line.{Line}
use Rattle.unit.specs.House.{is_not_calculated, value_after}
use Rattle.unit.specs.Unit.{Setting, Settings, put, about, shown, Done, acted_in, done_by, frame_done}
use Rattle.unit.specs.Sending.{setting_of}
use Rattle.unit.specs.UnitPromise.{LinePromise}
use Rattle.unit.proofs.Tests.{clash, implies, implied}
use Rattle.unit.proofs.Cells.{cell_self}
use Rattle.unit.proofs.Houses.{house_promise}
use Rattle.std.specs.Prelude.{Err, Ok, Option, Result, Some}
use Rattle.refusals.specs.declared.refusal.Refusal.{Refusal}

-- neither room EQ nor the row of pairs is a sheet row
abbrev plain : Row → Bool
plain row = implies row.sheet (not row.pair && not (eqb row.code 0x37))

all_plain : every plain table ≡ true
unfolding table
all_plain = refl

-- what makes a line legal
pub record Line-legal (profile : Profile) (l : Line) : Type 0 where
  pub row : Row
  pub judged : row_judged profile l.zone l.command ≡ Ok row
  pub sheet : row.sheet ≡ true
  pub other : is_minus_zero row l.value ≡ false
  pub setting : is_setting row l.value ≡ true

pub line_legal : (profile : Profile) (l : Line) → is_legal profile l ≡ true → Line-legal profile l
unfolding is_legal
line_legal profile l e = go (row_judged profile l.zone l.command) refl e
  where
    go : (j : Result Row Refusal) → row_judged profile l.zone l.command ≡ j → legal_in j l.value ≡ true → Line-legal profile l
    go (Ok row) f g =
        let (sheet, rest) = both row.sheet (not (is_minus_zero row l.value) && is_setting row l.value) g in
        let (other, setting) = both (not (is_minus_zero row l.value)) (is_setting row l.value) rest in
        record { row = row; judged = f; sheet = sheet; other = not-true _ other; setting = setting }
    go (Err n) f g = clash g

module _ (profile : Profile) (l : Line) (legal : is_legal profile l ≡ true) where
  abbrev w : Line-legal profile l
  w = line_legal profile l legal

  abbrev row : Row
  row = w.row

  there : row_of profile l.command ≡ Some row
  there = (judged_lies profile l.zone l.command row w.judged).there

  abbrev says : Content
  says = content_of Command row (l.value ∷ [])

  judged_so : judged_of profile Command l.zone l.command (l.value ∷ []) ≡ Ok row
  judged_so = judge_legal profile Command l.zone l.command (l.value ∷ []) row w.judged ∙ rw w.setting

  -- the frame is read as the command that sets the value
  pub reads : read_of profile Command l.zone l.command 0 (l.value ∷ []) ≡ Ok (message.Command (record { zone = l.zone; command = l.command; content = says }))
  unfolding read_of
  reads = message_legal profile Command l.zone l.command (l.value ∷ []) message.Command row judged_so

  is_plain : (row.pair ≡ false) × (eqb row.code 0x37 ≡ false)
  is_plain =
      let (single, other) = both (not row.pair) (not (eqb row.code 0x37)) (implied row.sheet _ (row_passes plain all_plain profile l.command row there) w.sheet) in
      (not-true _ single, not-true _ other)

  about_cell : (s : Settings) → about row s l.zone l.command says ≡ setting_of l
  about_cell s = let single = is_plain.0 in rw single

  calculated : (v : ℕ) → is_not_calculated row v ≡ false
  calculated v = let other = is_plain.1 in rw other

  holds : (v : ℕ) → value_after row says v ≡ l.value
  holds v = let other = w.other in (house_promise profile l.command row there).set v l.value (calculated v) w.setting ∙ rw other

  -- what is done about a cell, over the row that was found
  abbrev does : Row → Settings → Setting → Done
  does r s x =
      let later = put s x (value_after r says (s x)) in
      record { settings = later; answer = frame_of Answer l.zone l.command 0x00 (shown x (later x)) }

  frame_does : (s : Settings) → frame_done profile s (line_frame l) ≡ does row s (setting_of l)
  unfolding frame_done frame_of
  frame_does s =
      ap (done_by profile s l.zone l.command) reads
      ∙ ap (λ (f : Option Row). acted_in f s (record { zone = l.zone; command = l.command; content = says })) there
      ∙ ap (does row s) (about_cell s)

  frame_sets : (s : Settings) → (frame_done profile s (line_frame l)).settings ≡ put s (setting_of l) l.value
  frame_sets s = ap (λ (d : Done). d.settings) (frame_does s) ∙ ap (put s (setting_of l)) (holds (s (setting_of l)))

  frame_answers : (s : Settings) → (frame_done profile s (line_frame l)).answer ≡ frame_of Answer l.zone l.command 0x00 (l.value ∷ [])
  frame_answers s =
      let held : (does row s (setting_of l)).settings (setting_of l) ≡ l.value = rw (cell_self (setting_of l)) (holds (s (setting_of l))) in
      ap (λ (d : Done). d.answer) (frame_does s) ∙ ap (λ (v : ℕ). frame_of Answer l.zone l.command 0x00 (v ∷ [])) held

pub line_promise : (profile : Profile) (s : Settings) (l : Line) → LinePromise profile s l
line_promise profile s l = record { sets = λ e. frame_sets profile l e s; answers = λ e. frame_answers profile l e s }
