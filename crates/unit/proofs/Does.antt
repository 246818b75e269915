-- What a command does, cell by cell, and what a byte does.
use mathlib.Core.Path.{◌≡◌, refl, ap, ◌∙◌}
use mathlib.Core.Bool.{cond}
use mathlib.Core.List.{List}
use Prim.Native.Nat.{ℕ}
use Rattle.frame.specs.Frame.{frame_of}
use Rattle.frame.specs.declared.direction.Direction.TheVariants.{Answer}
use Rattle.row.specs.Table.{row_of}
use Rattle.row.specs.declared.profile.Profile.{Profile}
use Rattle.row.specs.declared.table.Row.{Row}
use Rattle.message.specs.declared.read.Said.{Said}
use Rattle.message.specs.declared.read.Message.TheVariants as message
use Rattle.unit.specs.House.{value_after}
use Rattle.unit.specs.Unit.{Setting, value, input, current, Settings, put, Unit, shown, about, Done, acted_in, done_by, byte_done, zone_in, command_in, heard, frame_done}
use Rattle.unit.specs.UnitPromise.{ActPromise, BytePromise}
use Rattle.unit.proofs.Cells.{cell_self, put_same}
use Rattle.streams.specs.Stream.{answers_by}
use Rattle.lists.specs.InOrder.{in_order}
use Rattle.std.specs.Prelude.{Ok, Option, Some}

-- a command acts about one cell, over the row that was found
module _ (profile : Profile) (s : Settings) (bytes : List ℕ) (c : Said) (h : heard profile bytes ≡ Ok (message.Command c)) (row : Row)
    (there : row_of profile c.command ≡ Some row) where
  abbrev does : Row → Setting → Done
  does r x =
      let later = put s x (value_after r c.content (s x)) in
      record { settings = later; answer = frame_of Answer c.zone c.command 0x00 (shown x (later x)) }

  acts : frame_done profile s bytes ≡ does row (about row s c.zone c.command c.content)
  unfolding frame_done
  acts =
      ap (done_by profile s (zone_in bytes) (command_in bytes)) h
      ∙ ap (λ (f : Option Row). acted_in f s c) there

  -- about this cell, with this value then
  at_cell : (x : Setting) (v : ℕ) → about row s c.zone c.command c.content ≡ x → value_after row c.content (s x) ≡ v
      → ((frame_done profile s bytes).settings ≡ put s x v) × ((frame_done profile s bytes).answer ≡ frame_of Answer c.zone c.command 0x00 (shown x v))
  at_cell x v e f =
      let whole = acts ∙ ap (does row) e in
      let now : put s x (value_after row c.content (s x)) x ≡ v = rw (cell_self x) f in (
        ap (λ (d : Done). d.settings) whole ∙ ap (put s x) f,
        ap (λ (d : Done). d.answer) whole ∙ ap (λ (w : ℕ). frame_of Answer c.zone c.command 0x00 (shown x w)) now,
      )

  pub act_promise : ActPromise profile s bytes c h row there
  act_promise = record {
    single = λ single. at_cell (value c.zone c.command) (value_after row c.content (s (value c.zone c.command))) (rw single) refl;
    asked = λ paired asked.
        let x = input (s current) in
        let w = at_cell x (s x) (rw (paired, asked)) (rw asked) in
        (w.0 ∙ put_same s x, w.1);
    set = λ paired i on e. at_cell (input i) (cond on 0x01 0x00) (rw (paired, e)) (rw e);
  }

pub byte_promise : (u : Unit) (b : ℕ) → BytePromise u b
unfolding answers_by in_order
byte_promise u b = record {
  frame = λ n e. ap (byte_done u b) e;
  broken = λ n e. ap (byte_done u b) e;
  waiting = λ e. ap (byte_done u b) e;
  noise = λ e. ap (byte_done u b) e;
  reader = refl;
  settings = refl;
  answers = λ bs. refl;
}
