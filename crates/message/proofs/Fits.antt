-- What a row must have for each form: the words that it lists, in commands alone; off and numbers by its codes; an input of the row.
use mathlib.Core.Bool.{Bool, false, not, ◌&&◌}
use Prim.Native.Nat.{ℕ}
use Rattle.frame.specs.declared.direction.Direction.{Direction}
use Rattle.frame.specs.declared.direction.Direction.TheVariants.{Command, Answer}
use Rattle.row.specs.declared.table.Row.{Row}
use Rattle.judging.specs.Judge.{is_setting, is_answer}
use Rattle.message.specs.Content.{is_leveller_off, number_code}
use Rattle.message.specs.declared.content.Content.{Content}
use Rattle.message.specs.declared.content.Content.TheVariants.{Request, Up, Down, On, Off, Toggle, LevellerOff, Number, Input}
use Rattle.message.specs.declared.content.Encoded.{Encoded}
use Rattle.message.specs.declared.content.Encoded.TheVariants.{One, Two}
use Rattle.std.specs.Prelude.{None, Option, Some}

abbrev pub value_byte : Direction → Row → ℕ → Bool
value_byte Command row b = is_setting row b
value_byte Answer row b = is_answer row b

abbrev pub in_command : Direction → Bool → Bool
in_command Command t = t
in_command Answer t = false

abbrev pub code_fits : Direction → Row → Option Encoded → Bool
code_fits dir row (Some (One c)) = value_byte dir row c && not (is_leveller_off row c)
code_fits dir row (Some (Two b c)) = false
code_fits dir row None = false

abbrev pub fits : Direction → Row → Content → Bool
fits dir row Request = in_command dir row.request
fits dir row Up = in_command dir row.steps
fits dir row Down = in_command dir row.steps
fits dir row On = in_command dir row.switch
fits dir row Off = in_command dir row.switch
fits dir row Toggle = in_command dir row.toggle
fits dir row LevellerOff = row.off && value_byte dir row 0xFF
fits dir row (Number z) = code_fits dir row (number_code row z)
fits dir row (Input input on) = row.pair && is_answer row input
