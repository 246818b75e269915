-- Document 01, 'The unit': what a command makes of its row's value.
use Rattle.std.specs.Prelude.{ℕ, Bool, cond, ◌&&◌, eqb, ℤ, Option, Some, None}
use Rattle.std.proofs.Math.IntN.{suc_ℤ, pred_ℤ}
use Rattle.row.specs.Profile.{letter_of}
use Rattle.row.specs.declared.profile.Profile.TheVariants.{A}
use Rattle.row.specs.declared.table.Row.{Row}
use Rattle.judging.specs.Judge.{is_answer}
use Rattle.message.specs.Content.{is_leveller_off, number_in, number_code}
use Rattle.message.specs.declared.content.Content.{Content}
use Rattle.message.specs.declared.content.Content.TheVariants.{Request, Up, Down, On, Off, Toggle, LevellerOff, Number, Input}
use Rattle.message.specs.declared.content.Encoded.{Encoded}
use Rattle.message.specs.declared.content.Encoded.TheVariants.{One, Two}

-- "A 37 room EQ: .. 02 not calculated"; "S 37 room EQ: .. A0 not calculated"
abbrev pub is_not_calculated : Row → ℕ → Bool
is_not_calculated row v = eqb row.code 0x37 && eqb v (cond (eqb row.profile (letter_of A)) 0x02 0xA0)

-- "room EQ not calculated stays so", under F1 and F2 and under a setting
abbrev pub unless_not_calculated : Row → ℕ → ℕ → ℕ
unless_not_calculated row v w = cond (is_not_calculated row v) v w

-- "a step past either end leaves the value": where the number that it moves to has no code among the row's answers
abbrev pub landed : Row → Option Encoded → ℕ → ℕ
landed row (Some (One c)) v = cond (is_answer row c) c v
landed row (Some (Two b c)) v = v
landed row None v = v

-- "A step moves the value by one, in signed rows the signed value (up from 81 is 00)."; "Leveller off stays off under steps"
abbrev pub stepped : Row → (ℤ → ℤ) → ℕ → ℕ
stepped row move v = cond (is_leveller_off row v) v (landed row (number_code row (move (number_in row v))) v)

-- a number that is set is set as its code
abbrev pub coded : Option Encoded → ℕ → ℕ
coded (Some (One c)) v = c
coded (Some (Two b c)) v = v
coded None v = v

-- the value after a command, by what the command says and the value before
abbrev pub value_after : Row → Content → ℕ → ℕ
value_after row Request v = v
value_after row Up v = stepped row suc_ℤ v
value_after row Down v = stepped row pred_ℤ v
-- A 37: "00 off, 01 on"
value_after row On v = unless_not_calculated row v 0x01
value_after row Off v = unless_not_calculated row v 0x00
-- "Toggle swaps 00 and 01."
value_after row Toggle v = cond (eqb v 0x00) 0x01 0x00
-- A 39: "FF off"
value_after row LevellerOff v = 0xFF
value_after row (Number z) v = unless_not_calculated row v (coded (number_code row z) v)
-- S 0F: "input, 00/01", the named input's value
value_after row (Input input on) v = cond on 0x01 0x00
