-- Document 01, 'Commands of the two profiles' and 'Refusal numbers', lines 1 to 4; document 02, C-11, refusal 13.
use Rattle.std.specs.Prelude.{ℕ, Bool, true, false, cond, not, ◌&&◌, ◌||◌, List, [], ◌∷◌, eqb, leb, ltb, length, get_or, Err, None, Ok, Option, Result, Some}
use Rattle.refusals.specs.Rule.{Rule, rule, ruled}
use Rattle.frame.specs.declared.direction.Direction.{Direction}
use Rattle.frame.specs.declared.direction.Direction.TheVariants.{Command, Answer}
use Rattle.row.specs.Profile.{zones_of}
use Rattle.row.specs.Table.{row_of}
use Rattle.row.specs.declared.profile.Profile.{Profile}
use Rattle.row.specs.declared.table.Codes.{Codes}
use Rattle.row.specs.declared.table.Row.{Row}
use Rattle.refusals.specs.declared.refusal.Refusal.{Refusal}
use Rattle.refusals.specs.declared.refusal.Refusal.TheVariants.{NoRow, NoStep, WrongLength, WrongValue, WrongZone}

-- a code among a row's codes
abbrev pub within : Codes → ℕ → Bool
within codes b = leb codes.low b && leb b codes.high

abbrev pub is_setting : Row → ℕ → Bool
is_setting row b = within row.settings b || within row.settings2 b

abbrev pub is_answer : Row → ℕ → Bool
is_answer row b = within row.answers b || within row.answers2 b

-- a word of a row: request, step, on, off or toggle. "F0 requests, F1 steps up, F2 steps down", where the row lists them; A 37: "F1 on, F2 off"; S 0E: "02 toggle"
abbrev pub is_word : Row → ℕ → Bool
is_word row b =
    cond (eqb b 0xF0) row.request
    (cond (eqb b 0xF1 || eqb b 0xF2) (row.steps || row.switch)
    (cond (eqb b 0x02) row.toggle false))

-- S 0F: "input, 00/01"; "Inputs of S 0F: 01, 02, 03, 05, 06."
abbrev pub is_pair : Row → ℕ → ℕ → Bool
is_pair row input state = row.pair && (leb state 1 && is_answer row input)

-- "Data is one byte everywhere, except S 0F, whose setting command and answer have two."
abbrev pub has_one_byte : Direction → Row → Bool
has_one_byte Command row = true
has_one_byte Answer row = not row.pair

abbrev pub has_length : Direction → Row → ℕ → Bool
has_length dir row n = cond (eqb n 2) row.pair (eqb n 1 && has_one_byte dir row)

-- one byte of data
abbrev pub has_byte : Direction → Row → ℕ → Bool
has_byte Command row b = is_setting row b || is_word row b
has_byte Answer row b = is_answer row b

-- data of one byte or two
abbrev pub has_value : Direction → Row → List ℕ → Bool
has_value dir row body = cond (eqb (length body) 2) (is_pair row (get_or body 0 0) (get_or body 1 0)) (has_byte dir row (get_or body 0 0))

-- data that the row and direction have
abbrev pub has_data : Direction → Row → List ℕ → Bool
has_data dir row body = has_length dir row (length body) && has_value dir row body

-- 1: "zone not of the profile, or not 1 in a zone-1 row"
abbrev pub wrong_profile_zone : Profile → ℕ → Rule
wrong_profile_zone profile zone = rule WrongZone (eqb zone 0 || ltb (zones_of profile) zone)

abbrev pub wrong_row_zone : Row → ℕ → Rule
wrong_row_zone row zone = rule WrongZone (ltb row.zones zone)

-- 3: "data length that the row and direction lack"
abbrev pub wrong_length : Direction → Row → ℕ → Rule
wrong_length dir row n = rule WrongLength (not (has_length dir row n))

-- "F0, F1 or F2"
abbrev pub is_step_or_request : ℕ → Bool
is_step_or_request b = eqb b 0xF0 || (eqb b 0xF1 || eqb b 0xF2)

-- "A command byte F0, F1 or F2 that the row lacks": the data are that one byte. "S 0F with two data bytes keeps 4."
abbrev pub lacks_step : Row → List ℕ → Bool
lacks_step row body = eqb (length body) 1 && (is_step_or_request (get_or body 0 0) && not (has_byte Command row (get_or body 0 0)))

-- 13: "step or request that this row does not have"
abbrev pub wrong_step : Row → List ℕ → Rule
wrong_step row body = rule NoStep (lacks_step row body)

-- 4: "data value that the row and direction lack". In commands 13 comes "at 4's place in the order", and "4 stays for a setting code
-- outside the row's codes, and for all answers". Whether data are unfit is asked of the value, and in writing of the typed form too.
abbrev pub value_rules : Direction → Row → List ℕ → Bool → List Rule
value_rules Command row body unfit = wrong_step row body ∷ rule WrongValue (unfit && not (lacks_step row body)) ∷ []
value_rules Answer row body unfit = rule WrongValue unfit ∷ []

-- the refusal that these rules give where the data are unfit: one of them applies then, so 4 is given by its rule alone
abbrev pub value_refusal : Direction → Row → List ℕ → Refusal
value_refusal dir row body = ruled (value_rules dir row body true) (λ e. e) WrongValue

-- 2: "command without a row in the profile"; a command with a row goes by rules of that row
abbrev pub by_row : Option Row → (Row → List Rule) → List Rule
by_row None rules = rule NoRow true ∷ []
by_row (Some row) rules = rules row

-- "Commands: zone of the profile, row, zone of the row", and then more rules of the row
abbrev pub row_rules : Profile → ℕ → ℕ → (Row → List Rule) → List Rule
row_rules profile zone command more = wrong_profile_zone profile zone ∷ by_row (row_of profile command) (λ row. wrong_row_zone row zone ∷ more row)

-- "3, 4", or 13
abbrev pub data_rules : Direction → List ℕ → Row → List Rule
data_rules dir body row = wrong_length dir row (length body) ∷ value_rules dir row body (not (has_value dir row body))

abbrev pub judge_rules : Profile → Direction → ℕ → ℕ → List ℕ → List Rule
judge_rules profile dir zone command body = row_rules profile zone command (data_rules dir body)

-- the row that was found; without one it is 2 here too
abbrev pub judged_by : Option Row → Result Row Refusal
judged_by (Some row) = Ok row
judged_by None = Err NoRow

unfoldable pub row_judged : Profile → ℕ → ℕ → Result Row Refusal
row_judged profile zone command = ruled (row_rules profile zone command (λ row. [])) Err (judged_by (row_of profile command))

unfoldable pub judged_of : Profile → Direction → ℕ → ℕ → List ℕ → Result Row Refusal
judged_of profile dir zone command body = ruled (judge_rules profile dir zone command body) Err (judged_by (row_of profile command))
