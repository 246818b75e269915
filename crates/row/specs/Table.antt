-- Document 01, 'Commands of the two profiles': the table, row by row, in its order; with document 02, C-14: "Read 80 as zero in A 3A,
-- A 45 and A 46, in commands and answers, and in S 3B's answers; A 45 runs to A8".
use Rattle.std.specs.Prelude.{ℕ, suc, Bool, false, cond, ◌&&◌, ◌||◌, List, [], ◌∷◌, eqb, None, Option, Some}
use Rattle.row.specs.Profile.{letter_of}
use Rattle.row.specs.declared.profile.Profile.{Profile}
use Rattle.row.specs.declared.profile.Profile.TheVariants.{A, S}
use Rattle.row.specs.declared.table.Codes.{Codes}
use Rattle.row.specs.declared.table.Row.{Row}

-- codes from one to another; and no codes
infix 40 ◌⋯◌
abbrev pub ◌⋯◌ : ℕ → ℕ → Codes
low ⋯ high = record { low = low; high = high }

abbrev pub none : Codes
none = 1 ⋯ 0

-- what a row has beside its codes
pub data Mark : Type 0 where
  -- F0 requests
  request : Mark
  -- F1 steps up, F2 steps down
  steps : Mark
  -- F1 on, F2 off
  switch : Mark
  -- 02 toggles
  toggle : Mark
  -- two bytes, but for the request: an input, which the answer codes list, and 00 or 01
  pair : Mark
  -- "Codes 00 to 7F mean themselves and 81 to FF mean minus (code less 80 hex), in the rows marked signed."
  signed : Mark
  -- FF is off
  off : Mark
  -- "† marks a sheet row"
  † : Mark

abbrev pub mark_number : Mark → ℕ
mark_number request = 0
mark_number steps = 1
mark_number switch = 2
mark_number toggle = 3
mark_number pair = 4
mark_number signed = 5
mark_number off = 6
mark_number † = 7

abbrev pub has : List Mark → Mark → Bool
has [] m = false
has (n ∷ ns) m = eqb (mark_number n) (mark_number m) || has ns m

-- a row: profile, code, its zones (1 to this), setting codes and answer codes in two ranges each, and its marks; it knows its place in the table
abbrev pub row : Profile → ℕ → ℕ → Codes → Codes → Codes → Codes → List Mark → ℕ → Row
row p code zones set set' ans ans' marks place = record {
  place = place;
  profile = letter_of p;
  code = code;
  zones = zones;
  settings = set;
  settings2 = set';
  answers = ans;
  answers2 = ans';
  request = has marks request;
  steps = has marks steps;
  switch = has marks switch;
  toggle = has marks toggle;
  pair = has marks pair;
  signed = has marks signed;
  off = has marks off;
  sheet = has marks †;
}

-- rows at their places, from a given one on
abbrev pub in_places : ℕ → List (ℕ → Row) → List Row
in_places place [] = []
in_places place (r ∷ rs) = r place ∷ in_places (suc place) rs

unfoldable pub table : List Row
table =
    in_places 0
    (row A 0x0F 1 none none (0x00 ⋯ 0x01) none (request ∷ [])  -- direct
    ∷ row A 0x10 1 none none (0x00 ⋯ 0x08) none (request ∷ [])  -- decode 2ch
    ∷ row A 0x11 1 none none (0x00 ⋯ 0x05) none (request ∷ [])  -- decode MCH
    ∷ row A 0x37 3 none none (0x00 ⋯ 0x02) none (request ∷ switch ∷ [])  -- room EQ
    ∷ row A 0x38 3 (0x00 ⋯ 0x02) none (0x00 ⋯ 0x02) none († ∷ request ∷ [])  -- Dolby Volume
    ∷ row A 0x39 3 (0x00 ⋯ 0x0A) (0xFF ⋯ 0xFF) (0x00 ⋯ 0x0A) (0xFF ⋯ 0xFF) († ∷ off ∷ request ∷ steps ∷ [])  -- Leveller
    ∷ row A 0x3A 3 (0x00 ⋯ 0x0F) (0x80 ⋯ 0x8F) (0x00 ⋯ 0x0F) (0x80 ⋯ 0x8F) († ∷ signed ∷ request ∷ steps ∷ [])  -- calibration offset, dB
    ∷ row A 0x44 3 none none (0x00 ⋯ 0x08) none (request ∷ [])  -- sample rate
    ∷ row A 0x45 3 (0x00 ⋯ 0x00) (0x80 ⋯ 0xA8) (0x00 ⋯ 0x00) (0x80 ⋯ 0xA8) († ∷ signed ∷ request ∷ steps ∷ [])  -- sub trim, quarter dB
    ∷ row A 0x46 3 (0x00 ⋯ 0x0A) (0x80 ⋯ 0x8A) (0x00 ⋯ 0x0A) (0x80 ⋯ 0x8A) († ∷ signed ∷ request ∷ steps ∷ [])  -- picture brightness
    ∷ row S 0x0D 2 (0x00 ⋯ 0x63) none (0x00 ⋯ 0x63) none († ∷ request ∷ steps ∷ [])  -- volume
    ∷ row S 0x0E 2 (0x00 ⋯ 0x01) none (0x00 ⋯ 0x01) none († ∷ request ∷ toggle ∷ [])  -- mute
    ∷ row S 0x0F 1 none none (0x01 ⋯ 0x03) (0x05 ⋯ 0x06) (pair ∷ request ∷ [])  -- direct
    ∷ row S 0x37 2 (0x00 ⋯ 0x06) none (0x00 ⋯ 0x06) (0xA0 ⋯ 0xA0) (request ∷ [])  -- room EQ
    ∷ row S 0x3B 2 none none (0x00 ⋯ 0x0C) (0x80 ⋯ 0x8C) (signed ∷ request ∷ [])  -- balance
    ∷ row S 0x44 2 none none (0x00 ⋯ 0x0A) none (request ∷ [])  -- sample rate
    ∷ row S 0x5A 2 none none (0x00 ⋯ 0x01) none (request ∷ [])  -- input detect
    ∷ row S 0x5B 2 (0x00 ⋯ 0x00) (0x02 ⋯ 0x09) (0x00 ⋯ 0x00) (0x02 ⋯ 0x09) († ∷ request ∷ [])  -- processor input
    ∷ row S 0x5C 2 (0x00 ⋯ 0x63) none (0x00 ⋯ 0x63) none († ∷ request ∷ [])  -- processor volume
    ∷ [])

-- as many rows as the table has
abbrev pub row_count : ℕ
row_count = 19

-- is a row that of a profile's letter and a command
abbrev pub is_row_of : ℕ → ℕ → Row → Bool
is_row_of letter command r = eqb r.profile letter && eqb r.code command

-- the first of some rows that a profile has for a command, or none
unfoldable pub first_row : List Row → ℕ → ℕ → Option Row
first_row [] letter command = None
first_row (r ∷ rs) letter command = cond (is_row_of letter command r) (Some r) (first_row rs letter command)

-- the row that a profile has for a command; 2: "command without a row in the profile"
abbrev pub row_of : Profile → ℕ → Option Row
row_of p command = first_row table (letter_of p) command
