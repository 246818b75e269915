-- What private functions of `row_table` compute. It need not be believed: the proofs there tie it to the table.
use Rattle.std.specs.Prelude.{ℕ, Bool, true, cond, not, List, eqb, get_or}
use Rattle.row.specs.Table.{◌⋯◌, none}
use Rattle.row.specs.declared.profile.Profile.{Profile}
use Rattle.row.specs.declared.profile.Profile.TheVariants.{A, S}
use Rattle.row.specs.declared.table.Codes.{Codes}
use Rattle.row.specs.declared.table.Row.{Row}

-- a range of codes, or none
abbrev pub codes_if : Bool → ℕ → ℕ → Codes
codes_if has low high = cond has (low ⋯ high) none

-- the row that its numbers write out, at a place of the table
abbrev pub row_from : List ℕ → ℕ → Row
row_from n place = record {
  place = place;
  profile = get_or n 0 0;
  code = get_or n 1 0;
  zones = get_or n 2 0;
  settings = codes_if (not (eqb (get_or n 3 0) 0)) (get_or n 4 0) (get_or n 5 0);
  settings2 = codes_if (eqb (get_or n 3 0) 2) (get_or n 6 0) (get_or n 7 0);
  answers = codes_if true (get_or n 4 0) (get_or n 5 0);
  answers2 = codes_if true (get_or n 6 0) (get_or n 7 0);
  request = eqb (get_or n 8 0) 1;
  steps = eqb (get_or n 9 0) 1;
  switch = eqb (get_or n 9 0) 2;
  toggle = eqb (get_or n 9 0) 3;
  pair = eqb (get_or n 10 0) 1;
  signed = eqb (get_or n 11 0) 1;
  off = eqb (get_or n 12 0) 1;
  sheet = eqb (get_or n 13 0) 1;
}

-- of what the two profiles have, a profile's own
abbrev pub own : {X : Type 0} → Profile → X → X → X
own A a s = a
own S a s = s
