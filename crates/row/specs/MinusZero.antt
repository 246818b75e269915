-- Document 02, C-14: "Read 80 as zero in A 3A, A 45 and A 46, in commands and answers, and in S 3B's answers .. We still write 00." These
-- are the signed rows, and no other row is (`MinusZeroPromise`).
use Rattle.std.specs.Prelude.{ℕ, Bool, cond, ◌&&◌, eqb, None, Option, Some}
use Rattle.row.specs.declared.table.Row.{Row}

-- a code that is minus zero: 80, in a signed row
abbrev pub is_minus_zero : Row → ℕ → Bool
is_minus_zero row code = eqb code 0x80 && row.signed

-- what it is turned into: 00; every other code stands for itself
abbrev pub normal : Row → ℕ → ℕ
normal row code = cond (is_minus_zero row code) 0x00 code

-- in the row that was found; without one every byte stands for itself
abbrev pub normal_in : Option Row → ℕ → ℕ
normal_in (Some row) code = normal row code
normal_in None code = code
