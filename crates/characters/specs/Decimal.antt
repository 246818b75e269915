-- Document 01, 'Bench frames': "Numbers are decimal".
use Rattle.std.specs.Prelude.{ℕ, zero, suc, ◌+◌, ◌-◌, ◌*◌, ◌/◌, ◌%◌, cond, List, [], ◌∷◌, ◌++◌, ltb, ℤ, pos, negsuc}
use Rattle.characters.specs.Letters.{letters}

-- 30 hex is the digit 0
abbrev pub digit : ℕ → ℕ
digit d = 0x30 + d

-- a number below ten is its digit; any other is the number of its tens, and then its last digit. The first argument only bounds how
-- often, and the number itself is bound enough
unfoldable pub decimal_in : ℕ → ℕ → List ℕ
decimal_in zero n = digit n ∷ []
decimal_in (suc k) n = cond (ltb n 10) (digit n ∷ []) (decimal_in k (n / 10) ++ digit (n % 10) ∷ [])

abbrev pub decimal : ℕ → List ℕ
decimal n = decimal_in n n

-- with a minus sign where it is below zero
abbrev pub integer : ℤ → List ℕ
integer (pos n) = decimal n
integer (negsuc n) = letters "-" ++ decimal (suc n)

-- digits read back, behind those that were read: ten times these and the next digit's value
unfoldable pub read_behind : ℕ → List ℕ → ℕ
read_behind value [] = value
read_behind value (d ∷ ds) = read_behind (value * 10 + (d - 0x30)) ds

abbrev pub decimal_read : List ℕ → ℕ
decimal_read ds = read_behind 0 ds
