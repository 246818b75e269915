-- Document 01, 'Tracker': "It holds one byte or unknown per row and zone": the number of the cell of a row and zone. Any row has
-- one: "S 0F left out" is said where a cell is shown (`kept_at`) and where it is made known (`made_known`).
use Rattle.std.specs.Prelude.{ℕ, ◌+◌, ◌-◌, ◌*◌}
use Rattle.row.specs.Table.{row_count}
use Rattle.row.specs.declared.table.Row.{Row}

-- three cells to each row
abbrev pub cell_count : ℕ
cell_count = row_count * 3

-- the cell of a row and zone, in the table's order
abbrev pub cell_of : Row → ℕ → ℕ
cell_of row zone = row.place * 3 + zone - 1
