-- The code's own two tables are computed against the rows, all of their entries at once.
use Rattle.std.proofs.Common.{refl}
use Rattle.lists.proofs.Tests.{upto}
use Rattle.row.specs.Table.{table, first_row}
use Rattle.row.specs.Kind.{kind_at}
use Rattle.row.proofs.Named.{tables_have}
use Rattle.row_table.proofs.table.kind_of.Goals as goal

pub kind_in_tables-requires : goal.kind_in_tables-requires
unfolding table first_row kind_at upto
kind_in_tables-requires c = tables_have _ _ refl
