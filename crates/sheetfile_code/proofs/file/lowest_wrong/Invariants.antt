use mathlib.Core.Path.{◌≡◌}
use lib.ListN.{drop}
use Rattle.sheetfile.specs.File.{lowest_wrong}
use Rattle.sheetfile.specs.Computed.{records_in}
use Rattle.sheetfile_code.proofs.file.lowest_wrong.Given as goal

abbrev pub invariant-loop-place : goal.invariant-loop-place
invariant-loop-place l = lowest_wrong l.profile 0 (records_in l.records) ≡ lowest_wrong l.profile l.place (records_in (drop l.place l.records))
