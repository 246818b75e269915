use mathlib.Core.Path.{◌≡◌}
use mathlib.Core.List.{[]}
use lib.ListN.{take, drop}
use Rattle.sheet.specs.Check.{lowest_fault}
use Rattle.sheet_code.proofs.check.lowest.Given as goal

abbrev pub invariant-loop-place : goal.invariant-loop-place
invariant-loop-place l = lowest_fault l.profile [] l.lines ≡ lowest_fault l.profile (take l.place l.lines) (drop l.place l.lines)
