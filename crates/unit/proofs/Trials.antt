-- The table of trials, computed.
use mathlib.Core.Path.{refl}
use Rattle.unit.specs.UnitTablePromise.{trials, UnitTablePromise}
use Rattle.unit.proofs.Computing.{running}

pub unit_table_promise : UnitTablePromise
unfolding trials running
unit_table_promise = record { all = refl; holds = refl }
