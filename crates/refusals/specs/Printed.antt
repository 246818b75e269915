-- How a refusal prints: "refused 7", and with its place "refused 7 at 2".
use Rattle.std.specs.Prelude.{ℕ, List, ◌++◌, codes}
use Rattle.std.specs.Fmt.{decimal}
use Rattle.refusals.specs.Refusal.{number}
use Rattle.refusals.specs.declared.refusal.Refusal.{Refusal}
use Rattle.refusals.specs.declared.refusal.Fault.{Fault}

abbrev pub refusal_printed : Refusal → List ℕ
refusal_printed e = codes "refused " ++ decimal (number e)

abbrev pub fault_printed : Fault → List ℕ
fault_printed f = refusal_printed f.refusal ++ codes " at " ++ decimal f.place
