-- What a private function of `sheet_code` computes. It need not be believed: proofs/ ties it to the definitions.
use Rattle.std.specs.Prelude.{List, Option, Some, None}
use Rattle.refusals.specs.Rule.{ruled}
use Rattle.refusals.specs.declared.refusal.Refusal.{Refusal}
use Rattle.row.specs.declared.profile.Profile.{Profile}
use Rattle.sheet.specs.Check.{faults}
use Rattle.sheet.specs.declared.line.Line.{Line}

-- a line's fault behind some lines, if it has one
abbrev pub fault_of : Profile → List Line → Line → Option Refusal
fault_of profile earlier l = ruled (faults profile earlier l) (λ e. Some e) None
