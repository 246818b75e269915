-- The contract of each public function here admits one answer.
use mathlib.Core.Path.{◌≡◌}
use Rattle.refusals.specs.OneAnswer.{OneAnswer}
use Rattle.refusals.specs.Refusal.{number, fault}
use Rattle.refusals.specs.declared.refusal.Refusal.{Refusal}
use Rattle.refusals.proofs.One.{one}

pub number_one : (self : Refusal) → OneAnswer (λ x. x ≡ number self)
number_one self = one (number self)

pub fault_one : (refusal : Refusal) → OneAnswer (λ x. x ≡ fault refusal 0)
fault_one refusal = one (fault refusal 0)
