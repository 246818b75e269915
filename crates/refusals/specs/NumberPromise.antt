-- Promise: each refusal has a number of its own, from 1 on, so that a number tells which it is, and 0 stands for none.
use Rattle.std.specs.Prelude.{◌≡◌}
use Rattle.refusals.specs.declared.refusal.Refusal.{Refusal}
use Rattle.refusals.specs.Refusal.{number}

pub record NumberPromise : Type 0 where
  pub some : (e : Refusal) → number e ≡ 0 → ⊥
  pub own : (e f : Refusal) → number e ≡ number f → e ≡ f
