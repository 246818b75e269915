-- Document 01, 'Refusal numbers': how lines of that table give an answer.
use Rattle.std.specs.Prelude.{Bool, cond, List, [], ◌∷◌}
use Rattle.refusals.specs.declared.refusal.Refusal.{Refusal}

-- a line of the table, as a rule: its refusal, and whether it applies
pub record Rule : Type 0 where
  pub refusal : Refusal
  pub applies : Bool

abbrev pub rule : Refusal → Bool → Rule
rule e t = record { refusal = e; applies = t }

-- "Each is given only when its line applies": the first rule in the list that applies refuses with its refusal; where none does, accepted
abbrev pub ruled {ℓ} : {A : Type ℓ} → List Rule → (Refusal → A) → A → A
ruled [] refused accepted = accepted
ruled (r ∷ rs) refused accepted = cond r.applies (refused r.refusal) (ruled rs refused accepted)
