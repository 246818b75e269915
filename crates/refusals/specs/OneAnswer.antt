-- Document 01, 'What the contracts have to exclude': "the contract admits one answer only".
use Rattle.std.specs.Prelude.{◌≡◌}

-- any two answers that meet a contract are equal
abbrev pub OneAnswer : {A : Type 0} → (A → Type 0) → Type 0
OneAnswer {A} Meets = (x y : A) → Meets x → Meets y → x ≡ y
