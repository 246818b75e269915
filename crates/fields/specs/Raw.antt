-- Document 01, 'Refusal numbers': "A raw frame (any zone, command, Ac) can be written too, with only 3 and 9."
use Rattle.std.specs.Prelude.{ℕ, List, [], ◌∷◌, ltb, length}
use Rattle.refusals.specs.Rule.{Rule, rule}
use Rattle.frame.specs.Frame.{data_limit}
use Rattle.refusals.specs.declared.refusal.Refusal.TheVariants.{WrongLength}

-- 3: "raw or denied data over 255"
abbrev pub too_long : List ℕ → Rule
too_long body = rule WrongLength (ltb data_limit (length body))

-- "with only 3 and 9": what is written is the frame (`frame_of`), by this rule and then 9 (`write_answered`, `write_left`)
abbrev pub raw_rules : List ℕ → List Rule
raw_rules body = too_long body ∷ []
