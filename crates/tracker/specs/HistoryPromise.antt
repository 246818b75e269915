-- Promise: what a tracker knows of a row and zone is what the last status answer of it said, among all that were fed since it was
-- made new; where there was none, it is unknown.
use Rattle.std.specs.Prelude.{◌≡◌, List, [], ◌∷◌, ◌++◌, ◌⊎◌, ℕ, Ok}
use Rattle.lists.specs.Each.{Each}
use Rattle.frame.specs.declared.direction.Direction.TheVariants as direction
use Rattle.row.specs.declared.profile.Profile.{Profile}
use Rattle.row.specs.declared.table.Row.{Row}
use Rattle.message.specs.Message.{read_of, data_read}
use Rattle.message.specs.declared.read.Said.{Said}
use Rattle.message.specs.declared.read.Message.TheVariants as message
use Rattle.tracker.specs.CellPromise.{HasCell}
use Rattle.tracker.specs.Tracker.{fresh_tracker, kept_in}
use Rattle.tracker.specs.Feed.{BroughtAnswer, answers_fed}
use Rattle.tracker.specs.declared.tracker.Kept.TheVariants.{Value, Unknown}

-- an answer that is a status of this zone and command
abbrev pub IsStatus : Profile → ℕ → ℕ → BroughtAnswer → Type 0
IsStatus profile zone command a =
    (a.zone ≡ zone) × (a.command ≡ command)
    × ((s : Said) × (read_of profile direction.Answer a.zone a.command a.answer a.body ≡ Ok (message.Status s)))

-- the last of some answers that is, with its one byte; document 02, C-14: 80 shows 00
pub record Last (profile : Profile) (zone command : ℕ) (fs : List BroughtAnswer) (b : ℕ) : Type 0 where
  pub before : List BroughtAnswer
  pub answer : BroughtAnswer
  pub later : List BroughtAnswer
  pub whole : fs ≡ before ++ answer ∷ later
  pub status : IsStatus profile zone command answer
  pub none : Each (λ (a : BroughtAnswer). IsStatus profile zone command a → ⊥) later
  pub byte : data_read profile direction.Answer answer.command answer.answer answer.body ≡ b ∷ []

-- of a zone and command that have a cell
pub record HistoryPromise (profile : Profile) (zone command : ℕ) (row : Row) (has : HasCell profile zone command row) (fs : List BroughtAnswer) : Type 0 where
  pub unknown : Each (λ (a : BroughtAnswer). IsStatus profile zone command a → ⊥) fs → kept_in (answers_fed (fresh_tracker profile) fs) zone command ≡ Unknown
  pub last : (b : ℕ) → Last profile zone command fs b → kept_in (answers_fed (fresh_tracker profile) fs) zone command ≡ Value b
  pub either : Each (λ (a : BroughtAnswer). IsStatus profile zone command a → ⊥) fs ⊎ ((b : ℕ) × Last profile zone command fs b)
