-- Promise: demand 3 of a sending with so many zeros, for any legal lines of which no two have the same zone and row. For how many zeros
-- it holds, FlushPromise.antt says.
use Rattle.std.specs.Prelude.{ℕ, ◌≡◌, true, List}
use Rattle.row.specs.declared.profile.Profile.{Profile}
use Rattle.sheet.specs.Line.{is_legal}
use Rattle.sheet.specs.declared.line.Line.{Line}
use Rattle.unit.specs.Unit.{Settings}
use Rattle.lists.specs.Each.{Each}
use Rattle.unit.specs.Sending.{AreBytes, Apart, sending, sendings}
use Rattle.unit.specs.Demand3.{stopped, Promised}

pub record SendingPromise (zeros : ℕ) : Type 0 where
  pub holds : (profile : Profile) (s : Settings) (before : List ℕ) (ls : List Line) (cuts : List ℕ)
      → AreBytes before → Each (λ (l : Line). is_legal profile l ≡ true) ls → Apart ls
      → Promised (stopped profile s before) ls (sendings cuts (sending zeros ls))
