-- Document 01: "Where an answer is an enum, a definition gives this paper's number and values for each of its cases."
use Rattle.std.specs.Prelude.{ℕ, Err, Ok, Result}
use Rattle.refusals.specs.Refusal.{number}
use Rattle.refusals.specs.declared.refusal.Refusal.{Refusal}
use Rattle.row.specs.declared.table.Row.{Row}

abbrev pub judged_number : Result Row Refusal → ℕ
judged_number (Ok row) = 0
judged_number (Err e) = number e
