-- Document 01, 'Tracker': what is kept and what is known.
use Rattle.std.specs.Prelude.{ℕ, Bool, cond, not, ◌&&◌, eqb, get_or, replicate, Err, Ok, Result}
use Rattle.row.specs.declared.profile.Profile.{Profile}
use Rattle.row.specs.declared.table.Row.{Row}
use Rattle.judging.specs.Judge.{row_judged}
use Rattle.sheet.specs.Line.{is_sheet_value}
use Rattle.tracker.specs.Cell.{cell_count, cell_of}
use Rattle.tracker.specs.declared.tracker.Tracker.{Tracker}
use Rattle.tracker.specs.declared.tracker.Kept.{Kept}
use Rattle.tracker.specs.declared.tracker.Kept.TheVariants.{Value, Unknown, NoCell}
use Rattle.refusals.specs.declared.refusal.Refusal.{Refusal}

-- the state of a cell that is known; any other is unknown
abbrev pub known_state : ℕ
known_state = 1

-- "Made new for one profile, it knows nothing."
abbrev pub fresh_tracker : Profile → Tracker
fresh_tracker profile = record { profile = profile; states = replicate cell_count 0; values = replicate cell_count 0 }

-- "In a sheet row a kept byte that is no legal sheet value (the host may have spoilt it) counts as unknown."
abbrev pub is_spoilt : Row → ℕ → Bool
is_spoilt row b = row.sheet && not (is_sheet_value row b)

-- "one byte or unknown per row and zone, S 0F left out": the byte of a known state, unless it was spoilt; S 0F is the row of pairs
abbrev pub kept_at : Tracker → ℕ → Result Row Refusal → Kept
kept_at t zone (Ok row) =
    let b = get_or t.values (cell_of row zone) 0 in
    cond row.pair NoCell (cond (eqb (get_or t.states (cell_of row zone) 0) known_state && not (is_spoilt row b)) (Value b) Unknown)
kept_at t zone (Err e) = NoCell

unfoldable pub kept_in : Tracker → ℕ → ℕ → Kept
kept_in t zone command = kept_at t zone (row_judged t.profile zone command)
