-- What the private functions of `tracker_code` compute. Nothing here need be believed: proofs/ ties each form to the definitions.
use Rattle.std.specs.Prelude.{ℕ, ◌<◌, cond, List, eqb, length, get_or, set, Err, None, Ok, Option, Result, Some}
use Rattle.lent.specs.Placed.{bytes_at}
use Rattle.frame.specs.declared.direction.Direction.TheVariants.{Answer}
use Rattle.frame.specs.declared.capture.Kind.{Kind}
use Rattle.frame.specs.declared.capture.Kind.TheVariants as kind
use Rattle.frame.specs.declared.capture.Event.{Event}
use Rattle.fields.specs.Fields.{fields_of, data_of}
use Rattle.row.specs.MinusZero.{normal}
use Rattle.row.specs.declared.profile.Profile.{Profile}
use Rattle.judging.specs.Judge.{is_answer, row_judged}
use Rattle.tracker.specs.Cell.{cell_count, cell_of}
use Rattle.tracker.specs.Tracker.{known_state}
use Rattle.tracker.specs.declared.tracker.Tracker.{Tracker}
use Rattle.refusals.specs.declared.refusal.Refusal.{Refusal}
use Rattle.fields.specs.declared.fields.Fields.{Fields}
use Rattle.row.specs.declared.table.Row.{Row}

-- what the one byte of an accepted answer makes known, in the row that was found for its zone
abbrev pub told_in : Result Row Refusal → ℕ → ℕ → Option (ℕ × ℕ)
told_in (Ok row) zone b = cond row.pair None (cond (is_answer row b) (Some (cell_of row zone, normal row b)) None)
told_in (Err e) zone b = None

-- what an answer makes known: in a row that has cells its data are one byte
abbrev pub told_by : Profile → ℕ → ℕ → ℕ → List ℕ → Option (ℕ × ℕ)
told_by profile zone command ac body =
    cond (eqb ac 0x00) (cond (eqb (length body) 1) (told_in (row_judged profile zone command) zone (get_or body 0 0)) None) None

-- what the bytes of a frame do, and an event of a capture
abbrev pub told_with : Profile → Option Fields → List ℕ → Option (ℕ × ℕ)
told_with profile (Some f) body = told_by profile f.zone f.command f.answer body
told_with profile None body = None

abbrev pub told_of : Profile → List ℕ → Option (ℕ × ℕ)
told_of profile bytes = told_with profile (fields_of Answer bytes) (data_of Answer bytes)

abbrev pub told_as : Profile → Kind → List ℕ → Option (ℕ × ℕ)
told_as profile kind.Frame bytes = told_of profile bytes
told_as profile kind.Broken bytes = None
told_as profile kind.Noise bytes = None
told_as profile kind.Pending bytes = None

abbrev pub told_at : Profile → List ℕ → Event → Option (ℕ × ℕ)
told_at profile capture e = told_as profile e.kind (bytes_at capture e.at e.length)

-- the tracker with it
abbrev pub with_told : Tracker → Option (ℕ × ℕ) → Tracker
with_told t (Some (at, b)) = record { profile = t.profile; states = set t.states at known_state; values = set t.values at b }
with_told t None = t

-- its cell is one of the tracker's
abbrev pub Inside : Option (ℕ × ℕ) → Type 0
Inside (Some (at, b)) = at < cell_count
Inside None = Unit {0}
