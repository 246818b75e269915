-- Document 01, 'Tracker': "A status answer, one accepted with Ac 00, makes its one cell known; a denied message, S 0F and a
-- refused frame change nothing." "Answers .. are read under the tracker's profile". Document 02, C-14: "The tracker keeps 00": the byte
-- that is kept is the message's.
use Rattle.std.specs.Prelude.{ℕ, cond, List, [], ◌∷◌, get_or, set, Err, Ok, Result}
use Rattle.frame.specs.declared.direction.Direction.TheVariants as direction
use Rattle.judging.specs.Judge.{row_judged}
use Rattle.message.specs.Content.{encoded_of, encoded_data}
use Rattle.message.specs.Message.{read_of}
use Rattle.message.specs.declared.content.Content.{Content}
use Rattle.message.specs.declared.read.Message.TheVariants as message
use Rattle.tracker.specs.Cell.{cell_of}
use Rattle.tracker.specs.Tracker.{known_state}
use Rattle.row.specs.declared.table.Row.{Row}
use Rattle.tracker.specs.declared.tracker.Tracker.{Tracker}
use Rattle.tracker.specs.declared.feed.AnswerFed.{AnswerFed}
use Rattle.refusals.specs.declared.refusal.Refusal.{Refusal}
use Rattle.message.specs.declared.read.Message.{Message}

-- the first byte of the data that say something in a row
abbrev pub first_byte : Row → Content → ℕ
first_byte row c = get_or (encoded_data (encoded_of row c)) 0 0

-- "makes its one cell known": but for S 0F, the row of pairs
abbrev pub made_known : Tracker → ℕ → Result Row Refusal → Content → Tracker
made_known t zone (Ok row) c =
    cond row.pair t
    (record { profile = t.profile; states = set t.states (cell_of row zone) known_state; values = set t.values (cell_of row zone) (first_byte row c) })
made_known t zone (Err e) c = t

-- what an answer tells, as it was read
abbrev pub told : Tracker → Result Message Refusal → Tracker
told t (Ok (message.Status s)) = made_known t s.zone (row_judged t.profile s.zone s.command) s.content
told t (Ok (message.Denied d)) = t
told t (Ok (message.Command s)) = t
told t (Err e) = t

abbrev pub answer_fed : Tracker → ℕ → ℕ → ℕ → List ℕ → AnswerFed
answer_fed t zone command ac body =
    let r = read_of t.profile direction.Answer zone command ac body in
    record { tracker = told t r; reading = r }

-- what the frame of an answer brings
pub record BroughtAnswer : Type 0 where
  pub zone : ℕ
  pub command : ℕ
  pub answer : ℕ
  pub body : List ℕ

-- "one answer at a time": answers fed one after another
unfoldable pub answers_fed : Tracker → List BroughtAnswer → Tracker
answers_fed t [] = t
answers_fed t (a ∷ fs) = answers_fed (answer_fed t a.zone a.command a.answer a.body).tracker fs
