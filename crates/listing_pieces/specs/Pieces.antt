-- The listing in pieces of bounded size: lines as long as there is room for any line, and the place where the next piece goes on.
use Rattle.std.specs.Prelude.{ℕ, zero, suc, ◌+◌, ◌-◌, cond, List, [], ◌∷◌, ◌++◌, ltb, length, drop, Err, Ok, Result}
use Rattle.lists.specs.InOrder.{in_order}
use Rattle.refusals.specs.Rule.{Rule, rule, ruled}
use Rattle.refusals.specs.declared.refusal.Refusal.{Refusal}
use Rattle.refusals.specs.declared.refusal.Refusal.TheVariants.{NoRoom}
use Rattle.lent.specs.Placed.{placed}
use Rattle.frame.specs.Capture.{totals_of, events_from}
use Rattle.frame.specs.declared.direction.Direction.{Direction}
use Rattle.frame.specs.declared.capture.Event.{Event}
use Rattle.row.specs.declared.profile.Profile.{Profile}
use Rattle.listing_pieces.specs.declared.piece.Place.{Place}
use Rattle.listing_pieces.specs.declared.piece.Place.TheVariants as place
use Rattle.listing_pieces.specs.declared.piece.Piece.{Piece}
use Rattle.listing_text.specs.Listing.{heading, event_line, total_line, refused_text, asked}

-- room for any line
abbrev pub line_limit : ℕ
line_limit = 64

-- text that is given out, and the place where the listing goes on behind it
pub record Given : Type 0 where
  pub text : List ℕ
  pub next : Place

abbrev pub given : List ℕ → Place → Given
given text next = record { text = text; next = next }

-- the lines yet to come: an event's line, and then the events behind it; the totals are the last
unfoldable pub coming_events : Profile → Direction → List ℕ → List Event → List Given
coming_events profile dir capture [] = given (total_line (length capture) (totals_of dir capture)) place.End ∷ []
coming_events profile dir capture (e ∷ es) =
    given (event_line profile dir capture e) (place.Event (e.at + e.length)) ∷ coming_events profile dir capture es

abbrev pub coming_from : Profile → Direction → List ℕ → Place → List Given
coming_from profile dir capture place.Start = given heading (place.Event 0) ∷ coming_events profile dir capture (events_from dir capture 0)
coming_from profile dir capture (place.Event at) = coming_events profile dir capture (events_from dir capture at)
coming_from profile dir capture place.End = []

abbrev pub coming_refused : Refusal → Place → List Given
coming_refused e place.Start = given (refused_text e) place.End ∷ []
coming_refused e (place.Event at) = []
coming_refused e place.End = []

abbrev pub coming_as : Result (Profile × Direction) Refusal → List ℕ → Place → List Given
coming_as (Ok (p, dir)) capture at = coming_from p dir capture at
coming_as (Err e) capture at = coming_refused e at

abbrev pub coming_in : List ℕ → Place → List Given
coming_in input at = coming_as (asked input) (drop 2 input) at

-- lines, as long as there is room for any line
unfoldable pub filled : ℕ → Place → List Given → Given
filled room at [] = given [] at
filled room at (g ∷ gs) =
    cond (ltb room line_limit) (given [] at) (given (g.text ++ (filled (room - length g.text) g.next gs).text) (filled (room - length g.text) g.next gs).next)

-- the next piece of an input's listing
abbrev pub piece_of : List ℕ → Place → ℕ → Given
piece_of input at room = filled room at (coming_in input at)

-- 9: "the lent buffer has too few bytes"
abbrev pub no_room_for_line : List ℕ → Rule
no_room_for_line buf = rule NoRoom (ltb (length buf) line_limit)

abbrev pub text_as : Given → Piece
text_as g = record { length = length g.text; next = g.next }

abbrev pub piece_answered : List ℕ → Place → List ℕ → Result Piece Refusal
piece_answered input at buf = ruled (no_room_for_line buf ∷ []) Err (Ok (text_as (piece_of input at (length buf))))

abbrev pub piece_left : List ℕ → Place → List ℕ → List ℕ
piece_left input at buf = ruled (no_room_for_line buf ∷ []) (λ n. buf) (placed buf 0 (piece_of input at (length buf)).text)

-- all that is yet to come
abbrev pub texts : List Given → List ℕ
texts gs = in_order (λ (g : Given). g.text) gs

-- what a number of pieces give out, one after another, each into a buffer of the same size
unfoldable pub pieces : ℕ → ℕ → List ℕ → Place → List ℕ
pieces zero room input at = []
pieces (suc n) room input at = (piece_of input at room).text ++ pieces n room input (piece_of input at room).next
