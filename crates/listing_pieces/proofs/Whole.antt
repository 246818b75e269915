-- The pieces, put together, are the listing.
use mathlib.Core.Path.{◌≡◌, refl, ap, sym, subst, ◌∙◌}
use mathlib.Core.List.{List, [], ◌∷◌, ◌++◌, append-nil, append_assoc}
use Prim.Native.Nat.{ℕ, zero, suc, ◌+◌, ◌-◌, ◌≤◌, ◌<◌}
use native.Mathlib.Omega.{arith}
use borrow.Author.Tests.{le-ltb}
use lib.ListN.{length, take, drop}
use lib.Seq.{take-append_seam, drop-append_seam}
use Rattle.lists.specs.InOrder.{in_order}
use Rattle.frame.specs.Capture.{totals_of, events_from}
use Rattle.frame.specs.declared.direction.Direction.{Direction}
use Rattle.frame.specs.declared.capture.Event.{Event}
use Rattle.row.specs.declared.profile.Profile.{Profile}
use Rattle.listing_text.specs.Listing.{heading, event_line, event_lines, total_line, refused_text, asked, listed_as, listed}
use Rattle.listing_pieces.specs.Pieces.{line_limit, Given, given, coming_events, coming_from, coming_refused, coming_as, coming_in, filled, piece_of, text_as, piece_answered, piece_left, texts, pieces}
use Rattle.listing_pieces.specs.PiecesPromise.{PiecesPromise}
use Rattle.listing_pieces.specs.Computed.{first_text, first_next}
use Rattle.listing_pieces.specs.declared.piece.Place.{Place}
use Rattle.listing_pieces.specs.declared.piece.Place.TheVariants as place
use Rattle.listing_pieces.specs.declared.piece.Piece.{Piece}
use Rattle.listing_pieces.proofs.Pieces.{filled_on, filled_cases, lines_on}
use Rattle.std.specs.Prelude.{Err, Ok, Result}
use Rattle.refusals.specs.declared.refusal.Refusal.{Refusal}

-- the lines behind a line are those of the place that it leads to
abbrev Chain : (Place → List Given) → Type 0
Chain lines = (at : Place) (g : Given) (gs : List Given) → lines at ≡ g ∷ gs → gs ≡ lines g.next

chain_of : (profile : Profile) (dir : Direction) (capture : List ℕ) → Chain (coming_from profile dir capture)
chain_of profile dir capture place.Start g gs e =
    let same = lines_on profile dir capture place.Start (λ f. cc) in cc
chain_of profile dir capture (place.Event at) g gs e =
    let on = lines_on profile dir capture (place.Event at) (λ f. cc) in
    let tails : g ∷ gs ≡ given (first_text (coming_from profile dir capture (place.Event at))) (first_next (place.Event at) (coming_from profile dir capture (place.Event at))) ∷ coming_from profile dir capture (first_next (place.Event at) (coming_from profile dir capture (place.Event at))) = sym e ∙ on in
    let others : gs ≡ coming_from profile dir capture (first_next (place.Event at) (coming_from profile dir capture (place.Event at))) = cc in
    others ∙ ap (λ (xs : List Given). coming_from profile dir capture (first_next (place.Event at) xs)) e
chain_of profile dir capture place.End g gs e = cc

chain_refused : (r : Refusal) → Chain (coming_refused r)
chain_refused r place.Start g gs e =
    let none : gs ≡ [] = cc in
    let last : g ≡ given (refused_text r) place.End = cc in
    none ∙ sym (ap (λ (x : Given). coming_refused r x.next) last)
chain_refused r (place.Event at) g gs e = cc
chain_refused r place.End g gs e = cc

chain : (a : Result (Profile × Direction) Refusal) (capture : List ℕ) → Chain (coming_as a capture)
chain (Ok (p, dir)) capture = chain_of p dir capture
chain (Err e) capture = chain_refused e

none_both : (xs ys : List ℕ) → xs ++ ys ≡ [] → (xs ≡ []) × (ys ≡ [])
none_both [] ys e = (refl, e)
none_both (x ∷ xs) ys e = cc

module _ (lines : Place → List Given) (linked : Chain lines) where
  texts_on : (room : ℕ) (at : Place) (gs : List Given) → lines at ≡ gs → texts gs ≡ (filled room at gs).text ++ texts (lines (filled room at gs).next)
  unfolding in_order filled
  texts_on room at [] e = sym (ap texts e)
  texts_on room at (g ∷ gs) e =
      let more = texts_on (room - length g.text) g.next gs (sym (linked at g gs e)) in
      let rest = filled (room - length g.text) g.next gs in
      filled_cases (λ x. texts (g ∷ gs) ≡ x.text ++ texts (lines x.next)) room at g gs
      (sym (ap texts e))
      (ap (λ (xs : List ℕ). g.text ++ xs) more ∙ sym (append_assoc g.text rest.text (texts (lines rest.next))))

  -- a piece of no bytes
  texts_none : (room : ℕ) (at : Place) (gs : List Given) → line_limit ≤ room → (filled room at gs).text ≡ [] → texts gs ≡ []
  unfolding in_order filled
  texts_none room at [] h e = refl
  texts_none room at (g ∷ gs) h e =
      let rest = filled (room - length g.text) g.next gs in
      let parts = none_both g.text rest.text (sym (ap (λ (x : Given). x.text) (filled_on room at g gs h)) ∙ e) in
      let count : length g.text ≡ 0 = ap (λ (xs : List ℕ). length xs) parts.0 in
      let more = texts_none (room - length g.text) g.next gs (omega (arith, h, count)) parts.1 in
      ap (λ (xs : List ℕ). xs ++ texts gs) parts.0 ∙ more

  -- a piece takes a line or more, where there is one
  lines_fewer : (room : ℕ) (at : Place) (gs : List Given) → lines at ≡ gs → length (lines (filled room at gs).next) ≤ length gs
  unfolding filled
  lines_fewer room at [] e = rw e (omega arith)
  lines_fewer room at (g ∷ gs) e =
      let more = lines_fewer (room - length g.text) g.next gs (sym (linked at g gs e)) in
      filled_cases (λ x. length (lines x.next) ≤ length (g ∷ gs)) room at g gs (rw e (omega arith)) (omega (arith, more))

  lines_less : (room : ℕ) (at : Place) (g : Given) (gs : List Given) → line_limit ≤ room → lines at ≡ g ∷ gs → length (lines (filled room at (g ∷ gs)).next) ≤ length gs
  lines_less room at g gs h e =
      rw (filled_on room at g gs h) (lines_fewer (room - length g.text) g.next gs (sym (linked at g gs e)))

-- what pieces of an input give out, and how many are enough
module _ (input : List ℕ) (room : ℕ) (h : line_limit ≤ room) where
  linked_in : Chain (coming_in input)
  linked_in = chain (asked input) (drop 2 input)

  enough : (n : ℕ) (at : Place) (gs : List Given) → coming_in input at ≡ gs → length gs ≤ n → pieces n room input at ≡ texts gs
  unfolding pieces in_order filled
  enough zero at [] e few = refl
  enough zero at (g ∷ gs) e few = absurd (omega arith)
  enough (suc n) at [] e few =
      let none : piece_of input at room ≡ given [] at = ap (λ (xs : List Given). filled room at xs) e in
      rw none (enough n at [] e (omega arith))
  enough (suc n) at (g ∷ gs) e few =
      let next = (filled room at (g ∷ gs)).next in
      let less = lines_less (coming_in input) linked_in room at g gs h e in
      let this : piece_of input at room ≡ filled room at (g ∷ gs) = ap (λ (xs : List Given). filled room at xs) e in
      rw this (ap (λ (xs : List ℕ). (filled room at (g ∷ gs)).text ++ xs) (enough n next (coming_in input next) refl (omega (arith, less, few)))
      ∙ sym (texts_on (coming_in input) linked_in room at (g ∷ gs) e))

-- the lines are the listing's text
steps_texts : (profile : Profile) (dir : Direction) (capture : List ℕ) (es : List Event)
    → texts (coming_events profile dir capture es) ≡ event_lines profile dir capture es ++ total_line (length capture) (totals_of dir capture)
unfolding coming_events in_order
steps_texts profile dir capture [] = append-nil (total_line (length capture) (totals_of dir capture))
steps_texts profile dir capture (e ∷ es) =
    ap (λ (xs : List ℕ). event_line profile dir capture e ++ xs) (steps_texts profile dir capture es)
    ∙ sym (append_assoc (event_line profile dir capture e) (event_lines profile dir capture es) (total_line (length capture) (totals_of dir capture)))

whole_as : (a : Result (Profile × Direction) Refusal) (capture : List ℕ) → texts (coming_as a capture place.Start) ≡ listed_as a capture
unfolding in_order
whole_as (Ok (p, dir)) capture =
    ap (λ (xs : List ℕ). heading ++ xs) (steps_texts p dir capture (events_from dir capture 0))
    ∙ sym (append_assoc heading (event_lines p dir capture (events_from dir capture 0)) (total_line (length capture) (totals_of dir capture)))
whole_as (Err e) capture = append-nil (refused_text e)

whole : (input : List ℕ) → texts (coming_in input place.Start) ≡ listed input
whole input = whole_as (asked input) (drop 2 input)

stands : (input : List ℕ) (at : Place) (buf : List ℕ) → line_limit ≤ length buf
    → take (length (piece_of input at (length buf)).text) (piece_left input at buf) ≡ (piece_of input at (length buf)).text
stands input at buf h = rw (le-ltb (length buf) line_limit h) (take-append_seam _ _)

leaves : (input : List ℕ) (at : Place) (buf : List ℕ) → line_limit ≤ length buf
    → drop (length (piece_of input at (length buf)).text) (piece_left input at buf) ≡ drop (length (piece_of input at (length buf)).text) buf
leaves input at buf h =
    let text = (piece_of input at (length buf)).text in
    let long : 0 + length text ≡ length text = omega arith in
    rw (le-ltb (length buf) line_limit h) (drop-append_seam text _ ∙ ap (λ (k : ℕ). drop k buf) long)

pub pieces_promise : PiecesPromise
pieces_promise = record {
  whole = whole;
  goes_on = λ input at room. texts_on (coming_in input) (chain (asked input) (drop 2 input)) room at (coming_in input at) refl;
  stands = stands;
  behind = leaves;
  ends = λ input at room h e. texts_none (coming_in input) (chain (asked input) (drop 2 input)) room at (coming_in input at) h e;
  all = λ input room n h few. enough input room h n place.Start (coming_in input place.Start) refl few ∙ whole input;
}

no_line_lem : (input : List ℕ) (at : Place) (room : ℕ) → coming_in input at ≡ [] → 0 < length (piece_of input at room).text → ⊥
unfolding filled
no_line_lem input at room e some =
    let none : length (piece_of input at room).text ≡ 0 = ap (λ (xs : List Given). length (filled room at xs).text) e in
    omega (arith, some, none)

-- a piece that is not empty leaves fewer lines
pub fewer_lines : (input : List ℕ) (at : Place) (room : ℕ) → line_limit ≤ room → 0 < length (piece_of input at room).text
    → length (coming_in input (piece_of input at room).next) < length (coming_in input at)
fewer_lines input at room h some = go (coming_in input at) refl
  where
    go : (gs : List Given) → coming_in input at ≡ gs → length (coming_in input (piece_of input at room).next) < length (coming_in input at)
    go [] e = absurd (no_line_lem input at room e some)
    go (g ∷ gs) e = rw e (let less = lines_less (coming_in input) (chain (asked input) (drop 2 input)) room at g gs h e in omega (arith, less))

-- the same of what `list_piece` answers
pub answered_fewer : (input : List ℕ) (at : Place) (buf : List ℕ) (piece : Piece) → line_limit ≤ length buf
    → Ok piece ≡ piece_answered input at buf → 0 < piece.length → length (coming_in input piece.next) < length (coming_in input at)
answered_fewer input at buf piece h e some =
    let told : Ok piece ≡ Ok (text_as (piece_of input at (length buf))) = e ∙ rw (le-ltb (length buf) line_limit h) in
    let same : piece ≡ text_as (piece_of input at (length buf)) = cc in
    let fewer = fewer_lines input at (length buf) h (omega (arith, some, ap (λ (p : Piece). p.length) same)) in
    subst (λ (p : Piece). length (coming_in input p.next) < length (coming_in input at)) (sym same) fewer
