-- A piece is filled line by line.
use mathlib.Core.Path.{◌≡◌, refl, ap, sym, ◌∙◌}
use mathlib.Core.Bool.{Bool, true, false, cond}
use mathlib.Core.List.{List, [], ◌∷◌, ◌++◌, append-nil, append_assoc}
use Prim.Native.Nat.{ℕ, suc, ◌+◌, ◌-◌, ◌≤◌, ◌<◌}
use native.Mathlib.Omega.{arith}
use borrow.Author.Tests.{lt-ltb, le-ltb}
use lib.Dec.{ltb}
use lib.ListN.{length, length-append}
use Rattle.lent.specs.Placed.{placed}
use Rattle.lent.proofs.Placed.{placed_both}
use Rattle.frame.specs.Capture.{events_from, first_of}
use Rattle.frame.specs.declared.direction.Direction.{Direction}
use Rattle.frame.specs.declared.capture.Event.{Event}
use Rattle.frame.proofs.Leads.{leads}
use Rattle.row.specs.declared.profile.Profile.{Profile}
use Rattle.listing_text.specs.Listing.{event_line}
use Rattle.listing_pieces.specs.Pieces.{line_limit, Given, given, coming_events, coming_from, filled, text_as}
use Rattle.listing_pieces.specs.Computed.{Put, first_text, first_next}
use Rattle.listing_pieces.specs.declared.piece.Place.{Place}
use Rattle.listing_pieces.specs.declared.piece.Place.TheVariants as place
use Rattle.listing_pieces.specs.declared.piece.Piece.{Piece}

-- a piece of so many bytes
abbrev pub text_at : ℕ → Place → Piece
text_at count next = record { length = count; next = next }

-- text before what is given
abbrev pub onward : List ℕ → Given → Given
onward text g = given (text ++ g.text) g.next

pub filled_on : (room : ℕ) (at : Place) (g : Given) (gs : List Given) → line_limit ≤ room
    → filled room at (g ∷ gs) ≡ onward g.text (filled (room - length g.text) g.next gs)
unfolding filled
filled_on room at g gs h = rw (le-ltb room line_limit h)

pub filled_full : (room : ℕ) (at : Place) (gs : List Given) → room < line_limit → filled room at gs ≡ given [] at
unfolding filled
filled_full room at [] h = refl
filled_full room at (g ∷ gs) h = rw (lt-ltb room line_limit h)

pub filled_cases : (P : Given → Type 0) (room : ℕ) (at : Place) (g : Given) (gs : List Given) → P (given [] at)
    → P (onward g.text (filled (room - length g.text) g.next gs)) → P (filled room at (g ∷ gs))
unfolding filled
filled_cases P room at g gs full more = go (ltb room line_limit)
  where
    go : (t : Bool) → P (cond t (given [] at) (onward g.text (filled (room - length g.text) g.next gs)))
    go true = full
    go false = more

module _ (profile : Profile) (dir : Direction) (capture : List ℕ) where
  abbrev lines : Place → List Given
  lines at = coming_from profile dir capture at

  steps_on : (at : ℕ) (es : List Event) → events_from dir capture at ≡ es
      → coming_events profile dir capture es
      ≡ given (first_text (coming_events profile dir capture es)) (first_next (place.Event at) (coming_events profile dir capture es))
      ∷ lines (first_next (place.Event at) (coming_events profile dir capture es))
  unfolding coming_events
  steps_on at [] f = refl
  steps_on at (e ∷ es) f =
      let lead = leads dir capture at e (sym (ap first_of f)) in
      let tails : e ∷ es ≡ e ∷ events_from dir capture (at + e.length) = sym f ∙ lead.behind in
      let others : es ≡ events_from dir capture (at + e.length) = cc in
      let there : at + e.length ≡ e.at + e.length = omega (arith, lead.within.starts) in
      ap (λ (xs : List Event). given (event_line profile dir capture e) (place.Event (e.at + e.length)) ∷ coming_events profile dir capture xs)
      (others ∙ ap (λ (k : ℕ). events_from dir capture k) there)

  -- the lines behind the first are those of the place that it leads to
  pub lines_on : (at : Place) → (at ≡ place.End → ⊥) → lines at ≡ given (first_text (lines at)) (first_next at (lines at)) ∷ lines (first_next at (lines at))
  lines_on place.Start e = refl
  lines_on (place.Event at) e = steps_on at (events_from dir capture at) refl
  lines_on place.End e = absurd (e refl)

  pub fewer : (at : Place) → (at ≡ place.End → ⊥) → length (lines (first_next at (lines at))) < length (lines at)
  fewer at e = let on : length (lines at) ≡ suc (length (lines (first_next at (lines at)))) = ap (λ (gs : List Given). length gs) (lines_on at e) in omega arith

  pub filled_end : (room : ℕ) (at : Place) → at ≡ place.End → filled room at (lines at) ≡ given [] at
  unfolding filled
  filled_end room at e = rw e

  -- some lines stand in the buffer, and the piece is they and what is filled in behind them
  module _ (buf₀ : List ℕ) (start : Place) where
    abbrev whole : Given
    whole = filled (length buf₀) start (lines start)

    pub record Filling (buf : List ℕ) (at : ℕ) (next : Place) : Type 0 where
      pub done : List ℕ
      pub stands : buf ≡ placed buf₀ 0 done
      pub counted : at ≡ length done
      pub within : at ≤ length buf₀
      pub long : length buf ≡ length buf₀
      pub same : whole ≡ onward done (filled (length buf₀ - at) next (lines next))

    pub begun : Filling buf₀ 0 start
    begun = record {
      done = [];
      stands = refl;
      counted = refl;
      within = omega arith;
      long = refl;
      same = let all : length buf₀ - 0 ≡ length buf₀ = omega arith in sym (ap (λ (k : ℕ). onward [] (filled k start (lines start))) all);
    }

    pub ended : (buf : List ℕ) (at : ℕ) (next : Place) → Filling buf at next → filled (length buf₀ - at) next (lines next) ≡ given [] next
        → (text_at at next ≡ text_as whole) × (buf ≡ placed buf₀ 0 whole.text)
    ended buf at next f none =
        let is : whole ≡ given f.done next = f.same ∙ ap (λ (g : Given). onward f.done g) none ∙ ap (λ (xs : List ℕ). given xs next) (append-nil f.done) in (
          ap (λ (k : ℕ). text_at k next) f.counted ∙ sym (ap text_as is),
          f.stands ∙ sym (ap (λ (g : Given). placed buf₀ 0 g.text) is),
        )

    pub more : (buf after : List ℕ) (at end : ℕ) (next then : Place) → Filling buf at next → line_limit ≤ length buf - at → (next ≡ place.End → ⊥)
        → Put line_limit buf at (first_text (lines next)) after end → then ≡ first_next next (lines next) → length after ≡ length buf → Filling after end then
    more buf after at end next then f room going put goes kept =
        let text = first_text (lines next) in
        let spot : at ≡ 0 + length f.done = omega (arith, f.counted) in
        let left : length buf₀ - at - length text ≡ length buf₀ - end = omega (arith, put.ends) in
        let here : filled (length buf₀ - at) next (lines next) ≡ onward text (filled (length buf₀ - end) then (lines then)) =
        ap (λ (gs : List Given). filled (length buf₀ - at) next gs) (lines_on next going)
        ∙ filled_on (length buf₀ - at) next (given text (first_next next (lines next))) (lines (first_next next (lines next))) (omega (arith, room, f.long))
        ∙ ap (λ (k : ℕ). onward text (filled k (first_next next (lines next)) (lines (first_next next (lines next))))) left
        ∙ ap (λ (p : Place). onward text (filled (length buf₀ - end) p (lines p))) (sym goes) in
        record {
          done = f.done ++ text;
          stands =
              put.stands ∙ ap (λ (xs : List ℕ). placed xs at text) f.stands
              ∙ ap (λ (k : ℕ). placed (placed buf₀ 0 f.done) k text) spot
              ∙ placed_both buf₀ 0 f.done text (omega arith);
          counted = omega (arith, put.ends, f.counted, length-append f.done text);
          within = omega (arith, put.short, room, f.long, f.within);
          long = kept ∙ f.long;
          same =
              f.same ∙ ap (λ (g : Given). onward f.done g) here
              ∙ ap (λ (xs : List ℕ). given xs (filled (length buf₀ - end) then (lines then)).next) (sym (append_assoc f.done text (filled (length buf₀ - end) then (lines then)).text));
        }

-- a listing of one line
pub one_line_lem : (m : ℕ) (buf after text : List ℕ) (end : ℕ) (start : Place) → line_limit ≤ length buf → Put m buf 0 text after end
    → (text_at end place.End ≡ text_as (filled (length buf) start (given text place.End ∷ [])))
    × (after ≡ placed buf 0 (filled (length buf) start (given text place.End ∷ [])).text)
unfolding filled
one_line_lem m buf after text end start room put =
    let count : end ≡ length text = omega (arith, put.ends) in
    let is : filled (length buf) start (given text place.End ∷ []) ≡ given text place.End =
    filled_on (length buf) start (given text place.End) [] room ∙ ap (λ (xs : List ℕ). given xs place.End) (append-nil text) in (
      ap (λ (k : ℕ). text_at k place.End) count ∙ sym (ap text_as is),
      put.stands ∙ sym (ap (λ (g : Given). placed buf 0 g.text) is),
    )
