-- What is refused leaves everything as it was.
use mathlib.Core.Path.{◌≡◌, refl}
use mathlib.Core.List.{List}
use Prim.Native.Nat.{ℕ, ◌≤◌, ◌<◌}
use borrow.Author.Tests.{lt-ltb, le-ltb}
use lib.ListN.{length}
use Rattle.listing_pieces.specs.Pieces.{line_limit, piece_of, piece_answered, piece_left}
use Rattle.listing_pieces.specs.Numbers.{piece_number, piece_count}
use Rattle.listing_pieces.specs.PieceRefusalPromise.{PieceRefusalPromise}
use Rattle.listing_pieces.specs.declared.piece.Place.{Place}

piece : (input : List ℕ) (at : Place) (buf : List ℕ) → length buf < line_limit
    → (piece_number (piece_answered input at buf) ≡ 9) × (piece_count (piece_answered input at buf) ≡ 0) × (piece_left input at buf ≡ buf)
piece input at buf h = rw (lt-ltb (length buf) line_limit h) (refl, refl, refl)

piece_given : (input : List ℕ) (at : Place) (buf : List ℕ) → line_limit ≤ length buf
    → (piece_number (piece_answered input at buf) ≡ 0) × (piece_count (piece_answered input at buf) ≡ length (piece_of input at (length buf)).text)
piece_given input at buf h = rw (le-ltb (length buf) line_limit h) (refl, refl)

pub refusal_promise : PieceRefusalPromise
refusal_promise = record { piece = piece; piece_given = piece_given }
