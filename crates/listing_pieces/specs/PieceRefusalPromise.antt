-- "A refusal returns its number and zero for every other field", and nothing that was lent differs after it.
use Rattle.std.specs.Prelude.{ℕ, ◌≤◌, ◌<◌, ◌≡◌, List, length}
use Rattle.listing_pieces.specs.Pieces.{line_limit, piece_of, piece_answered, piece_left}
use Rattle.listing_pieces.specs.Numbers.{piece_number, piece_count}
use Rattle.listing_pieces.specs.declared.piece.Place.{Place}

pub record PieceRefusalPromise : Type 0 where
  -- a piece is refused exactly for a buffer of less than 64 bytes
  pub piece : (input : List ℕ) (at : Place) (buf : List ℕ) → length buf < line_limit
      → (piece_number (piece_answered input at buf) ≡ 9) × (piece_count (piece_answered input at buf) ≡ 0) × (piece_left input at buf ≡ buf)
  pub piece_given : (input : List ℕ) (at : Place) (buf : List ℕ) → line_limit ≤ length buf
      → (piece_number (piece_answered input at buf) ≡ 0) × (piece_count (piece_answered input at buf) ≡ length (piece_of input at (length buf)).text)
