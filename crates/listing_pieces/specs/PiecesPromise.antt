-- What is promised of the pieces: put together they are the listing, whatever the size of the buffers from 64 bytes on.
use Rattle.std.specs.Prelude.{ℕ, ◌≤◌, ◌≡◌, List, [], ◌++◌, length, take, drop}
use Rattle.listing_text.specs.Listing.{listed}
use Rattle.listing_pieces.specs.Pieces.{line_limit, coming_in, piece_of, piece_left, texts, pieces}
use Rattle.listing_pieces.specs.declared.piece.Place.{Place}
use Rattle.listing_pieces.specs.declared.piece.Place.TheVariants.{Start}

pub record PiecesPromise : Type 0 where
  -- from the start, all that is to come is the listing
  pub whole : (input : List ℕ) → texts (coming_in input Start) ≡ listed input
  -- a piece and all that is to come behind it are what was to come
  pub goes_on : (input : List ℕ) (at : Place) (room : ℕ) → texts (coming_in input at) ≡ (piece_of input at room).text ++ texts (coming_in input (piece_of input at room).next)
  -- the piece stands at the head of the buffer
  pub stands : (input : List ℕ) (at : Place) (buf : List ℕ) → line_limit ≤ length buf
      → take (length (piece_of input at (length buf)).text) (piece_left input at buf) ≡ (piece_of input at (length buf)).text
  -- and every byte behind it is as it was
  pub behind : (input : List ℕ) (at : Place) (buf : List ℕ) → line_limit ≤ length buf
      → drop (length (piece_of input at (length buf)).text) (piece_left input at buf) ≡ drop (length (piece_of input at (length buf)).text) buf
  -- a piece of no bytes is the end
  pub ends : (input : List ℕ) (at : Place) (room : ℕ) → line_limit ≤ room → (piece_of input at room).text ≡ [] → texts (coming_in input at) ≡ []
  -- as many pieces as there are lines, or more, are the listing
  pub all : (input : List ℕ) (room n : ℕ) → line_limit ≤ room → length (coming_in input Start) ≤ n → pieces n room input Start ≡ listed input
