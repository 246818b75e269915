-- Document 01: "Where an answer is an enum, a definition gives this paper's number and values for each of its cases."
use Rattle.std.specs.Prelude.{ℕ, Err, Ok, Result}
use Rattle.refusals.specs.Refusal.{number}
use Rattle.refusals.specs.declared.refusal.Refusal.{Refusal}
use Rattle.listing_pieces.specs.declared.piece.Piece.{Piece}

-- 0 for a piece, and how many bytes it has
abbrev pub piece_number : Result Piece Refusal → ℕ
piece_number (Ok piece) = 0
piece_number (Err e) = number e

abbrev pub piece_count : Result Piece Refusal → ℕ
piece_count (Ok piece) = piece.length
piece_count (Err e) = 0
