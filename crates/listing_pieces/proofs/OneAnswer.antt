-- The public function's contract admits one answer: its result, and the lent bytes after it.
use mathlib.Core.Path.{◌≡◌}
use mathlib.Core.List.{List}
use Prim.Native.Nat.{ℕ}
use Rattle.refusals.specs.OneAnswer.{OneAnswer}
use Rattle.refusals.proofs.One.{one_lent}
use Rattle.refusals.specs.declared.refusal.Refusal.{Refusal}
use Rattle.std.specs.Prelude.{Result}
use Rattle.listing_pieces.specs.Pieces.{piece_answered, piece_left}
use Rattle.listing_pieces.specs.declared.piece.Place.{Place}
use Rattle.listing_pieces.specs.declared.piece.Piece.{Piece}

pub list_piece_one : (input : List ℕ) (place : Place) (buf : List ℕ)
    → OneAnswer (λ (x : Result Piece Refusal × List ℕ). (x.0 ≡ piece_answered input place buf) × (x.1 ≡ piece_left input place buf))
list_piece_one input place buf = one_lent (piece_answered input place buf) (piece_left input place buf)
