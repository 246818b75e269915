-- Each piece leaves fewer lines.
use Rattle.std.proofs.Common.{◌≡◌, length}
use Rattle.listing_pieces.specs.Pieces.{coming_in}
use Rattle.listing.proofs.list.Given as goal

abbrev pub invariant-loop-piece : goal.invariant-loop-piece
invariant-loop-piece l = length l.buffer ≡ 65536

abbrev pub decreases-loop-piece : goal.decreases-loop-piece
decreases-loop-piece l = length (coming_in l.input l.place)
