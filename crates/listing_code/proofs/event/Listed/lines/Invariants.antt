use lib.ListN.{length}
use Rattle.listing_pieces.specs.Pieces.{coming_from}
use Rattle.listing_pieces.proofs.Pieces.{Filling}
use Rattle.listing_code.proofs.event.Listed.lines.Given as goal

abbrev pub invariant-loop-buf : goal.invariant-loop-buf
invariant-loop-buf l = Filling l.self.profile l.self.direction l.self.capture.now l.initial.buf l.initial.piece.next l.buf l.piece.length l.piece.next

abbrev pub decreases-loop-buf : goal.decreases-loop-buf
decreases-loop-buf l = length (coming_from l.self.profile l.self.direction l.self.capture.now l.piece.next)
