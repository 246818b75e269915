-- A piece that has bytes leaves fewer lines than there were.
use Rattle.std.proofs.Common.{arith, rules}
use Rattle.listing_pieces.proofs.Whole.{answered_fewer}
use Rattle.listing.proofs.list.Goals as goal

pub loop-piece-smaller : goal.loop-piece-smaller
loop-piece-smaller c =
    answered_fewer c.args.input.now c.loop-piece.place c.loop-piece.buffer c.in-Ok.piece (omega (arith, c.loop-piece.invariant)) c.in-Ok.ensures.answers (search rules)
