-- The listing stops where a line may lack room, and at its end.
use Rattle.std.proofs.Common.{◌≡◌, ◌-◌, ◌<◌, arith, length}
use Rattle.listing_pieces.specs.Pieces.{line_limit, coming_from}
use Rattle.listing_pieces.specs.declared.piece.Place.TheVariants as place
use Rattle.listing_pieces.proofs.Pieces.{filled_full, filled_end, ended}
use Rattle.std.proofs.lemmas.Grind.{common_steps}
use Rattle.listing_code.proofs.event.Listed.lines.Goals as goal

pub returns-else-ne : goal.returns-else-ne
returns-else-ne c =
    let g = c.args in
    let listed = g.self.now in
    let l = c.loop-buf in
    let last : l.piece.next ≡ place.End = grind (arith, common_steps) in
    let done = ended listed.profile listed.direction listed.capture.now g.buf.now g.place l.buf l.piece.length l.piece.next l.invariant
    (filled_end listed.profile listed.direction listed.capture.now (length g.buf.now - l.piece.length) l.piece.next last) in
    record { answers = done.0; leaves = done.1 }

pub returns-after-loop-buf : goal.returns-after-loop-buf
returns-after-loop-buf c =
    let g = c.args in
    let listed = g.self.now in
    let l = c.loop-buf in
    let full : length g.buf.now - l.piece.length < line_limit = omega (arith, c.loop-buf-test.false, l.invariant.long) in
    let done = ended listed.profile listed.direction listed.capture.now g.buf.now g.place l.buf l.piece.length l.piece.next l.invariant
    (filled_full (length g.buf.now - l.piece.length) l.piece.next (coming_from listed.profile listed.direction listed.capture.now l.piece.next) full) in
    record { answers = done.0; leaves = done.1 }
