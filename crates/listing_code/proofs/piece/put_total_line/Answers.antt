-- One counted word behind another.
use Rattle.std.proofs.Common.{arith, rules}
use Rattle.characters.specs.Letters.{letters}
use Rattle.listing_text.specs.Listing.{text_line}
use Rattle.listing_pieces.proofs.Puts.{both}
use Rattle.listing_code.proofs.piece.put_total_line.Goals as goal

pub returns : goal.returns
unfolding letters text_line
returns c =
    let room = c.requires.0 in
    both (omega arith) c.put_counted-first.ensures
    (both (search rules) c.put_counted-second.ensures
    (both (search rules) c.put_counted-third.ensures
    (both (search rules) c.put_counted-fourth.ensures (both (search rules) c.put_counted-fifth.ensures c.put_bytes.ensures))))
