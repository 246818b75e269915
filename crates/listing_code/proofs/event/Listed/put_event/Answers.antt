-- The place, the length and what it is, each behind the other.
use Rattle.std.proofs.Common.{sym, rules}
use Rattle.lent.specs.Placed.{bytes_at}
use Rattle.characters.specs.Letters.{letters}
use Rattle.characters.specs.Decimal.{decimal}
use Rattle.listing_text.specs.Listing.{text_line, event_text}
use Rattle.listing_pieces.proofs.Puts.{both, said, line_behind}
use Rattle.listing_code.proofs.event.Listed.put_event.Goals as goal

pub returns : goal.returns
unfolding letters text_line
returns c =
    let listed = c.args.self.now in
    let event = c.args.event in
    let words = event_text listed.profile listed.direction (bytes_at listed.capture.now event.at event.length) event.kind in
    both (search rules) c.put_number-first.ensures
    (both (search rules) c.put_bytes-second.ensures
    (said (sym (line_behind (decimal event.length) words)) (both (search rules) c.put_number-third.ensures (rw c.bytes_at-bytes.ensures at c.put_kind.ensures))))
