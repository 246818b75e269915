-- The refusal's number between its words.
use Rattle.std.proofs.Common.{rules}
use Rattle.characters.specs.Letters.{letters}
use Rattle.listing_text.specs.Listing.{text_line}
use Rattle.listing_pieces.proofs.Puts.{both}
use Rattle.listing_code.proofs.event.put_unread.Goals as goal

pub returns : goal.returns
unfolding letters text_line
returns c = both (search rules) c.put_bytes-first.ensures (both (search rules) (rw (c.from.ensures, c.number.ensures) at c.put_number-second.ensures) c.put_bytes.ensures)
