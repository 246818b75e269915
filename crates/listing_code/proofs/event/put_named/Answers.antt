-- One text behind another.
use Rattle.std.proofs.Common.{rules}
use Rattle.characters.specs.Letters.{letters}
use Rattle.listing_pieces.proofs.Puts.{both}
use Rattle.listing_code.proofs.event.put_named.Goals as goal

pub returns : goal.returns
unfolding letters
returns c = both (search rules) (rw c.from.ensures at c.put_number-zone.ensures) (both (search rules) c.put_bytes-space.ensures c.put_hex.ensures)
