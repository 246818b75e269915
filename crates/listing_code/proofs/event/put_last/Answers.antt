-- The value, and the line's end.
use Rattle.std.proofs.Common.{rules}
use Rattle.characters.specs.Letters.{letters}
use Rattle.listing_pieces.proofs.Puts.{both}
use Rattle.listing_code.proofs.event.put_last.Goals as goal

pub returns : goal.returns
unfolding letters
returns c = both (search rules) c.put_value-end.ensures c.put_bytes.ensures
