-- The word, and the count behind it.
use Rattle.std.proofs.Common.{rules}
use Rattle.listing_pieces.proofs.Puts.{both}
use Rattle.listing_code.proofs.piece.put_counted.Goals as goal

pub returns : goal.returns
returns c = both (search rules) c.put_bytes-number.ensures c.put_number.ensures
