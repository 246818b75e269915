-- The input, and its state behind a colon.
use Rattle.std.proofs.Common.{rules}
use Rattle.characters.specs.Letters.{letters}
use Rattle.characters.specs.Decimal.{decimal_in}
use Rattle.listing_pieces.proofs.Puts.{both}
use Rattle.listing_code.proofs.event.put_input.Goals as goal

pub returns-then-on : goal.returns-then-on
unfolding letters decimal_in
returns-then-on c = rw c.if-on.true (both (search rules) (rw c.from.ensures at c.put_number-colon.ensures) c.put_bytes.ensures)

pub returns-else-on : goal.returns-else-on
unfolding letters decimal_in
returns-else-on c = rw c.if-on.false (both (search rules) (rw c.from.ensures at c.put_number-colon.ensures) c.put_bytes-else-on.ensures)
