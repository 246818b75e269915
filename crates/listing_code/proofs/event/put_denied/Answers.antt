-- The named part, and the answer code behind it.
use Rattle.std.proofs.Common.{[], ◌++◌, rules}
use Rattle.characters.specs.Letters.{letters}
use Rattle.listing_text.specs.Listing.{text_line}
use Rattle.characters.specs.Decimal.{decimal}
use Rattle.characters.specs.Hex.{hex_byte}
use Rattle.listing_pieces.proofs.Puts.{both, both_behind}
use Rattle.listing_code.proofs.event.put_denied.Goals as goal

pub returns : goal.returns
unfolding letters text_line
returns c =
    let denial = c.args.denial in
    both (search rules) c.put_bytes-word.ensures
    (both_behind [] (decimal denial.zone) (letters " " ++ hex_byte denial.command) (search rules) c.put_named-first.ensures
    (both (search rules) c.put_bytes-second.ensures (both (search rules) c.put_hex-third.ensures c.put_bytes.ensures)))
