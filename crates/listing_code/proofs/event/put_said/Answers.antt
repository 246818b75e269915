-- The named part, the answer and the value.
use Rattle.std.proofs.Common.{[], ◌++◌, rules}
use Rattle.characters.specs.Letters.{letters}
use Rattle.characters.specs.Decimal.{decimal}
use Rattle.characters.specs.Hex.{hex_byte}
use Rattle.listing_pieces.proofs.Puts.{both, both_behind, wider}
use Rattle.listing_code.proofs.event.put_said.Goals as goal

pub returns : goal.returns
unfolding letters
returns c =
    let said = c.args.said in
    wider (search rules)
    (both (search rules) c.put_bytes-word.ensures
    (both_behind [] (decimal said.zone) (letters " " ++ hex_byte said.command) (search rules) c.put_named-next.ensures
    (both (search rules) c.put_answer-value.ensures c.put_last.ensures)))
