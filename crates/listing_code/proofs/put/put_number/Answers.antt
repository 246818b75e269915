-- A number of 16 bits has at most five digits.
use Rattle.std.proofs.Common.{◌≤◌, arith, rules, length}
use Rattle.characters.specs.Decimal.{decimal}
use Rattle.characters.proofs.Digits.{decimal_most}
use Rattle.listing_pieces.proofs.Puts.{wrote, within}
use Rattle.listing_code.proofs.put.put_number.Goals as goal

pub behind-requires : goal.behind-requires
behind-requires c =
    let g = c.args in
    let short : length (decimal g.number) ≤ 5 = decimal_most 4 g.number (search rules) in
    within g.buf.now (decimal g.number) g.at c.write_decimal.result (omega (arith, short)) (search rules) (rw c.from.ensures at c.write_decimal.ensures.answers)

pub returns : goal.returns
returns c =
    let short : length (decimal c.args.number) ≤ 5 = decimal_most 4 c.args.number (search rules) in
    wrote 5 c.behind.result (omega (arith, short)) short (rw c.from.ensures at c.write_decimal.ensures.answers) (rw c.from.ensures at c.write_decimal.ensures.leaves) c.behind.ensures
