-- Two digits have room.
use Rattle.std.proofs.Common.{◌≤◌, arith, rules, length}
use Rattle.characters.specs.Hex.{hex_byte}
use Rattle.listing_pieces.proofs.Puts.{wrote, within}
use Rattle.listing_code.proofs.put.put_hex.Goals as goal

pub behind-requires : goal.behind-requires
behind-requires c =
    let g = c.args in
    let short : length (hex_byte g.byte) ≤ 2 = omega arith in
    within g.buf.now (hex_byte g.byte) g.at c.write_hex.result (omega (arith, short)) (search rules) c.write_hex.ensures.answers

pub returns : goal.returns
returns c =
    let short : length (hex_byte c.args.byte) ≤ 2 = omega arith in
    wrote 2 c.behind.result (omega (arith, short)) short c.write_hex.ensures.answers c.write_hex.ensures.leaves c.behind.ensures
