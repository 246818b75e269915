-- The bytes have room.
use Rattle.std.proofs.Common.{◌≤◌, arith, length}
use Rattle.listing_pieces.proofs.Puts.{wrote}
use Rattle.listing_code.proofs.put.put_bytes.Goals as goal

pub returns : goal.returns
returns c =
    let short : length c.args.text.now ≤ length c.args.text.now = omega arith in
    wrote (length c.args.text.now) c.behind.result (omega (arith, short)) short c.write_bytes.ensures.answers c.write_bytes.ensures.leaves c.behind.ensures
