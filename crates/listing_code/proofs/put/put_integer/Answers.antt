-- Five digits at most, and a sign.
use Rattle.std.proofs.Common.{suc, ◌≤◌, arith, rules, length}
use lib.IntN.{ℤ, pos, negsuc}
use mir.Syntax.{w16, w32}
use mir.Val.{SFits}
use mir.Facts.{sfits_widen, to_z-of_z}
use Rattle.characters.specs.Letters.{letters}
use Rattle.characters.specs.Decimal.{integer}
use Rattle.characters.proofs.Digits.{decimal_most}
use Rattle.listing_pieces.proofs.Puts.{wrote, within}
use Rattle.listing_code.proofs.put.put_integer.Goals as goal

wide : {z : ℤ} → SFits w16 z → SFits w32 z
wide fits = sfits_widen tt fits

integer_short : (z : ℤ) → SFits w16 z → length (integer z) ≤ 6
unfolding letters
integer_short (pos n) fits = let h = fits.sfits in omega (arith, decimal_most 4 n (omega arith))
integer_short (negsuc n) fits = let h = fits.sfits in omega (arith, decimal_most 4 (suc n) (omega arith))

pub behind-requires : goal.behind-requires
behind-requires c =
    let g = c.args in
    let short : length (integer g.number) ≤ 6 = integer_short g.number c.ranges.number in
    within g.buf.now (integer g.number) g.at c.write_integer.result (omega (arith, short)) (search rules) (rw (c.from.ensures, to_z-of_z c.ranges.number, to_z-of_z (wide c.ranges.number)) at c.write_integer.ensures.answers)

pub returns : goal.returns
returns c =
    let short : length (integer c.args.number) ≤ 6 = integer_short c.args.number c.ranges.number in
    let put = rw (c.from.ensures, to_z-of_z c.ranges.number, to_z-of_z (wide c.ranges.number)) at c.write_integer.ensures.answers in
    let left = rw (c.from.ensures, to_z-of_z c.ranges.number, to_z-of_z (wide c.ranges.number)) at c.write_integer.ensures.leaves in
    wrote 6 c.behind.result (omega (arith, short)) short put left c.behind.ensures
