-- The digits are counted; then the test, and the digits.
use Rattle.std.proofs.Common.{◌∙◌, sym, ap, ℕ, List}
use Rattle.lent.specs.Placed.{placed}
use Rattle.characters.specs.Decimal.{decimal}
use Rattle.characters.specs.Computed.{last_digits}
use Rattle.characters.proofs.Digits.{decimal_last}
use Rattle.characters.proofs.Rooms.{refused, written}
use Rattle.decimal.proofs.decimal.write_decimal.Goals as goal

pub returns-then-lacks_room-clause-leaves : goal.returns-then-lacks_room-clause-leaves
returns-then-lacks_room-clause-leaves c =
    (refused c.args.buf.now c.args.at (decimal c.args.number) c.digits_of-count.result c.digits_of-count.ensures
    (sym c.lacks_room.ensures ∙ c.if-lacks_room.true)).1

pub returns-clause-leaves : goal.returns-clause-leaves
returns-clause-leaves c =
    let g = c.args in
    let long = c.digits_of-count.ensures in
    (written g.buf.now g.at (decimal g.number) c.digits_of-count.result long (sym c.lacks_room.ensures ∙ c.if-lacks_room.false) _
    (c.put_digits.ensures ∙ ap (λ (k : ℕ). placed g.buf.now g.at (last_digits k g.number)) long
    ∙ ap (λ (ds : List ℕ). placed g.buf.now g.at ds) (sym (decimal_last g.number)))).1
