-- The test, and then the copy.
use Rattle.std.proofs.Common.{◌∙◌, sym, [], arith}
use Rattle.lent.proofs.Tail.{mid_placed}
use Rattle.lent.proofs.Writes.{write_nine, write_there}
use Rattle.lent.proofs.written.write_bytes.Goals as goal

pub returns-then-lacks_room-clause-leaves : goal.returns-then-lacks_room-clause-leaves
returns-then-lacks_room-clause-leaves c =
    sym (write_nine [] c.args.buf.now c.args.at c.args.bytes.now tt (sym c.lacks_room.ensures ∙ c.if-lacks_room.true)).1

pub returns-clause-leaves : goal.returns-clause-leaves
returns-clause-leaves c =
    mid_placed c.args.buf.now c.args.at c.args.bytes.now c.copy_from_slice.new.self _ c.copy_from_slice.ensures.after (omega arith)
    ∙ sym (write_there [] c.args.buf.now c.args.at c.args.bytes.now tt (sym c.lacks_room.ensures ∙ c.if-lacks_room.false)).1
