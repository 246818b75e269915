-- The bytes are counted; then the test, and the bytes.
use Rattle.std.proofs.Common.{◌≡◌, ◌∙◌, sym, true, false, [], ◌+◌, ◌-◌, ◌*◌, length, arith}
use Rattle.lent.specs.Written.{lacks_room}
use Rattle.lent.proofs.Tail.{mid_placed}
use Rattle.lent.proofs.Writes.{write_nine, write_there}
use Rattle.sheetfile.specs.File.{record_size}
use Rattle.sheetfile.specs.Computed.{sheet_bytes}
use Rattle.sheetfile.proofs.Filled.{sheet_length}
use Rattle.sheetfile_code.proofs.write.put_accepted.Goals as goal

pub returns-then-lacks_room-clause-leaves : goal.returns-then-lacks_room-clause-leaves
returns-then-lacks_room-clause-leaves c =
    let g = c.args in
    let bytes = sheet_bytes g.form g.profile g.lines.now in
    let full : lacks_room (length g.buf.now) g.at (length bytes) ≡ true =
    rw (sheet_length g.form g.profile g.lines.now, ← c.zeros_of.ensures) (sym c.lacks_room.ensures ∙ c.if-lacks_room.true) in
    sym (write_nine [] g.buf.now g.at bytes tt full).1

pub returns-clause-leaves : goal.returns-clause-leaves
returns-clause-leaves c =
    let g = c.args in
    let bytes = sheet_bytes g.form g.profile g.lines.now in
    let long = sheet_length g.form g.profile g.lines.now in
    let zeros = c.zeros_of.ensures in
    let room : lacks_room (length g.buf.now) g.at (length bytes) ≡ false =
    rw (long, ← zeros) (sym c.lacks_room.ensures ∙ c.if-lacks_room.false) in
    mid_placed g.buf.now g.at bytes c.put_bytes.new.part (g.at + (c.zeros_of.result + length g.lines.now * record_size) - g.at) c.put_bytes.ensures (omega arith)
    ∙ sym (write_there [] g.buf.now g.at bytes tt room).1
