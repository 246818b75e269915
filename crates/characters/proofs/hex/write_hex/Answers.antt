-- The test, and then the two digits.
use Rattle.std.proofs.Common.{◌≡◌, ◌∙◌, ap, sym, refl, ℕ, ◌+◌, ◌/◌, ◌%◌, ◌<◌, arith, add-one, append_assoc, length, take, drop}
use Rattle.std.proofs.Math.ListN.{set, length-set}
use Rattle.std.proofs.Math.Seq.{sets-eq}
use Rattle.lent.proofs.Room.{room_within}
use Rattle.characters.specs.Hex.{hex_digit, hex_byte}
use Rattle.characters.proofs.Rooms.{refused, written}
use Rattle.characters.proofs.hex.write_hex.Goals as goal

small : (d : ℕ) → d < 16 → d % 16 ≡ d
small d h = omega arith

pub returns-then-lacks_room-clause-leaves : goal.returns-then-lacks_room-clause-leaves
returns-then-lacks_room-clause-leaves c =
    (refused c.args.buf.now c.args.at (hex_byte c.args.byte) 2 refl (sym c.lacks_room.ensures ∙ c.if-lacks_room.true)).1

pub bounds-buf-at-2 : goal.bounds-buf-at-2
bounds-buf-at-2 c =
    let room = room_within (length c.args.buf.now) c.args.at 2 (sym c.lacks_room.ensures ∙ c.if-lacks_room.false) in
    simp length-set (omega (arith, room))

pub returns-clause-leaves : goal.returns-clause-leaves
returns-clause-leaves c =
    let room = room_within (length c.args.buf.now) c.args.at 2 (sym c.lacks_room.ensures ∙ c.if-lacks_room.false) in
    let high : c.hex_digit.result ≡ hex_digit (c.args.byte / 16) =
    c.hex_digit.ensures ∙ ap hex_digit (small (c.args.byte / 16) (omega (arith, c.ranges.byte.fits))) in
    let low : c.hex_digit-2.result ≡ hex_digit (c.args.byte % 16) =
    c.hex_digit-2.ensures ∙ ap hex_digit (small (c.args.byte % 16) (omega arith)) in
    (written c.args.buf.now c.args.at (hex_byte c.args.byte) 2 refl (sym c.lacks_room.ensures ∙ c.if-lacks_room.false) _
    (ap (λ (k : ℕ). set (set c.args.buf.now c.args.at c.hex_digit.result) k c.hex_digit-2.result) (add-one c.args.at)
    ∙ rw (high, low) (sets-eq (hex_byte c.args.byte) c.args.buf.now c.args.at room
    ∙ append_assoc (take c.args.at c.args.buf.now) (hex_byte c.args.byte) (drop (c.args.at + length (hex_byte c.args.byte)) c.args.buf.now)))).1
