-- The digits are counted; then the test, the sign and the digits behind it.
use Rattle.std.proofs.Common.{◌≡◌, ◌∙◌, sym, ap, ℕ, ◌+◌, ◌≤◌, ◌<◌, List, [], ◌∷◌, ◌++◌, add-one, arith, rules, length, take, drop}
use Rattle.std.proofs.Math.ListN.{set, length-set}
use Rattle.std.proofs.Math.Seq.{set_split}
use Rattle.lent.specs.Placed.{placed}
use Rattle.lent.proofs.Placed.{placed_both}
use Rattle.lent.proofs.Room.{room_within}
use Rattle.characters.specs.Letters.{letters}
use Rattle.characters.specs.Decimal.{decimal}
use Rattle.characters.specs.Computed.{last_digits}
use Rattle.characters.proofs.Digits.{decimal_last, decimal_most}
use Rattle.characters.proofs.Rooms.{refused, written}
use Rattle.decimal.proofs.decimal.write_minus.Goals as goal

-- one byte stored, and others placed behind it
stored : (buf : List ℕ) (at d : ℕ) (ds : List ℕ) → at < length buf → placed (set buf at d) (at + 1) ds ≡ placed buf at (d ∷ ds)
stored buf at d ds h =
    let first : set buf at d ≡ placed buf at (d ∷ []) = set_split buf at d h ∙ ap (λ (k : ℕ). take at buf ++ d ∷ drop k buf) (sym (add-one at)) in
    ap (λ (xs : List ℕ). placed xs (at + 1) ds) first ∙ placed_both buf at (d ∷ []) ds (omega arith)

-- a number of 32 bits has at most ten digits
ten : (n : ℕ) → n < 4294967296 → length (decimal n) ≤ 10
ten n h = decimal_most 9 n (omega arith)

pub overflow_add-length : goal.overflow_add-length
overflow_add-length c = let most = ten c.args.size (search rules) in let long = c.digits_of-count.ensures in search rules

pub returns-then-lacks_room-clause-leaves : goal.returns-then-lacks_room-clause-leaves
unfolding letters
returns-then-lacks_room-clause-leaves c =
    (refused c.args.buf.now c.args.at (letters "-" ++ decimal c.args.size) (c.digits_of-count.result + 1)
    (ap (λ (k : ℕ). k + 1) c.digits_of-count.ensures ∙ add-one (length (decimal c.args.size)))
    (sym c.lacks_room.ensures ∙ c.if-lacks_room.true)).1

pub put_digits-requires : goal.put_digits-requires
put_digits-requires c =
    let room = room_within (length c.args.buf.now) c.args.at (c.digits_of-count.result + 1) (sym c.lacks_room.ensures ∙ c.if-lacks_room.false) in
    simp length-set (omega (arith, room))

pub returns-clause-leaves : goal.returns-clause-leaves
unfolding letters
returns-clause-leaves c =
    let g = c.args in
    let count = c.digits_of-count.result in
    let long = c.digits_of-count.ensures in
    let none = sym c.lacks_room.ensures ∙ c.if-lacks_room.false in
    let room = room_within (length g.buf.now) g.at (count + 1) none in
    (written g.buf.now g.at (letters "-" ++ decimal g.size) (count + 1) (ap (λ (k : ℕ). k + 1) long ∙ add-one (length (decimal g.size))) none _
    (c.put_digits.ensures
    ∙ ap (λ (k : ℕ). placed (set g.buf.now g.at 45) (g.at + 1) (last_digits k g.size)) long
    ∙ ap (λ (ds : List ℕ). placed (set g.buf.now g.at 45) (g.at + 1) ds) (sym (decimal_last g.size))
    ∙ stored g.buf.now g.at 45 (decimal g.size) (omega (arith, room)))).1
