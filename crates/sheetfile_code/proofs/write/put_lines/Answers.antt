-- After each turn one line more stands before the rest.
use Rattle.std.proofs.Common.{◌≡◌, ◌∙◌, sym, ap, ℕ, ◌+◌, ◌*◌, List, ◌++◌, arith, length, take, drop, get_or}
use Rattle.std.proofs.Math.Seq.{length-take-le}
use Rattle.lent.proofs.Tail.{tail_placed}
use Rattle.sheet.specs.Sheet.{no_line}
use Rattle.lists.specs.InOrder.{in_order}
use Rattle.sheetfile.specs.File.{record_size}
use Rattle.sheetfile.specs.Computed.{bytes_of}
use Rattle.sheetfile.proofs.Filled.{filled_more, in_order_more, in_order_length, bytes_six}
use Rattle.sheetfile_code.proofs.write.put_lines.Goals as goal

pub loop-i-preserved : goal.loop-i-preserved
loop-i-preserved c =
    let l = c.loop-i in
    let g = c.args in
    let head = in_order (bytes_of g.form g.profile) (take l.i g.lines.now) in
    let bytes = bytes_of g.form g.profile (get_or g.lines.now l.i no_line) in
    let six : length bytes ≡ record_size = bytes_six g.form g.profile (get_or g.lines.now l.i no_line) in
    let long : length head ≡ l.i * record_size =
    in_order_length (bytes_of g.form g.profile) (bytes_six g.form g.profile) (take l.i g.lines.now) ∙ ap (λ (n : ℕ). n * record_size) (length-take-le l.i g.lines.now (omega arith)) in
    let along : l.i * record_size + length bytes ≡ (l.i + 1) * record_size = omega (arith, six) in
    tail_placed l.part (l.i * record_size) bytes c.put_line.new.tail record_size six c.put_line.ensures
    ∙ filled_more l.part g.part.now head bytes (l.i * record_size) long l.invariant
    ∙ ap (λ (xs : List ℕ). xs ++ drop (l.i * record_size + length bytes) g.part.now) (sym (in_order_more (bytes_of g.form g.profile) g.lines.now l.i (omega arith)))
    ∙ ap (λ (n : ℕ). in_order (bytes_of g.form g.profile) (take (l.i + 1) g.lines.now) ++ drop n g.part.now) along
