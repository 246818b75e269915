-- A line's raw frame has six bytes.
use Rattle.std.proofs.Common.{◌∙◌, [], ◌∷◌, rules}
use Rattle.frame.specs.declared.direction.Direction.TheVariants as direction
use Rattle.frame.specs.Frame.{frame_of}
use Rattle.fields.proofs.Raws.{raw_left}
use Rattle.sheetfile_code.proofs.write.put_command.Goals as goal

pub returns : goal.returns
unfolding frame_of
returns c =
    let g = c.args in
    c.write_raw.ensures.leaves
    ∙ raw_left direction.Command g.tail.now 0 g.line.zone g.line.command 0 (g.line.value ∷ []) (search rules) (search rules)
