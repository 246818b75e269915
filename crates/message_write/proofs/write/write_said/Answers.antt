-- A refusal of zone or row is passed on.
use Rattle.std.proofs.Common.{sym, ◌∙◌}
use Rattle.std.proofs.lemmas.Result.{err_from_is_err_and}
use Rattle.frame.specs.Frame.{frame_of}
use Rattle.message.specs.Write.{said_data}
use Rattle.message.proofs.Writes.{said_refused}
use Rattle.message_write.proofs.write.write_said.Goals as goal

pub returns-in_err-row-clause-answers : goal.returns-in_err-row-clause-answers
returns-in_err-row-clause-answers c =
    let g = c.args in
    let p = err_from_is_err_and c.from_residual.result c.from_residual.ensures.1 in
    rw (p.1, p.2) (sym (said_refused g.profile g.direction g.buf.now g.at _ _ g.said.content (frame_of g.direction g.said.zone g.said.command 0 (said_data g.profile g.said.command g.said.content)) _ (sym c.judge_row.ensures ∙ c.in_err-row.was)))
