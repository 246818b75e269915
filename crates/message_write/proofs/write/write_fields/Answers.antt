-- A refusal of what is read is passed on.
use Rattle.std.proofs.Common.{sym, ◌∙◌}
use Rattle.std.proofs.lemmas.Result.{err_from_is_err_and}
use Rattle.message.proofs.Writes.{fields_refused}
use Rattle.message_write.proofs.write.write_fields.Goals as goal

pub returns-in_err-message-clause-answers : goal.returns-in_err-message-clause-answers
returns-in_err-message-clause-answers c =
    let g = c.args in
    let p = err_from_is_err_and c.from_residual.result c.from_residual.ensures.1 in
    rw (p.1, p.2) (sym (fields_refused _ _ g.buf.now g.at _ _ _ _ _ (sym c.read_message.ensures ∙ c.in_err-message.was)))
