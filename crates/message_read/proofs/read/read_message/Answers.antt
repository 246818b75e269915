-- A refusal of what is said is passed on.
use Rattle.std.proofs.Common.{sym, ◌∙◌}
use Rattle.std.proofs.lemmas.Result.{err_from_is_err_and}
use Rattle.message.proofs.Readings.{read_refused}
use Rattle.message_read.proofs.read.read_message.Goals as goal

pub returns-in_err-said : goal.returns-in_err-said
returns-in_err-said c =
    let p = err_from_is_err_and c.from_residual.result c.from_residual.ensures.1 in
    rw (p.1, p.2) (sym (read_refused _ _ _ _ _ _ _ (sym c.has_other_code.ensures ∙ c.if-has_other_code.false) (sym c.read_said.ensures ∙ c.in_err-said.was)))
