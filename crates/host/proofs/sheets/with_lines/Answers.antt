-- One line more at each call, as the lines are brought together.
use Rattle.std.proofs.Common.{◌≡◌, subst, rules}
use Rattle.std.proofs.lemmas.Fn.{fold_over, slice_gives, fronts}
use Rattle.sheet.specs.Sheet.{with_all}
use Rattle.host.proofs.Folds.{fold_none, fold_more}
use Rattle.host.proofs.sheets.with_lines.Goals as goal

pub returns : goal.returns
returns c = subst (λ ls. c.fold.result ≡ with_all c.args.from ls) c.iter.ensures.rest
    (fold_over fronts (λ line. line.now) _ (λ ls sheet. sheet ≡ with_all c.args.from ls) _
    (λ ls sheet line next f' j k. let more = fold_more c.args.from ls line.now in search rules)
    _ _ c.args.from c.fold.result (slice_gives c.iter.result) (fold_none c.args.from) c.fold.ensures.ran)
