-- What `any` answers is the definition's own walk along the lines.
use Rattle.std.proofs.Common.{◌∙◌, rules, tests}
use Rattle.std.proofs.lemmas.Iterator.{YieldsList-from_slice}
use Rattle.std.proofs.lemmas.Iterator.Search.{any_from_yields_List}
use Rattle.sheet.specs.Line.{same_cell}
use Rattle.sheet.specs.declared.line.Line.{Line}
use Rattle.sheet.proofs.Repeats.{repeated_any}
use Rattle.sheet_code.proofs.check.repeats.Goals as goal

pub returns : goal.returns
returns c =
    let g = c.args in
    any_from_yields_List (λ (other : Line). same_cell other g.line) _ _ c.any.result c.any.ensures.ran (YieldsList-from_slice g.earlier.now cc) (λ x b q k. search (rules, tests))
    ∙ repeated_any g.earlier.now g.line
