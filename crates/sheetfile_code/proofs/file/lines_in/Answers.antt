-- The lines of the records so far, brought together: one record more brings its line.
use Rattle.std.proofs.Common.{◌≡◌, List, [], ◌∷◌, ◌++◌, ℕ, refl, sym, subst, ◌∙◌, rules}
use Rattle.std.proofs.lemmas.Fn.{fold_over, slice_gives, fronts}
use Rattle.sheet.specs.Sheet.{no_lines, with_line, with_all}
use Rattle.sheet.specs.declared.sheet.Sheet.{Sheet}
use Rattle.sheetfile.specs.File.{line_of, lines_in}
use Rattle.sheetfile.specs.Computed.{record_in, records_in}
use Rattle.sheetfile_code.proofs.file.lines_in.Goals as goal

none_yet : (s : Sheet) → with_all s (lines_in (records_in [])) ≡ s
unfolding with_all lines_in
none_yet s = refl

one_more : (s : Sheet) (parts : List (List ℕ)) (six : List ℕ)
    → with_all s (lines_in (records_in (parts ++ six ∷ []))) ≡ with_line (with_all s (lines_in (records_in parts))) (line_of (record_in six))
unfolding with_all lines_in
one_more s [] six = refl
one_more s (part ∷ parts) six = one_more (with_line s (line_of (record_in part))) parts six

pub returns : goal.returns
returns c = subst (λ parts. c.fold.result ≡ with_all no_lines (lines_in (records_in parts))) c.iter.ensures.rest
    (fold_over fronts (λ six. six.now) _ (λ parts sheet. sheet ≡ with_all no_lines (lines_in (records_in parts))) _
    (λ parts sheet six next f' j k. let more = one_more no_lines parts six.now in search rules)
    _ _ c.no_lines.result c.fold.result (slice_gives c.iter.result) (c.no_lines.ensures ∙ sym (none_yet no_lines)) c.fold.ensures.ran)
