-- The zeros, and the lines behind them.
use Rattle.std.proofs.Common.{◌≡◌, ◌∙◌, ap, sym, ℕ, length, rules}
use Rattle.std.proofs.Math.ListN.{replicate}
use Rattle.sheetfile.specs.Computed.{zeros_of}
use Rattle.sheetfile.proofs.Filled.{sheet_bytes_lem}
use Rattle.sheetfile_code.proofs.write.put_bytes.Goals as goal

pub returns : goal.returns
returns c =
    let g = c.args in
    let zeros : c.fill.new.self ≡ replicate (zeros_of g.form (length g.lines.now)) 0 = c.fill.ensures.after (search rules) ∙ ap (λ (n : ℕ). replicate n 0) (c.split_at_mut-zeros.ensures.front_len ∙ c.zeros_of.ensures) in
    rw (zeros, c.put_lines.ensures) (sym (sheet_bytes_lem g.form g.profile g.lines.now))
