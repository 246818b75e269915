-- After each turn one digit more stands before the later ones.
use Rattle.std.proofs.Common.{◌≡◌, ◌∙◌, ap, ℕ, suc, ◌+◌, ◌-◌, ◌%◌, ◌≤◌, ◌<◌, ◌∷◌, ◌++◌, arith, length, take, drop}
use Rattle.std.proofs.Math.ListN.{length-set}
use Rattle.characters.specs.Decimal.{digit}
use Rattle.characters.proofs.Digits.{digit_before, set_before}
use Rattle.decimal.proofs.decimal.put_digits.Goals as goal

pub loop-i-preserved : goal.loop-i-preserved
loop-i-preserved c =
    let l = c.loop-i in
    let g = c.args in
    let some : 0 < l.i = omega arith in
    let next : g.at + l.i ≡ suc (g.at + (l.i - 1)) = omega arith in
    let within : suc (g.at + (l.i - 1)) ≤ length g.buf.now = omega (arith, l.invariant.1) in
    let later = l.invariant.0 ++ drop (g.at + g.count) g.buf.now in (
      digit (l.rest % 10) ∷ l.invariant.0,
      omega (arith, l.invariant.1),
      length-set l.buf (g.at + (l.i - 1)) (digit (l.rest % 10)) ∙ l.invariant.2,
      l.invariant.3 ∙ digit_before l.i l.rest l.invariant.0 some,
      set_before l.buf g.buf.now later (g.at + (l.i - 1)) (digit (l.rest % 10)) within
          (l.invariant.4 ∙ ap (λ (k : ℕ). take k g.buf.now ++ later) next),
    )
