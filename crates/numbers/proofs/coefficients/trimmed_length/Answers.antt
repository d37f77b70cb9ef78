use Rattle.std.proofs.Common.{◌≡◌, ◌+◌, ◌-◌, length, get_or, pos, sym, ap, ◌∙◌, w64, SFits, of_z, arith, rules}
use Rattle.laws.proofs.Coefficients.{trim_end, trim_end_zero}
use Rattle.numbers.proofs.Bits.{bits_zero}
use Rattle.numbers.proofs.coefficients.trimmed_length.Goals as goal

pub returns-then-coeffs-k-ne0 : goal.returns-then-coeffs-k-ne0
returns-then-coeffs-k-ne0 c =
    let k = c.loop-k.k in
    let e : k - 1 + 1 ≡ k = omega arith in
    e ∙ sym (trim_end c.args.coeffs.now k (omega arith) (omega arith) (λ z. c.if-coeffs-k-ne0.true (ap (of_z w64) z))) ∙ ap length c.loop-k.invariant

pub loop-k-preserved : goal.loop-k-preserved
loop-k-preserved c =
    let k = c.loop-k.k in
    let fits : SFits w64 (get_or c.args.coeffs.now (k - 1) (pos 0)) = search rules in
    sym (trim_end_zero c.args.coeffs.now k (omega arith) (omega arith) (bits_zero _ fits c.if-coeffs-k-ne0.false)) ∙ c.loop-k.invariant
