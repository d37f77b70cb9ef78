-- `mask_bit` meets its contract. Rests on `mask_bit_outside` and `mask_bit_inside`.
use native.Mathlib.Omega.{arith}
use mathlib.Core.Path.{sym}
use Rattle.laws.proofs.Mask.{mask_bit_outside, mask_bit_inside}
use Rattle.monomials.proofs.divmask.mask_bit.Goals as goal

pub returns-then-n-v : goal.returns-then-n-v
returns-then-n-v c =
    let a = c.args in
    sym (mask_bit_outside a.n a.max_deg a.i c.bits_each-each.result a.exps.now (omega arith) c.bits_each-each.ensures.0 c.if-n-v.true)

pub returns : goal.returns
returns c =
    let a = c.args in
    sym (mask_bit_inside a.n a.max_deg a.i c.bits_each-each.result c.threshold_of.result c.exponent_at-x.result a.exps.now (omega arith) c.bits_each-each.ensures.0 c.if-n-v.false c.threshold_of.ensures c.exponent_at-x.ensures)
