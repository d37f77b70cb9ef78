-- The variables from i on are equal. Rests on `revlex_differ` and `revlex_same`.
use native.Mathlib.Omega.{arith}
use mathlib.Core.Path.{◌≡◌, sym, ap, ◌∙◌}
use Prim.Native.Nat.{◌+◌, ◌-◌}
use Rattle.laws.proofs.Order.{revlex_same, revlex_differ}
use Rattle.monomials.specs.Monomial.{order_of}
use Rattle.monomials.proofs.Pairs.{cmp_numbers}
use Rattle.monomials.proofs.monomial.revlex_order.Goals as goal

pub returns-then-a-i : goal.returns-then-a-i
returns-then-a-i c =
    let i = c.loop-i.i in
    let e : i - 1 + 1 ≡ i = omega arith in
    c.cmp.ensures
    ∙ cmp_numbers _ _
    ∙ ap order_of (sym (revlex_differ c.args.a.now c.args.b.now (i - 1) (omega arith) (omega arith) (rw e c.loop-i.invariant) c.if-a-i.true))

pub returns : goal.returns
returns c =
    let e : c.loop-i.i ≡ 0 = omega arith in
    ap order_of (sym (revlex_same c.args.a.now c.args.b.now (rw e at c.loop-i.invariant)))
