use Rattle.std.proofs.Common.{◌≡◌, ℕ, ◌≢◌, get_or, add-one, arith, below_more}
use Rattle.laws.specs.Sums.{product_below}
use Rattle.numbers.proofs.LeastPowers.{bound_missing, bound_large, bound_none, bound_some}
use Rattle.numbers.proofs.powers.bound_of.Goals as goal

pub returns-then-x-eq0 : goal.returns-then-x-eq0
returns-then-x-eq0 c =
    let a = c.args in
    bound_missing 65536 a.n a.powers.now c.loop-v.v c.loop-v-test.true c.if-x-eq0.true

pub loop-v-preserved : goal.loop-v-preserved
loop-v-preserved c =
    let l = c.loop-v in
    let i = l.invariant in
    let f : ℕ → ℕ = λ j. get_or c.args.powers.now j 0 in (
      omega (arith, c.type_inv.powers l.v),
      rw (add-one l.v) (omega arith),
      below_more (λ j. f j ≢ 0) l.v i.2 c.if-x-eq0.false,
      rw (add-one l.v) (c.times-product.ensures (product_below l.v f) i.3),
    )

pub returns-then-d-gt-MAX_DEGREE : goal.returns-then-d-gt-MAX_DEGREE
returns-then-d-gt-MAX_DEGREE c =
    let a = c.args in
    let l = c.loop-v in
    let i = l.invariant in
    let e : l.v ≡ a.n = omega arith in
    bound_large 65536 a.n a.powers.now l.d (rw e at i.1) (rw e at i.2) c.if-d-gt-MAX_DEGREE.true

pub returns-in-None : goal.returns-in-None
returns-in-None c =
    let a = c.args in
    let l = c.loop-v in
    let i = l.invariant in
    let e : l.v ≡ a.n = omega arith in
    bound_none 65536 a.n a.powers.now l.d (rw e at i.1) (rw e at i.2) c.if-d-gt-MAX_DEGREE.false l.product (rw e at i.3) c.in-None.is

pub returns-in-Some : goal.returns-in-Some
returns-in-Some c =
    let a = c.args in
    let l = c.loop-v in
    let i = l.invariant in
    let e : l.v ≡ a.n = omega arith in
    bound_some 65536 a.n a.powers.now l.d (rw e at i.1) (rw e at i.2) c.if-d-gt-MAX_DEGREE.false l.product (rw e at i.3) c.in-Some.field-0 c.in-Some.is
