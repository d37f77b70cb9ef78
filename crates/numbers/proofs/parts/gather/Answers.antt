use Rattle.std.proofs.Common.{arith}
use Rattle.laws.proofs.Pass.{thinned_swap}
use Rattle.numbers.proofs.parts.gather.Goals as goal
use Rattle.numbers.proofs.parts.gather.Goals.{then-bits-eq0, then-k-i, else-k-i, else-bits-eq0}

pub loop-i-preserved : goal.loop-i-preserved
loop-i-preserved c =
    let l = c.loop-i-test.true in
    let t = c.loop-i.invariant.1 in
    elim c.if-bits-eq0.branch [
      | then-bits-eq0 w ↦ (
        omega arith,
        rw w.room-is (elim w.if-k-i.branch [
          | then-k-i u ↦ rw u.room-is (thinned_swap c.args.n c.args.m c.loop-i.k c.loop-i.i _ _ _ u.if-k-i.true l c.requires u.swap.ensures t)
          | else-k-i u ↦ rw u.room-is t
        ]),
      )
      | else-bits-eq0 w ↦ (omega arith, rw w.room-is t)
    ]
