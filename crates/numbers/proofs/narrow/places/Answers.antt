use Rattle.std.proofs.Common.{arith}
use Rattle.laws.proofs.Narrow.{placing_on, placing_past}
use Rattle.numbers.proofs.narrow.places.Goals as goal
use Rattle.numbers.proofs.narrow.places.Goals.{then-u-gt0, else-u-gt0}

pub loop-v-preserved : goal.loop-v-preserved
loop-v-preserved c =
    let us = c.args.us.now in
    let l = c.loop-v in
    let t = c.loop-v-test.true in
    elim c.if-u-gt0.branch [
      | then-u-gt0 w ↦ rw w.w-is (placing_on us l.v l.ps l.w t (omega arith) w.if-u-gt0.true l.invariant)
      | else-u-gt0 w ↦ rw w.w-is (placing_past us l.v l.ps l.w l.v t (omega arith) l.invariant)
    ]
