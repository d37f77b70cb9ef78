use Rattle.laws.proofs.Pass.{divided_more}
use Rattle.numbers.proofs.minimal.colon.Goals as goal

pub loop-i-preserved : goal.loop-i-preserved
loop-i-preserved c =
    divided_more c.args.n c.args.m c.args.v c.args.e c.args.room.now c.loop-i.i c.saturating_sub.result c.loop-i.room c.requires.0 c.loop-i-test.true c.requires.1 c.saturating_sub.ensures c.loop-i.invariant
