use Rattle.std.proofs.Common.{arith}
use Rattle.numbers.proofs.AskedCells.{sought_end, sought_here, sought_next}
use Rattle.numbers.proofs.BothLists.{there}
use Rattle.numbers.proofs.extent.TwoLists.later.Goals as goal

pub returns-then-x-y : goal.returns-then-x-y
returns-then-x-y c =
    let l = c.loop-k in
    let y = c.cell-y in
    sought_here (there c.args.self.now) c.requires c.args.from c.args.x l.best l.k l.invariant (omega arith) y.result y.ensures c.if-x-y.true

pub loop-k-preserved : goal.loop-k-preserved
loop-k-preserved c =
    let l = c.loop-k in
    let y = c.cell-y in
    sought_next (there c.args.self.now) c.requires c.args.from c.args.x l.best l.k l.invariant (omega arith) y.result y.ensures c.max-best.result c.if-x-y.false c.max-best.ensures

pub returns : goal.returns
returns c =
    sought_end (there c.args.self.now) c.requires c.args.from c.args.x c.loop-k.best c.loop-k.k c.loop-k.invariant (omega arith)
