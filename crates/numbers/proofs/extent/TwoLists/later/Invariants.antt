use Rattle.std.proofs.Common.{◌-◌}
use Rattle.numbers.proofs.AskedCells.{Sought}
use Rattle.numbers.specs.BothLists.{all}
use Rattle.numbers.proofs.extent.TwoLists.later.Given as goal

abbrev pub invariant-loop-k : goal.invariant-loop-k
invariant-loop-k l = Sought l.self.n (all l.self) l.from l.x l.best l.k

abbrev pub decreases-loop-k : goal.decreases-loop-k
decreases-loop-k l = l.end - l.k
