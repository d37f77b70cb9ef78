use Rattle.std.proofs.Common.{◌-◌}
use Rattle.numbers.proofs.AskedColumns.{Counted}
use Rattle.numbers.specs.BothLists.{all}
use Rattle.numbers.proofs.extent.TwoLists.distinct.Given as goal

abbrev pub invariant-loop-k : goal.invariant-loop-k
invariant-loop-k l = Counted l.self.n (all l.self) l.v l.count l.k

abbrev pub decreases-loop-k : goal.decreases-loop-k
decreases-loop-k l = l.end - l.k
