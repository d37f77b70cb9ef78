use Rattle.numbers.proofs.AskedColumns.{Summed}
use Rattle.numbers.specs.BothLists.{all}
use Rattle.numbers.proofs.extent.TwoLists.pairs_by_columns.Given as goal

abbrev pub invariant-loop-v : goal.invariant-loop-v
invariant-loop-v l = Summed l.self.n (all l.self) l.pairs l.v
