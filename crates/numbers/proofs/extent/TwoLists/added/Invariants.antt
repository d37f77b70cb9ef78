use Rattle.std.proofs.Common.{◌≡◌, ◌*◌, ◌≤◌}
use Rattle.laws.specs.Sums.{sum_below}
use Rattle.numbers.proofs.AskedCells.{new_degree, new_pair}
use Rattle.numbers.specs.BothLists.{all}
use Rattle.numbers.proofs.extent.TwoLists.added.Given as goal

abbrev pub invariant-loop-k : goal.invariant-loop-k
invariant-loop-k l = (l.pairs ≡ sum_below l.k (new_pair l.self.n (all l.self))) × (l.degree ≡ sum_below l.k (new_degree l.self.n (all l.self))) × (l.pairs ≤ l.k) × (l.degree ≤ l.k * 65535)
