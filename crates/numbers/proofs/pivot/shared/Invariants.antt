use Rattle.std.proofs.Common.{ℕ, ◌<◌}
use Rattle.laws.proofs.Column.{above}
use Rattle.numbers.proofs.pivot.shared.Given as goal

abbrev pub invariant-loop-v : goal.invariant-loop-v
invariant-loop-v l = (z : ℕ) → z < l.v → above l.list.n z 1 l.list.cells.now l.list.count < 2
