use Rattle.std.proofs.Common.{◌≡◌, ◌+◌, ◌≤◌}
use Rattle.laws.proofs.Column.{above}
use Rattle.numbers.proofs.pivot.count_above.Given as goal

abbrev pub invariant-loop-j : goal.invariant-loop-j
invariant-loop-j l = (l.count ≤ l.j) × (above l.list.n l.v l.e l.list.cells.now l.i + l.count ≡ above l.list.n l.v l.e l.list.cells.now l.j)
