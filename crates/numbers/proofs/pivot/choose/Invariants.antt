use Rattle.std.proofs.Common.{◌<◌, ◌≤◌}
use Rattle.laws.proofs.Column.{above}
use Rattle.numbers.proofs.pivot.choose.Given as goal

abbrev pub invariant-loop-i : goal.invariant-loop-i
invariant-loop-i l = (2 ≤ l.enough) × (0 < l.e) × (2 ≤ above l.list.n l.s.v l.e l.list.cells.now l.list.count)
