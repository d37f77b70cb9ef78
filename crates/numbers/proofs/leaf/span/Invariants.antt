use Rattle.std.proofs.Common.{◌≤◌}
use Rattle.laws.proofs.Leaf.{Past}
use Rattle.numbers.proofs.leaf.span.Given as goal

abbrev pub invariant-loop-i : goal.invariant-loop-i
invariant-loop-i l = (l.w ≤ l.cap) × Past l.seed l.list.n l.i l.list.cells.now l.w l.cap
