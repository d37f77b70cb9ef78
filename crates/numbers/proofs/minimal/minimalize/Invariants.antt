use Rattle.std.proofs.Common.{◌+◌, ◌-◌, ◌≤◌}
use Rattle.laws.proofs.Pass.{Thinned}
use Rattle.numbers.proofs.minimal.minimalize.Given as goal

abbrev pub invariant-loop-i : goal.invariant-loop-i
invariant-loop-i l = (l.i ≤ l.left) × Thinned l.n l.m l.initial.room l.left l.room

abbrev pub decreases-loop-i : goal.decreases-loop-i
decreases-loop-i l = l.left + l.left - l.i
