use Rattle.std.proofs.Common.{◌≤◌}
use Rattle.laws.proofs.Pass.{Thinned}
use Rattle.numbers.proofs.parts.gather.Given as goal

abbrev pub invariant-loop-i : goal.invariant-loop-i
invariant-loop-i l = (l.k ≤ l.i) × Thinned l.n l.m l.initial.room l.m l.room
