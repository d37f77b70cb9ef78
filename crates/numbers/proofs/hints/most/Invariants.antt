use Rattle.std.proofs.Common.{◌≤◌}
use Rattle.numbers.proofs.hints.most.Given as goal

abbrev pub invariant-loop-v : goal.invariant-loop-v
invariant-loop-v l = l.h.pairs ≤ l.v
