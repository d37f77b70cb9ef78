use Rattle.std.proofs.Common.{◌≡◌, ◌+◌, ◌*◌, ◌≤◌}
use Rattle.laws.proofs.Branch.{Summed}
use Rattle.numbers.proofs.branch.sum_branch.Given as goal

abbrev pub invariant-loop-i : goal.invariant-loop-i
invariant-loop-i l = (l.k ≤ l.i) × (l.to ≡ l.m * l.n + l.k * l.n) × Summed l.n l.m l.v l.e l.initial.room l.i l.k l.room
