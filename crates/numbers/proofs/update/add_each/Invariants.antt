use Rattle.std.proofs.Common.{◌≡◌, length}
use Rattle.laws.proofs.Added.{AddedTo, Zeros}
use Rattle.laws.proofs.Grown.{grown}
use Rattle.laws.specs.Ideal.{listed}
use Rattle.numbers.proofs.update.add_each.Given as goal

abbrev pub invariant-loop-i : goal.invariant-loop-i
invariant-loop-i l = (length l.room ≡ length l.initial.room) × (length l.second ≡ length l.initial.second) × Zeros l.second × AddedTo (grown (listed l.lists.n l.lists.s l.lists.xs.now) (listed l.lists.n l.i l.lists.ys.now)) l.initial.first l.first
