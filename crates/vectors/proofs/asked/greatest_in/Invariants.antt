use Rattle.std.proofs.Common.{◌≡◌, ◌-◌, max, drop, length}
use Rattle.laws.proofs.Asked.{greatest}
use Rattle.vectors.specs.Asked.{spaced}
use Rattle.vectors.proofs.asked.greatest_in.Given as goal

abbrev pub invariant-loop-i : goal.invariant-loop-i
invariant-loop-i l = max l.most (greatest (spaced l.gap 0 (drop l.i l.cells))) ≡ greatest (spaced l.gap l.gap l.cells)

abbrev pub decreases-loop-i : goal.decreases-loop-i
decreases-loop-i l = length l.cells - l.i
