use Rattle.std.proofs.Common.{◌≡◌, ◌-◌, drop, length}
use Rattle.laws.specs.Room.{holds}
use Rattle.vectors.specs.Asked.{spaced}
use Rattle.vectors.proofs.asked.stands_in.Given as goal

abbrev pub invariant-loop-i : goal.invariant-loop-i
invariant-loop-i l = holds l.x (spaced l.gap 0 (drop l.i l.cells)) ≡ holds l.x (spaced l.gap l.gap l.cells)

abbrev pub decreases-loop-i : goal.decreases-loop-i
decreases-loop-i l = length l.cells - l.i
