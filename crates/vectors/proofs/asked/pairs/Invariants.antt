use Rattle.std.proofs.Common.{◌≡◌, ◌+◌, ◌≤◌, drop}
use Rattle.vectors.specs.Asked.{pairs_in}
use Rattle.vectors.proofs.asked.pairs.Given as goal

abbrev pub invariant-loop-i : goal.invariant-loop-i
invariant-loop-i l = (l.e ≤ l.i) × (l.e + pairs_in l.gap (drop l.i l.cells) ≡ pairs_in l.gap l.cells)
