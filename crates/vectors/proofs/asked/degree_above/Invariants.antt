use Rattle.std.proofs.Common.{◌≡◌, ◌+◌, ◌*◌, ◌≤◌, drop}
use Rattle.vectors.specs.Asked.{above}
use Rattle.vectors.proofs.asked.degree_above.Given as goal

abbrev pub invariant-loop-i : goal.invariant-loop-i
invariant-loop-i l = (l.d ≤ 65535 * l.i) × (l.d + above l.gap (drop l.i l.cells) ≡ above l.gap l.cells)
