use Rattle.std.proofs.Common.{◌≡◌, ◌+◌, ◌-◌, ◌≤◌, [], length}
use Rattle.laws.proofs.Added.{Running, Zeros}
use Rattle.laws.proofs.Rows.{rows}
use Rattle.laws.proofs.Seed.{seeded}
use Rattle.laws.specs.Coefficients.{coefficient, shift as shifted}
use Rattle.numbers.proofs.engine.+add_numerator_parts.Given as goal

abbrev pub decreases-add_numerator : goal.decreases-add_numerator
decreases-add_numerator l = l.m + l.m + l.m + 2

abbrev pub decreases-parts : goal.decreases-parts
decreases-parts l = (l.b + l.a) + (l.b + l.a) + (l.b + l.a) + 1

abbrev pub invariant-add_numerator-loop-at : goal.invariant-add_numerator-loop-at
invariant-add_numerator-loop-at l =
    (l.left ≤ l.m) × (length l.room ≡ length l.initial.room) × (length l.scratch ≡ length l.initial.scratch) × Zeros l.scratch
    × Running (shifted l.shift (seeded (coefficient l.seed) [] (rows l.n l.m l.initial.room))) l.initial.out (shifted l.at (seeded (coefficient l.seed) [] (rows l.n l.left l.room))) l.out

abbrev pub decreases-add_numerator-loop-at : goal.decreases-add_numerator-loop-at
decreases-add_numerator-loop-at l = length l.initial.out - l.at
