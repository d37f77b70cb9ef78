use Rattle.std.proofs.Common.{◌≡◌, ◌≤◌, min, [], length}
use Rattle.laws.proofs.Added.{Running}
use Rattle.laws.proofs.Leaf.{by}
use Rattle.laws.proofs.Rows.{rows}
use Rattle.laws.proofs.Seed.{seeded}
use Rattle.laws.specs.Coefficients.{coefficient, shift as shifted}
use Rattle.numbers.proofs.few.+few.Given as goal

abbrev pub decreases-few : goal.decreases-few
decreases-few l = l.m

abbrev pub invariant-loop-left : goal.invariant-loop-left
invariant-loop-left l =
    (min l.m 3 ≤ l.left) × (length l.room ≡ length l.initial.room)
    × Running (shifted l.shift (λ k. by l.neg (seeded (coefficient l.seed) [] (rows l.n l.m l.initial.room) k))) l.initial.out (shifted l.shift (λ k. by l.neg (seeded (coefficient l.seed) [] (rows l.n l.left l.room) k))) l.out
