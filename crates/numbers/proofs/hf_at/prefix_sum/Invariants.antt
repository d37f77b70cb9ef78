use Rattle.std.proofs.Common.{◌≡◌, ℕ, ◌*◌, ◌<◌, ◌≤◌, length}
use Rattle.laws.specs.Coefficients.{coefficient}
use Rattle.laws.specs.Sums.{sums}
use Rattle.numbers.specs.HilbertParts.{number_at}
use Rattle.numbers.proofs.hf_at.prefix_sum.Given as goal

abbrev pub invariant-loop-done : goal.invariant-loop-done
invariant-loop-done g l =
    let t = g.T.Terms in
    (2 * l.count ≤ length l.initial.words) × (length l.words ≡ length l.initial.words)
    × ((k : ℕ) → k < l.count → t.kept (number_at l.words k) ≡ t.kept (sums l._done (λ j. t.term (coefficient l.coeffs j)) k))
