use Rattle.std.proofs.Common.{◌≡◌, ℕ, ◌*◌, ◌^◌, ◌<◌, ◌≤◌, length, nat_abs}
use Rattle.laws.specs.Coefficients.{coefficient}
use Rattle.numbers.specs.HilbertParts.{number_at}
use Rattle.numbers.proofs.hf_at.put_terms.Given as goal

abbrev pub invariant-loop-k : goal.invariant-loop-k
invariant-loop-k g l =
    (2 * l.count ≤ length l.initial.words) × (length l.words ≡ length l.initial.words) × ((j : ℕ) → j < l.k → number_at l.words j ≡ g.T.Terms.term (coefficient l.coeffs j))
    × ((j : ℕ) → j < l.k → nat_abs (coefficient l.coeffs j) < 2 ^ 64)
