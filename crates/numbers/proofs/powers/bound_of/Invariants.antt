use Rattle.std.proofs.Common.{◌≡◌, ℕ, ◌-◌, ◌*◌, ◌<◌, ◌≤◌, ◌≢◌, get_or}
use Rattle.laws.specs.Sums.{product_below, sum_below}
use Rattle.numbers.specs.Wide.{product_answer}
use Rattle.numbers.proofs.powers.bound_of.Given as goal

abbrev pub invariant-loop-v : goal.invariant-loop-v
invariant-loop-v l =
    (l.d ≤ 65535 * l.v) × (l.d ≡ sum_below l.v (λ j. get_or l.powers j 0 - 1)) × ((j : ℕ) → j < l.v → get_or l.powers j 0 ≢ 0)
    × (l.product ≡ product_answer (product_below l.v (λ j. get_or l.powers j 0)))
