use Rattle.std.proofs.Common.{◌≡◌, ℕ, suc, ◌*◌, ◌<◌, ◌≤◌, length}
use Rattle.laws.specs.Sums.{sum_below}
use Rattle.numbers.specs.Wide.{value}
use Rattle.numbers.specs.HilbertParts.{number_at}
use Rattle.numbers.proofs.hf_at.stage.Given as goal

abbrev pub invariant-loop-k : goal.invariant-loop-k
invariant-loop-k g l =
    let t = g.T.Terms in
    (2 * l.count ≤ length l.initial.words) × (length l.words ≡ length l.initial.words) × (t.kept (value l.total) ≡ t.kept (sum_below l.k (number_at l.initial.words)))
    × ((j : ℕ) → j < l.k → t.kept (number_at l.words j) ≡ t.kept (sum_below (suc j) (number_at l.initial.words))) × ((j : ℕ) → l.k ≤ j → number_at l.words j ≡ number_at l.initial.words j)
