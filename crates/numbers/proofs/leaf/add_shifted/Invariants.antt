use Rattle.laws.proofs.Added.{Adding}
use Rattle.laws.proofs.Leaf.{by}
use Rattle.laws.specs.Coefficients.{coefficient}
use Rattle.numbers.proofs.leaf.add_shifted.Given as goal

abbrev pub invariant-loop-k : goal.invariant-loop-k
invariant-loop-k l = Adding l.shift (λ j. by l.neg (coefficient l.seed j)) l.initial.out l.k l.out
