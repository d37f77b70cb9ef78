use Rattle.std.proofs.Common.{◌≡◌, drop}
use Rattle.laws.specs.Monomial.{divides}
use Rattle.numbers.proofs.minimal.divides.Given as goal

abbrev pub invariant-loop-v : goal.invariant-loop-v
invariant-loop-v l = divides l.a l.b ≡ divides (drop l.v l.a) (drop l.v l.b)
