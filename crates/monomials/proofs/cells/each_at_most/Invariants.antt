use mathlib.Core.Path.{◌≡◌}
use lib.ListN.{drop}
use Rattle.laws.specs.Monomial.{divides}
use Rattle.monomials.proofs.cells.each_at_most.Given as goal

abbrev pub invariant-loop-i : goal.invariant-loop-i
invariant-loop-i l = divides l.a l.b ≡ divides (drop l.i l.a) (drop l.i l.b)
