use mathlib.Core.Path.{◌≡◌}
use lib.ListN.{drop}
use Rattle.monomials.proofs.monomial.revlex_order.Given as goal

abbrev pub invariant-loop-i : goal.invariant-loop-i
invariant-loop-i l = drop l.i l.a ≡ drop l.i l.b
