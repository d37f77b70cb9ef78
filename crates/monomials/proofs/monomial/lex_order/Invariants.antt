use mathlib.Core.Path.{◌≡◌}
use lib.ListN.{drop}
use Rattle.laws.specs.Order.{lex}
use Rattle.monomials.proofs.monomial.lex_order.Given as goal

abbrev pub invariant-loop-i : goal.invariant-loop-i
invariant-loop-i l = lex l.a l.b ≡ lex (drop l.i l.a) (drop l.i l.b)
