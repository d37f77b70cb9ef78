use Rattle.laws.specs.Monomial.{quotient}
use Rattle.numbers.proofs.Tally.{Tallies, Tally}
use Rattle.numbers.proofs.few.triple_degrees.Given as goal

abbrev pub invariant-loop-i : goal.invariant-loop-i
invariant-loop-i l = Tallies l.a l.b l.i l.first × Tally l.c l.i l.dc × Tallies (quotient l.a l.c) (quotient l.b l.c) l.i l.by_c
