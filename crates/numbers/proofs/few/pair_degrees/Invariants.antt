use Rattle.numbers.proofs.Tally.{Tallies}
use Rattle.numbers.proofs.few.pair_degrees.Given as goal

abbrev pub invariant-loop-i : goal.invariant-loop-i
invariant-loop-i l = Tallies l.a l.b l.i l.d
