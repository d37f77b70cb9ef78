use Rattle.laws.proofs.Added.{Timing}
use Rattle.numbers.proofs.leaf.times.Given as goal

abbrev pub invariant-loop-k : goal.invariant-loop-k
invariant-loop-k l = Timing l.a l.initial.c l.k l.c
