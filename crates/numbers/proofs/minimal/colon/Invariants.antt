use Rattle.laws.proofs.Pass.{Divided}
use Rattle.numbers.proofs.minimal.colon.Given as goal

abbrev pub invariant-loop-i : goal.invariant-loop-i
invariant-loop-i l = Divided l.n l.m l.v l.e l.initial.room l.i l.room
