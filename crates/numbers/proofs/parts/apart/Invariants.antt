use Rattle.laws.proofs.Parts.{Sided}
use Rattle.numbers.proofs.parts.apart.Given as goal

abbrev pub invariant-loop-v : goal.invariant-loop-v
invariant-loop-v l = Sided l.list.n l.b l.list.count l.list.cells.now l.v
