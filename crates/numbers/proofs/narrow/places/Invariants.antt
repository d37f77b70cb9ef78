use Rattle.laws.proofs.Narrow.{Placing}
use Rattle.numbers.proofs.narrow.places.Given as goal

abbrev pub invariant-loop-v : goal.invariant-loop-v
invariant-loop-v l = Placing l.us l.v l.ps l.w
