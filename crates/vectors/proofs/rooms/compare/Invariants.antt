use Rattle.std.proofs.Common.{map}
use Rattle.vectors.proofs.Holding.{Checking}
use Rattle.vectors.proofs.rooms.compare.Given as goal

abbrev pub invariant-loop-j : goal.invariant-loop-j
invariant-loop-j g l = Checking l.text l.contents (map g.T.Element.bits l.room) l.j l.next l.right
