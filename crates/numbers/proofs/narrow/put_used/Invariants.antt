use Rattle.laws.proofs.Narrow.{Kept}
use Rattle.numbers.proofs.narrow.put_used.Given as goal

abbrev pub invariant-loop-i : goal.invariant-loop-i
invariant-loop-i l = Kept l.list.n l.w l.ps l.list.cells.now l.initial.room l.i l.room
