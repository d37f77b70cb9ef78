use Rattle.std.proofs.Common.{get_or}
use Rattle.laws.proofs.Rows.{Wrote}
use Rattle.numbers.proofs.narrow.put_cells.Given as goal

abbrev pub invariant-loop-i : goal.invariant-loop-i
invariant-loop-i l = Wrote l.initial.room (λ j. get_or l.cells j 0) 0 l.i l.room
