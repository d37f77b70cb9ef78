use Rattle.std.proofs.Common.{false}
use Rattle.laws.proofs.Few.{Quotients}
use Rattle.numbers.proofs.few.quotients.Given as goal

abbrev pub invariant-loop-i : goal.invariant-loop-i
invariant-loop-i l = Quotients l.n l.k l.initial.room l.i false l.room
