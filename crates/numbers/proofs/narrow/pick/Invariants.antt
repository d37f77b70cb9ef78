use Rattle.std.proofs.Common.{get_or}
use Rattle.laws.proofs.Rows.{Wrote}
use Rattle.numbers.proofs.narrow.pick.Given as goal

abbrev pub invariant-loop-j : goal.invariant-loop-j
invariant-loop-j l = Wrote l.initial.room (λ i. get_or l.m (get_or l.ps i 0) 0) l.to l.j l.room
