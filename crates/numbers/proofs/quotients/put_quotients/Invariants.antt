use Rattle.std.proofs.Common.{◌≡◌, ◌-◌, ◌%◌, length, get_or}
use Rattle.laws.proofs.Rows.{Wrote}
use Rattle.numbers.proofs.quotients.put_quotients.Given as goal

abbrev pub invariant-loop-i : goal.invariant-loop-i
invariant-loop-i l = (l.v ≡ l.i % length l.g) × Wrote l.initial.room (λ j. get_or l.cells j 0 - get_or l.g (j % length l.g) 0) l.to l.i l.room
