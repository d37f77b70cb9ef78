use Rattle.std.proofs.Common.{◌≡◌, length}
use Rattle.numbers.proofs.hints.marks.Given as goal

abbrev pub invariant-loop-i : goal.invariant-loop-i
invariant-loop-i l = length l.s ≡ length l.initial.s
