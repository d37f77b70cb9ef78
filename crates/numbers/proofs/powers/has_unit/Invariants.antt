use Rattle.std.proofs.Common.{◌≡◌}
use Rattle.laws.proofs.Ideal.{listed_from}
use Rattle.laws.specs.Ideal.{listed, unit_in}
use Rattle.numbers.proofs.powers.has_unit.Given as goal

abbrev pub invariant-loop-i : goal.invariant-loop-i
invariant-loop-i l = unit_in (listed l.list.n l.list.count l.list.cells.now) ≡ unit_in (listed_from l.list.n l.list.count l.i l.list.cells.now)
