use mathlib.Core.Path.{◌≡◌}
use mathlib.Core.List.{◌++◌}
use lib.ListN.{take, drop}
use Rattle.laws.specs.Record.{exponents_in}
use Rattle.records.proofs.bytes.copy_cells.Given as goal

abbrev pub invariant-loop-i : goal.invariant-loop-i
invariant-loop-i l = l.cell-items ≡ take l.i (exponents_in l.rec) ++ drop l.i l.initial.cell-items
