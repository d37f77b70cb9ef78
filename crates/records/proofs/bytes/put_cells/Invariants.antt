use mathlib.Core.Path.{◌≡◌}
use lib.ListN.{take}
use lib.Seq.{sets}
use Rattle.laws.specs.Record.{monomial_bytes}
use Rattle.records.proofs.bytes.put_cells.Given as goal

abbrev pub invariant-loop-i : goal.invariant-loop-i
invariant-loop-i l = l.out ≡ sets l.initial.out l.at (monomial_bytes (take l.i l.cells))
