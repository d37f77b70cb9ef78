use mathlib.Core.Path.{◌≡◌}
use lib.ListN.{take}
use lib.Seq.{sets}
use Rattle.laws.specs.Record.{exponent_bytes}
use Rattle.records.specs.Rows.{members_at}
use Rattle.records.proofs.ideal.put_rows.Given as goal

abbrev pub invariant-loop-k : goal.invariant-loop-k
invariant-loop-k l = l.out ≡ sets l.initial.out 7 (exponent_bytes (members_at l.list (take l.k l.places)))
