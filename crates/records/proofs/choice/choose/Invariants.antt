use mathlib.Core.Path.{◌≡◌}
use Prim.Native.Nat.{◌+◌, ◌≤◌}
use lib.ListN.{length, drop}
use Rattle.laws.specs.Count.{keep}
use Rattle.laws.specs.Minimal.{minimal_in, falling}
use Rattle.records.specs.Rows.{members, members_at, Below}
use Rattle.records.proofs.choice.choose.Given as goal

abbrev pub invariant-loop-i : goal.invariant-loop-i
invariant-loop-i l = record {
  rows : members_at l.list l.places ≡ falling (keep (minimal_in (members l.list)) (drop l.i (members l.list)));
  few : length l.places + l.i ≤ l.list.count;
  below : Below l.list.count l.places;
}
