use Rattle.std.proofs.Common.{◌≡◌, ◌≤◌}
use Rattle.laws.proofs.Column.{above}
use Rattle.numbers.proofs.columns.used.Given as goal

abbrev pub invariant-loop-u : goal.invariant-loop-u
invariant-loop-u l = (l.count ≤ l.u-index) × (l.count ≡ above 1 0 1 l.us l.u-index)
