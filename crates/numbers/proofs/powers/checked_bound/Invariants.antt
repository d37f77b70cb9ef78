use Rattle.std.proofs.Common.{◌≡◌, ℕ, ◌<◌, length, get_or}
use Rattle.laws.proofs.Ideal.{listed_from}
use Rattle.laws.specs.Dimension.{least_power}
use Rattle.numbers.proofs.powers.checked_bound.Given as goal

abbrev pub invariant-loop-i : goal.invariant-loop-i
invariant-loop-i l = (length l.powers ≡ 255) × ((v : ℕ) → v < l.list.n → get_or l.powers v 0 ≡ least_power (listed_from l.list.n l.list.count l.i l.list.cells.now) v)
