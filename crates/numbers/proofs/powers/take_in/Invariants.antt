use Rattle.std.proofs.Common.{◌≡◌, ℕ, ◌<◌, ◌≤◌, length, get_or}
use Rattle.laws.specs.Dimension.{pure_power, lesser}
use Rattle.numbers.proofs.powers.take_in.Given as goal

abbrev pub invariant-loop-v : goal.invariant-loop-v
invariant-loop-v l =
    (length l.powers ≡ length l.initial.powers) × ((j : ℕ) → j < l.v → get_or l.powers j 0 ≡ lesser (pure_power l.m j) (get_or l.initial.powers j 0))
    × ((j : ℕ) → l.v ≤ j → get_or l.powers j 0 ≡ get_or l.initial.powers j 0)
