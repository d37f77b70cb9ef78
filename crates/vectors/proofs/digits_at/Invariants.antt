use Rattle.std.proofs.Common.{◌≡◌, ◌≤◌, min, drop}
use Rattle.vectors.specs.Text.{largest, digits, value_of, magnitude_of, end_of}
use Rattle.vectors.proofs.digits_at.Given as goal

abbrev pub invariant-loop-i : goal.invariant-loop-i
invariant-loop-i l = (l.magnitude ≤ largest) × (min (value_of l.magnitude (digits (drop l.i l.text))) largest ≡ magnitude_of (drop l.at l.text)) × (end_of l.text l.i ≡ end_of l.text l.at)
