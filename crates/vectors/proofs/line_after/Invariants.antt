use Rattle.std.proofs.Common.{◌≡◌}
use Rattle.vectors.specs.Text.{line_after}
use Rattle.vectors.proofs.line_after.Given as goal

abbrev pub invariant-loop-i : goal.invariant-loop-i
invariant-loop-i l = line_after l.text l.i ≡ line_after l.text l.at
