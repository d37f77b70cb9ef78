use Rattle.std.proofs.Common.{◌≡◌, max, get_or}
use Rattle.laws.proofs.Columns.{Unshared}
use Rattle.laws.proofs.Rows.{Wrote}
use Rattle.numbers.proofs.columns.join.Given as goal

abbrev pub invariant-loop-v : goal.invariant-loop-v
invariant-loop-v l = Wrote l.initial.us (λ j. max (get_or l.initial.us j 0) (get_or l.m j 0)) 0 l.v l.us × (l.common ≡ 0 → Unshared l.initial.us l.m l.v)
