use Rattle.std.proofs.Common.{◌≡◌, ◌≤◌, length}
use Rattle.laws.proofs.Columns.{Joined, Single}
use Rattle.numbers.proofs.columns.join_all.Given as goal

abbrev pub invariant-loop-i : goal.invariant-loop-i
invariant-loop-i l = (l.i ≤ l.list.count) × (length l.us ≡ l.list.n) × Joined l.list.n l.list.count l.list.cells.now l.i l.us × (l.common ≡ 0 → Single l.list.n l.list.count l.list.cells.now l.i)
