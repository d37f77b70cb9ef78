use Rattle.std.proofs.Common.{ℕ, ◌<◌, slice_index}
use Rattle.monomials.proofs.cells.write_cells.Given as goal

abbrev pub invariant-loop-i : goal.invariant-loop-i
invariant-loop-i g l = (k : ℕ) → k < l.i → goal.F-post g l.op (slice_index l.a k) (slice_index l.b k) (slice_index l.out k)
