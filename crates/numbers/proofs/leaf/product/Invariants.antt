use Rattle.std.proofs.Common.{length}
use Rattle.laws.proofs.Leaf.{Product}
use Rattle.numbers.proofs.leaf.product.Given as goal

abbrev pub invariant-loop-i : goal.invariant-loop-i
invariant-loop-i l = Product l.seed l.list.n l.i l.list.cells.now (length l.initial.scratch) l.scratch
