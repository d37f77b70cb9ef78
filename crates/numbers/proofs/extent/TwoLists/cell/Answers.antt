use Rattle.std.proofs.Common.{refl, inl, inr}
use Rattle.numbers.proofs.AskedCells.{cell_is}
use Rattle.numbers.proofs.BothLists.{there, wide}
use Rattle.numbers.proofs.extent.TwoLists.cell.Goals as goal

pub returns-then-k-a : goal.returns-then-k-a
returns-then-k-a c =
    let x = c.args.self.now in
    cell_is (there x) (wide x c.args.k c.requires) c.args.k _ c.requires (inl (c.if-k-a.true, refl))

pub returns-else-k-a : goal.returns-else-k-a
returns-else-k-a c =
    let x = c.args.self.now in
    cell_is (there x) (wide x c.args.k c.requires) c.args.k _ c.requires (inr (c.if-k-a.false, refl))
