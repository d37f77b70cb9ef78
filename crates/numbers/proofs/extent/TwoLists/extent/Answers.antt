use Rattle.std.proofs.Common.{length-take-le}
use Rattle.laws.proofs.Lists.{replicate_constant, take_constant}
use Rattle.numbers.proofs.AskedCells.{added_measured}
use Rattle.numbers.proofs.extent.TwoLists.extent.Goals as goal

pub returns-then-self-le32 : goal.returns-then-self-le32
returns-then-self-le32 c =
    let x = c.args.self.now in
    let e = c.added.ensures in
    added_measured x.n x.s x.xs.now x.t x.ys.now c.if-self-gt0.false c.added.result.pairs c.added.result.degree (e.pairs_added, e.degree_added)

pub by_columns-requires-clause-zeros : goal.by_columns-requires-clause-zeros
by_columns-requires-clause-zeros c =
    (length-take-le _ _ c.args.self.now.width, take_constant 0 _ c.args.self.now.n (replicate_constant 0 255))
